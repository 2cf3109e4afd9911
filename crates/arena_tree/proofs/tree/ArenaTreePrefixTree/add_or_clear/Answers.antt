use Rattle.std.proofs.Common.{◌≡◌, ◌+◌, ◌≤◌, ◌∙◌, ap, sym, subst, arith, List, length}
use Rattle.prefix_tree.specs.Tree.{added, Adds}
use Rattle.prefix_tree.proofs.TreeLaws.{added_adds}
use Rattle.arena_tree.specs.declared.node.Link.TheVariants.{Top}
use Rattle.arena_tree.specs.NodeViews.{NodeView}
use Rattle.arena_tree.specs.ChainForest.{no_chains}
use Rattle.arena_tree.specs.Links.{LinkedNodes, linked}
use Rattle.arena_tree.specs.Reading.{chain_of, forest_at}
use Rattle.arena_tree.specs.TreeView.{path_forest}
use Rattle.arena_tree.specs.Trail.{AreHints, LeadsToOrdered}
use Rattle.arena_tree.specs.Growth.{all_at, CanGrow, grown, rows_grown}
use Rattle.arena_tree.proofs.Views.{tree_is}
use Rattle.arena_tree.proofs.Trees.{Makes, leads_first}
use Rattle.arena_tree.proofs.MakingInPlace.{tree_grows, tree_few, grown_add_counted, grown_add_made, grown_add_hints, grown_add_rows, path_chain}
use Rattle.arena_tree.proofs.tree.ArenaTreePrefixTree.add_or_clear.Goals.{After-drop-self-inside}
use Rattle.arena_tree.proofs.tree.ArenaTreePrefixTree.add_or_clear.Goals as goal

pub grow_path-requires-clause-into : goal.grow_path-requires-clause-into
grow_path-requires-clause-into c = subst (λ (cs : List NodeView). CanGrow cs (all_at Top c.self.inside.first)) (sym (ap (λ a. a.items) c.replace.ensures.value)) (tree_grows c.self.inside.coverage c.self.inside.nodes.items c.self.inside.first c.self.invariant.tree)

pub grow_path-requires-clause-tree : goal.grow_path-requires-clause-tree
grow_path-requires-clause-tree c =
    subst (λ (cs : List NodeView). LeadsToOrdered cs c.self.inside.first) (sym (ap (λ a. a.items) c.replace.ensures.value))
    (record { leads = leads_first c.self.inside.coverage c.self.inside.nodes.items c.self.inside.first c.self.invariant.tree; ordered = c.self.invariant.tree.ordered })

pub grow_path-requires-clause-room : goal.grow_path-requires-clause-room
grow_path-requires-clause-room c = let same = ap (λ a. length a.items) c.replace.ensures.value in let few = tree_few c.self.inside.coverage c.self.inside.nodes.items c.self.inside.first c.self.invariant.tree in omega (arith, same, few)

abbrev after : (c : After-drop-self-inside) → LinkedNodes
after c = linked c.grow_path.new.growth.first c.grow_path.new.growth.nodes.items

rows_so : (c : After-drop-self-inside) → c.grow_path.new.growth.rows ≡ c.self.inside.rows + rows_grown (linked c.self.inside.first c.self.inside.nodes.items) (all_at Top c.self.inside.first) (path_forest c.args.ranks.now c.args.path.now)
rows_so c = c.in-Ok.ensures.rows ∙ (λ i. c.self.inside.rows + rows_grown (linked c.self.inside.first (c.replace.ensures.value i).items) (all_at Top c.self.inside.first) (path_chain c.args.ranks.now c.args.path.now i))

made_so : (c : After-drop-self-inside) → after c ≡ grown (linked c.self.inside.first c.self.inside.nodes.items) (all_at Top c.self.inside.first) (path_forest c.args.ranks.now c.args.path.now)
made_so c = c.in-Ok.ensures.made ∙ (λ i. grown (linked c.self.inside.first (c.replace.ensures.value i).items) (all_at Top c.self.inside.first) (path_chain c.args.ranks.now c.args.path.now i))

fits_so : (c : After-drop-self-inside) → c.self.inside.rows + rows_grown (linked c.self.inside.first c.self.inside.nodes.items) (all_at Top c.self.inside.first) (path_forest c.args.ranks.now c.args.path.now) ≤ 2048
fits_so c = let fits = c.in-Ok.ensures.fits in omega (arith, fits, rows_so c)

makes : (c : After-drop-self-inside) → Makes c.self.inside.coverage c.grow_path.new.growth.nodes.items c.grow_path.new.growth.first (added c.args.self.now.tree c.args.ranks.now c.args.path.now)
makes c = grown_add_made c.self.inside.coverage c.self.inside.nodes.items c.self.inside.first c.self.invariant.tree
    c.args.ranks.now c.args.path.now c.args.self.now.tree (tree_is c.self.view_is) c.requires.not_empty c.requires.in_coverage c.len-len.ensures.good c.self.inside.rows c.self.invariant.rows (after c) (made_so c) (fits_so c)

pub invariant_of-self : goal.invariant_of-self
invariant_of-self c = record {
  tree = (makes c).tree;
  rows = grown_add_rows c.self.inside.coverage c.self.inside.nodes.items c.self.inside.first c.self.invariant.tree
      c.args.ranks.now c.args.path.now c.args.self.now.tree (tree_is c.self.view_is) c.requires.not_empty c.requires.in_coverage c.len-len.ensures.good c.self.inside.rows c.self.invariant.rows (after c) (made_so c) (fits_so c) c.grow_path.new.growth.rows (rows_so c);
  no_ranks = c.self.invariant.no_ranks;
  hints = grown_add_hints c.self.inside.coverage c.self.inside.nodes.items c.self.inside.first c.self.invariant.tree
      c.args.ranks.now c.args.path.now c.args.self.now.tree (tree_is c.self.view_is) c.requires.not_empty c.requires.in_coverage c.len-len.ensures.good c.self.inside.rows c.self.invariant.rows (after c) (made_so c) (fits_so c) c.grow_path.new.trail.items
      (subst (λ (cs : List NodeView). AreHints (forest_at cs c.self.inside.first) c.grow_path.new.trail.items) (ap (λ a. a.items) c.replace.ensures.value)
      (c.in-Ok.ensures.hints (subst (λ (cs : List NodeView). AreHints (forest_at cs c.self.inside.first) c.self.inside.trail.items) (sym (ap (λ a. a.items) c.replace.ensures.value)) c.self.invariant.hints)));
}

pub returns-in-Ok-clause-ok : goal.returns-in-Ok-clause-ok
returns-in-Ok-clause-ok c = (makes c).is

pub returns-in-Ok-clause-pairs : goal.returns-in-Ok-clause-pairs
returns-in-Ok-clause-pairs c = subst (Adds c.args.self.now.tree c.args.ranks.now c.args.path.now) (sym (makes c).is) (added_adds c.args.self.now.tree c.args.ranks.now c.args.path.now)

pub returns-in-Ok-clause-fits : goal.returns-in-Ok-clause-fits
returns-in-Ok-clause-fits c =
    let all = grown_add_counted c.self.inside.coverage c.self.inside.nodes.items c.self.inside.first c.self.invariant.tree
    c.args.ranks.now c.args.path.now c.args.self.now.tree (tree_is c.self.view_is) c.requires.not_empty c.requires.in_coverage c.len-len.ensures.good c.self.inside.rows c.self.invariant.rows in
    let fits = fits_so c in
    omega (arith, all, fits)

pub returns-in-Err-clause-full : goal.returns-in-Err-clause-full
returns-in-Err-clause-full c e =
    let over = c.in-Err.ensures.full e in
    let all = grown_add_counted c.self.inside.coverage c.self.inside.nodes.items c.self.inside.first c.self.invariant.tree
    c.args.ranks.now c.args.path.now c.args.self.now.tree (tree_is c.self.view_is) c.requires.not_empty c.requires.in_coverage c.len-len.ensures.good c.self.inside.rows c.self.invariant.rows in
    let same : c.self.inside.rows + rows_grown (linked c.self.inside.first c.replace.result.items) (all_at Top c.self.inside.first) (chain_of 0 c.args.path.now (c.args.ranks.now, c.args.ranks.now) no_chains no_chains)
    ≡ c.self.inside.rows + rows_grown (linked c.self.inside.first c.self.inside.nodes.items) (all_at Top c.self.inside.first) (path_forest c.args.ranks.now c.args.path.now) =
    (λ i. c.self.inside.rows + rows_grown (linked c.self.inside.first (c.replace.ensures.value i).items) (all_at Top c.self.inside.first) (path_chain c.args.ranks.now c.args.path.now i)) in
    omega (arith, all, over, same)
