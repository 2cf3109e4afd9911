use Rattle.std.proofs.Common.{◌≡◌, ◌+◌, ◌∙◌, ap, sym, subst, arith, List, length}
use Rattle.std.proofs.lemmas.List.Elements.{All-nil}
use Rattle.prefix_tree.specs.Tree.{merged, Unites}
use Rattle.prefix_tree.proofs.TreeLemmas.{merged_unites}
use Rattle.arena_tree.specs.declared.node.Link.TheVariants.{Top}
use Rattle.arena_tree.specs.NodeViews.{NodeView}
use Rattle.arena_tree.specs.Links.{linked}
use Rattle.arena_tree.specs.Reading.{forest_at}
use Rattle.arena_tree.specs.Trail.{IsLaterSibling, AreHints}
use Rattle.arena_tree.specs.Growth.{all_at, CanGrow, grown, rows_grown}
use Rattle.arena_tree.proofs.Views.{tree_is}
use Rattle.arena_tree.proofs.Trees.{Makes, leads_first}
use Rattle.arena_tree.proofs.MakingInPlace.{tree_grows, tree_few, grown_merge_counted, grown_merge_made, grown_merge_rows}
use Rattle.arena_tree.proofs.tree.ArenaTreePrefixTree.merge_or_clear.Goals.{After-drop-self-inside-2}
use Rattle.arena_tree.proofs.tree.ArenaTreePrefixTree.merge_or_clear.Goals as goal

pub grow_tree-requires-clause-into : goal.grow_tree-requires-clause-into
grow_tree-requires-clause-into c = subst (λ (cs : List NodeView). CanGrow cs (all_at Top c.self.inside.first)) (sym (ap (λ a. a.items) c.replace.ensures.value)) (tree_grows c.self.inside.coverage c.self.inside.nodes.items c.self.inside.first c.self.invariant.tree)

pub grow_tree-requires-clause-other : goal.grow_tree-requires-clause-other
grow_tree-requires-clause-other c = leads_first c.other.inside.coverage c.other.inside.nodes.items c.other.inside.first c.other.invariant.tree

pub grow_tree-requires-clause-room : goal.grow_tree-requires-clause-room
grow_tree-requires-clause-room c =
    let same = ap (λ a. length a.items) c.replace.ensures.value in
    let few = tree_few c.self.inside.coverage c.self.inside.nodes.items c.self.inside.first c.self.invariant.tree in
    omega (arith, same, few, c.other.invariant.tree.within_limit)

pub returns-in-Err-clause-full : goal.returns-in-Err-clause-full
returns-in-Err-clause-full c e =
    let over = c.in-Err.ensures.full e in
    let all = grown_merge_counted c.self.inside.coverage c.self.inside.nodes.items c.self.inside.first c.self.invariant.tree
    c.other.inside.coverage c.other.inside.nodes.items c.other.inside.first c.args.self.now.tree c.args.other.now.tree (tree_is c.self.view_is) (tree_is c.other.view_is) c.other.invariant.tree c.self.inside.rows c.self.invariant.rows in
    let same = ap (λ a. rows_grown (linked c.self.inside.first a.items) (all_at Top c.self.inside.first) (forest_at c.other.inside.nodes.items c.other.inside.first)) c.replace.ensures.value in
    omega (arith, all, over, same)

abbrev after : (c : After-drop-self-inside-2) → Rattle.arena_tree.specs.Links.LinkedNodes
after c = linked c.grow_tree.new.growth.first c.grow_tree.new.growth.nodes.items

rows_so : (c : After-drop-self-inside-2) → c.grow_tree.new.growth.rows ≡ c.self.inside.rows + rows_grown (linked c.self.inside.first c.self.inside.nodes.items) (all_at Top c.self.inside.first) (forest_at c.other.inside.nodes.items c.other.inside.first)
rows_so c = c.in-Ok.ensures.rows ∙ ap (λ a. c.self.inside.rows + rows_grown (linked c.self.inside.first a.items) (all_at Top c.self.inside.first) (forest_at c.other.inside.nodes.items c.other.inside.first)) c.replace.ensures.value

makes : (c : After-drop-self-inside-2) → Makes c.union_into.new.self c.grow_tree.new.growth.nodes.items c.grow_tree.new.growth.first (merged c.args.self.now.tree c.args.other.now.tree)
makes c =
    grown_merge_made c.self.inside.coverage c.self.inside.nodes.items c.self.inside.first c.self.invariant.tree
    c.other.inside.coverage c.other.inside.nodes.items c.other.inside.first c.args.self.now.tree c.args.other.now.tree (tree_is c.self.view_is) (tree_is c.other.view_is) c.other.invariant.tree c.self.inside.rows c.self.invariant.rows c.union_into.new.self (after c)
    (c.in-Ok.ensures.made ∙ ap (λ a. grown (linked c.self.inside.first a.items) (all_at Top c.self.inside.first) (forest_at c.other.inside.nodes.items c.other.inside.first)) c.replace.ensures.value)
    (let fits = c.in-Ok.ensures.fits in omega (arith, fits, rows_so c))
    c.in-Ok-union_into.ensures.ok

pub invariant_of-self-2 : goal.invariant_of-self-2
invariant_of-self-2 c = record {
  tree = (makes c).tree;
  rows = grown_merge_rows c.self.inside.coverage c.self.inside.nodes.items c.self.inside.first c.self.invariant.tree
      c.other.inside.coverage c.other.inside.nodes.items c.other.inside.first c.args.self.now.tree c.args.other.now.tree (tree_is c.self.view_is) (tree_is c.other.view_is) c.other.invariant.tree c.self.inside.rows c.self.invariant.rows c.union_into.new.self c.grow_tree.new.growth.nodes.items c.grow_tree.new.growth.first c.grow_tree.new.growth.rows (makes c) (rows_so c);
  no_ranks = c.self.invariant.no_ranks;
  hints = subst (AreHints (forest_at c.grow_tree.new.growth.nodes.items c.grow_tree.new.growth.first)) (sym c.clear.ensures.items) (All-nil (λ h. IsLaterSibling (forest_at c.grow_tree.new.growth.nodes.items c.grow_tree.new.growth.first) h.first h.later));
}

pub returns-clause-ok : goal.returns-clause-ok
returns-clause-ok c = (makes c).is

pub returns-clause-pairs : goal.returns-clause-pairs
returns-clause-pairs c = subst (Unites c.args.self.now.tree c.args.other.now.tree) (sym (makes c).is) (merged_unites c.args.self.now.tree c.args.other.now.tree)

pub returns-clause-fits : goal.returns-clause-fits
returns-clause-fits c =
    let all = grown_merge_counted c.self.inside.coverage c.self.inside.nodes.items c.self.inside.first c.self.invariant.tree
    c.other.inside.coverage c.other.inside.nodes.items c.other.inside.first c.args.self.now.tree c.args.other.now.tree (tree_is c.self.view_is) (tree_is c.other.view_is) c.other.invariant.tree c.self.inside.rows c.self.invariant.rows in
    let fits = c.in-Ok.ensures.fits in
    omega (arith, all, fits, rows_so c)
