use Rattle.arena_tree.proofs.Views.{tree_is}
use Rattle.std.proofs.Common.{sym, subst, arith, refl}
use Rattle.prefix_tree.specs.Tree.{merged, Unites}
use Rattle.prefix_tree.proofs.TreeLemmas.{merged_unites}
use Rattle.std.proofs.lemmas.List.Elements.{All-nil}
use Rattle.arena_tree.specs.Links.{linked}
use Rattle.arena_tree.specs.Reading.{forest_at}
use Rattle.arena_tree.specs.Trail.{IsLaterSibling, AreHints}
use Rattle.arena_tree.proofs.Trees.{Makes, leads_first}
use Rattle.arena_tree.proofs.Making.{room_first, merge_counted, merge_made, merge_has_rows}
use Rattle.arena_tree.proofs.tree.ArenaTreePrefixTree.merge.Goals.{After-drop-room}
use Rattle.arena_tree.proofs.tree.ArenaTreePrefixTree.merge.Goals as goal

pub plan_merge-requires-clause-target : goal.plan_merge-requires-clause-target
plan_merge-requires-clause-target c = (leads_first c.self.inside.coverage c.self.inside.nodes.items c.self.inside.first c.self.invariant.tree, refl)

pub plan_merge-requires-clause-other : goal.plan_merge-requires-clause-other
plan_merge-requires-clause-other c = leads_first c.other.inside.coverage c.other.inside.nodes.items c.other.inside.first c.other.invariant.tree

pub plan_merge-requires-clause-room : goal.plan_merge-requires-clause-room
plan_merge-requires-clause-room c =
    room_first c.self.inside.nodes.items c.len-2.result c.in_room-plan.result c.in_room-plan.ensures.base c.in_room-plan.ensures.steps c.len-2.ensures c.self.inside.coverage c.self.inside.first c.self.invariant.tree _ c.other.invariant.tree.within_limit

pub returns-in-Err-clause-full : goal.returns-in-Err-clause-full
returns-in-Err-clause-full c e =
    let all = merge_counted c.self.inside.coverage c.other.inside.coverage c.self.inside.nodes.items c.other.inside.nodes.items c.self.inside.first c.other.inside.first c.args.self.now.tree c.args.other.now.tree (tree_is c.self.view_is) (tree_is c.other.view_is) c.self.invariant.tree c.other.invariant.tree
    c.len-2.result c.self.inside.rows c.in_room-plan.result c.plan_merge.new.plan c.in_room-plan.ensures.base c.in_room-plan.ensures.steps c.len-2.ensures c.self.invariant.rows c.in_ok-plan_merge.ensures.steps in
    let over = c.in-Err.ensures.full e in
    omega (arith, all, over)

makes : (c : After-drop-room) → Makes c.union_into.new.self c.apply-room.new.nodes.items c.apply-room.new.first (merged c.args.self.now.tree c.args.other.now.tree)
makes c =
    merge_made c.self.inside.coverage c.other.inside.coverage c.self.inside.nodes.items c.other.inside.nodes.items c.self.inside.first c.other.inside.first c.args.self.now.tree c.args.other.now.tree (tree_is c.self.view_is) (tree_is c.other.view_is) c.self.invariant.tree c.other.invariant.tree
    c.len-2.result c.self.inside.rows c.in_room-plan.result c.plan_merge.new.plan c.in_room-plan.ensures.base c.in_room-plan.ensures.steps c.len-2.ensures c.self.invariant.rows c.in_ok-plan_merge.ensures.steps
    c.union_into.new.self c.make_room.new.nodes.items c.into_steps.result.items (linked c.apply-room.new.first c.apply-room.new.nodes.items) c.apply-room.ensures c.in_default.ensures.items c.into_steps.ensures c.in_default.ensures.fits c.in_ok-union_into.ensures.ok

pub invariant_of-self-2 : goal.invariant_of-self-2
invariant_of-self-2 c = record {
  tree = (makes c).tree;
  rows = merge_has_rows c.self.inside.coverage c.other.inside.coverage c.self.inside.nodes.items c.other.inside.nodes.items c.self.inside.first c.other.inside.first c.args.self.now.tree c.args.other.now.tree (tree_is c.self.view_is) (tree_is c.other.view_is) c.self.invariant.tree c.other.invariant.tree
      c.len-2.result c.self.inside.rows c.in_room-plan.result c.plan_merge.new.plan c.in_room-plan.ensures.base c.in_room-plan.ensures.steps c.len-2.ensures c.self.invariant.rows c.in_ok-plan_merge.ensures.steps
      c.union_into.new.self c.apply-room.new.nodes.items c.apply-room.new.first c.rows.result (makes c) c.rows.ensures;
  no_ranks = c.self.invariant.no_ranks;
  hints = subst (AreHints (forest_at c.apply-room.new.nodes.items c.apply-room.new.first)) (sym c.clear.ensures.items) (All-nil (λ h. IsLaterSibling (forest_at c.apply-room.new.nodes.items c.apply-room.new.first) h.first h.later));
}

pub returns-clause-ok : goal.returns-clause-ok
returns-clause-ok c = (makes c).is

pub returns-clause-pairs : goal.returns-clause-pairs
returns-clause-pairs c = subst (Unites c.args.self.now.tree c.args.other.now.tree) (sym (makes c).is) (merged_unites c.args.self.now.tree c.args.other.now.tree)

pub returns-clause-fits : goal.returns-clause-fits
returns-clause-fits c =
    let all = merge_counted c.self.inside.coverage c.other.inside.coverage c.self.inside.nodes.items c.other.inside.nodes.items c.self.inside.first c.other.inside.first c.args.self.now.tree c.args.other.now.tree (tree_is c.self.view_is) (tree_is c.other.view_is) c.self.invariant.tree c.other.invariant.tree
    c.len-2.result c.self.inside.rows c.in_room-plan.result c.plan_merge.new.plan c.in_room-plan.ensures.base c.in_room-plan.ensures.steps c.len-2.ensures c.self.invariant.rows c.in_ok-plan_merge.ensures.steps in
    omega (arith, all, c.in_default.ensures.fits)
