use Rattle.arena_tree.proofs.Views.{tree_is}
use Rattle.std.proofs.Common.{sym, subst, arith, refl}
use Rattle.prefix_tree.specs.Tree.{added, Adds}
use Rattle.prefix_tree.proofs.TreeLaws.{added_adds}
use Rattle.arena_tree.specs.Links.{linked}
use Rattle.arena_tree.proofs.Trees.{Makes, leads_first}
use Rattle.arena_tree.proofs.Making.{room_first, add_counted, add_made, add_hints, add_rows}
use Rattle.arena_tree.proofs.Trails.{first_there}
use Rattle.arena_tree.proofs.tree.ArenaTreePrefixTree.add.Goals.{After-drop-self-inside}
use Rattle.arena_tree.proofs.tree.ArenaTreePrefixTree.add.Goals as goal

pub plan_path-requires-clause-target : goal.plan_path-requires-clause-target
plan_path-requires-clause-target c = (leads_first c.self.inside.coverage c.self.inside.nodes.items c.self.inside.first c.self.invariant.tree, refl)

pub plan_path-requires-clause-room : goal.plan_path-requires-clause-room
plan_path-requires-clause-room c =
    room_first c.self.inside.nodes.items c.len.result c.in_room-plan.result c.in_room-plan.ensures.base c.in_room-plan.ensures.steps c.len.ensures c.self.inside.coverage c.self.inside.first c.self.invariant.tree _ (omega (arith, c.len-len.ensures.within_limit))

pub plan_path-requires-clause-tree : goal.plan_path-requires-clause-tree
plan_path-requires-clause-tree c = record { leads = leads_first c.self.inside.coverage c.self.inside.nodes.items c.self.inside.first c.self.invariant.tree; ordered = c.self.invariant.tree.ordered }

pub plan_path-requires-clause-inside : goal.plan_path-requires-clause-inside
plan_path-requires-clause-inside c whole off = first_there c.self.inside.nodes.items c.self.inside.first (leads_first c.self.inside.coverage c.self.inside.nodes.items c.self.inside.first c.self.invariant.tree) off

pub returns-in-Err-clause-full : goal.returns-in-Err-clause-full
returns-in-Err-clause-full c e =
    let all = add_counted c.self.inside.coverage c.args.ranks.now c.args.path.now c.self.inside.nodes.items c.self.inside.first c.args.self.now.tree (tree_is c.self.view_is) c.self.invariant.tree c.requires.not_empty c.requires.in_coverage c.len-len.ensures.good
    c.len.result c.self.inside.rows c.in_room-plan.result c.plan_path.new.plan c.in_room-plan.ensures.base c.in_room-plan.ensures.steps c.len.ensures c.self.invariant.rows c.plan_path.new.into c.in_ok-_below._below c.in_ok-_below.ensures.plans in
    let over = c.in-Err.ensures.full e in
    omega (arith, all, over)

makes : (c : After-drop-self-inside) → Makes c.self.inside.coverage c.apply.new.nodes.items c.apply.new.first (added c.args.self.now.tree c.args.ranks.now c.args.path.now)
makes c =
    add_made c.self.inside.coverage c.args.ranks.now c.args.path.now c.self.inside.nodes.items c.self.inside.first c.args.self.now.tree (tree_is c.self.view_is) c.self.invariant.tree c.requires.not_empty c.requires.in_coverage c.len-len.ensures.good
    c.len.result c.self.inside.rows c.in_room-plan.result c.plan_path.new.plan c.in_room-plan.ensures.base c.in_room-plan.ensures.steps c.len.ensures c.self.invariant.rows c.plan_path.new.into c.in_ok-_below._below c.in_ok-_below.ensures.plans
    c.make_room.new.nodes.items c.into_steps.result.items (linked c.apply.new.first c.apply.new.nodes.items) c.apply.ensures c.in_default.ensures.items c.into_steps.ensures c.in_default.ensures.fits

pub invariant_of-self-2 : goal.invariant_of-self-2
invariant_of-self-2 c = record {
  tree = (makes c).tree;
  rows = add_rows c.self.inside.coverage c.args.ranks.now c.args.path.now c.self.inside.nodes.items c.self.inside.first c.args.self.now.tree (tree_is c.self.view_is) c.self.invariant.tree c.requires.not_empty c.requires.in_coverage c.len-len.ensures.good
      c.len.result c.self.inside.rows c.in_room-plan.result c.plan_path.new.plan c.in_room-plan.ensures.base c.in_room-plan.ensures.steps c.len.ensures c.self.invariant.rows c.plan_path.new.into c.in_ok-_below._below c.in_ok-_below.ensures.plans
      c.apply.new.nodes.items c.apply.new.first c.rows.result (makes c) c.rows.ensures;
  no_ranks = c.self.invariant.no_ranks;
  hints = add_hints c.self.inside.coverage c.args.ranks.now c.args.path.now c.self.inside.nodes.items c.self.inside.first c.args.self.now.tree (tree_is c.self.view_is) c.self.invariant.tree c.requires.not_empty c.requires.in_coverage c.len-len.ensures.good
      c.len.result c.self.inside.rows c.in_room-plan.result c.plan_path.new.plan c.in_room-plan.ensures.base c.in_room-plan.ensures.steps c.len.ensures c.self.invariant.rows c.plan_path.new.into c.in_ok-_below._below c.in_ok-_below.ensures.plans
      c.make_room.new.nodes.items c.into_steps.result.items (linked c.apply.new.first c.apply.new.nodes.items) c.apply.ensures c.in_default.ensures.items c.into_steps.ensures c.in_default.ensures.fits
      c.plan_path.new.trail.items c.plan_path.ensures.hints;
}

pub returns-clause-ok : goal.returns-clause-ok
returns-clause-ok c = (makes c).is

pub returns-clause-pairs : goal.returns-clause-pairs
returns-clause-pairs c = subst (Adds c.args.self.now.tree c.args.ranks.now c.args.path.now) (sym (makes c).is) (added_adds c.args.self.now.tree c.args.ranks.now c.args.path.now)

pub returns-clause-fits : goal.returns-clause-fits
returns-clause-fits c =
    let all = add_counted c.self.inside.coverage c.args.ranks.now c.args.path.now c.self.inside.nodes.items c.self.inside.first c.args.self.now.tree (tree_is c.self.view_is) c.self.invariant.tree c.requires.not_empty c.requires.in_coverage c.len-len.ensures.good
    c.len.result c.self.inside.rows c.in_room-plan.result c.plan_path.new.plan c.in_room-plan.ensures.base c.in_room-plan.ensures.steps c.len.ensures c.self.invariant.rows c.plan_path.new.into c.in_ok-_below._below c.in_ok-_below.ensures.plans in
    omega (arith, all, c.in_default.ensures.fits)
