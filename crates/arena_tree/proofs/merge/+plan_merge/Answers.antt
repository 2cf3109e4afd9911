use Rattle.std.proofs.Common.{◌≡◌, ◌∙◌, ◌<◌, ap, sym, subst, arith, length}
use Rattle.call_path.specs.Path.{Path}
use Rattle.arena_tree.specs.ChainForest.{no_chains, count_nodes, count_rows}
use Rattle.arena_tree.specs.Steps.{merge_steps}
use Rattle.arena_tree.specs.Reading.{forest_at, LeadsToForest}
use Rattle.arena_tree.specs.Targets.{target_forest}
use Rattle.arena_tree.specs.Plans.{next_place, HasRoom}
use Rattle.arena_tree.proofs.TurnSteps.{side_steps-none}
use Rattle.arena_tree.proofs.Reading.{inside_node, none_in}
use Rattle.arena_tree.proofs.Turns.{leads_first, nodes_are, room_below, leads_later, rest_leads, base_same, places_left, rows_left, fewer, turn_same, room_in_turn, room_less, rows_of_chain, turns_end}
use Rattle.arena_tree.proofs.merge.+plan_merge.Goals.{After-get-node, In_ok-below, In_ok-plan_merge}
use Rattle.arena_tree.proofs.merge.+plan_merge.Goals as goal

pub get-node-requires : goal.get-node-requires
get-node-requires t c = inside_node c.args.from.nodes.now.items c.loop-other.other c.loop-other.invariant.leads c.loop-other-test.true

pub plan_chain-requires-clause-skip : goal.plan_chain-requires-clause-skip
plan_chain-requires-clause-skip t c =
    subst (λ (p : Path). 0 < length p) (sym c.frames.ensures) (rows_of_chain c.args.from.nodes.now.items c.loop-other.other c.get-node.result.now c.loop-other.invariant.leads c.get-node.ensures).0

pub plan_chain-requires-clause-room : goal.plan_chain-requires-clause-room
plan_chain-requires-clause-room t c =
    let os = c.args.from.nodes.now.items in
    let i = c.loop-other.invariant in
    let few = (rows_of_chain os c.loop-other.other c.get-node.result.now i.leads c.get-node.ensures).1 in
    let long = ap length c.frames.ensures in
    room_less c.loop-other.plan (count_rows (forest_at os c.loop-other.other)) _
    (room_in_turn c.loop-other.plan c.args.plan.now (count_rows (forest_at os c.loop-other.other)) (count_rows (forest_at os c.args.other)) i.base i.places i.rows c.requires.room)
    (omega (arith, few, long))

pub plan_merge-requires : goal.plan_merge-requires
plan_merge-requires t c =
    let cs = c.args.nodes.now.items in
    let os = c.args.from.nodes.now.items in
    let i = c.loop-other.invariant in
    let here = c.loop-other.other in
    let node = c.get-node.result.now in
    let same = ap (λ y. count_nodes (forest_at os y)) c.first.ensures in
    let nodes = nodes_are cs os here i.leads node c.get-node.ensures c.loop-other.into c.plan_chain.new.into c.in_ok-below.below c.frames.result.now c.label.result.now c.ends.result.now c.frames.ensures c.label.ensures c.ends.ensures c.loop-other.plan c.plan_chain.new.plan c.in_ok-below.ensures in
    let falls : count_nodes (forest_at os c.first.result) < t = omega (arith, same, nodes, i.less, c.decreases) in
    let room : HasRoom c.plan_chain.new.plan (count_rows (forest_at os node.first)) =
    room_below cs os here i.leads node c.get-node.ensures c.loop-other.into c.plan_chain.new.into c.in_ok-below.below c.frames.result.now c.label.result.now c.ends.result.now c.frames.ensures c.label.ensures c.ends.ensures c.loop-other.plan c.plan_chain.new.plan c.in_ok-below.ensures
    (room_in_turn c.loop-other.plan c.args.plan.now (count_rows (forest_at os here)) (count_rows (forest_at os c.args.other)) i.base i.places i.rows c.requires.room) in
    let first = leads_first cs os here i.leads node c.get-node.ensures c.loop-other.into c.plan_chain.new.into c.in_ok-below.below c.frames.result.now c.label.result.now c.ends.result.now c.frames.ensures c.label.ensures c.ends.ensures c.loop-other.plan c.plan_chain.new.plan c.in_ok-below.ensures in (
      falls,
      (
        c.in_ok-below.ensures.below_leads,
        (
          subst (LeadsToForest os) (sym c.first.ensures) first,
          (
            c.requires.no_ranks,
            subst (λ y. HasRoom c.plan_chain.new.plan (count_rows (forest_at os y))) (sym c.first.ensures) room,
          ),
        ),
      ),
    )

pub loop-other-smaller : goal.loop-other-smaller
loop-other-smaller t c =
    fewer c.args.nodes.now.items c.args.from.nodes.now.items c.loop-other.other c.loop-other.invariant.leads c.get-node.result.now c.get-node.ensures c.loop-other.into c.plan_chain.new.into c.in_ok-below.below c.frames.result.now c.label.result.now c.ends.result.now c.frames.ensures c.label.ensures c.ends.ensures c.loop-other.plan c.plan_chain.new.plan c.in_ok-below.ensures
    c.first.result c.first.ensures c.plan_merge.new.plan c.in_ok-plan_merge.ensures.steps c.in_ok-plan_merge.ensures.places c.in_ok-plan_merge.ensures.rows c.next-other.result c.next-other.ensures

pub loop-other-preserved : goal.loop-other-preserved
loop-other-preserved t c =
    let cs = c.args.nodes.now.items in
    let os = c.args.from.nodes.now.items in
    let i = c.loop-other.invariant in
    let here = c.loop-other.other in
    let node = c.get-node.result.now in
    let less = fewer cs os here i.leads node c.get-node.ensures c.loop-other.into c.plan_chain.new.into c.in_ok-below.below c.frames.result.now c.label.result.now c.ends.result.now c.frames.ensures c.label.ensures c.ends.ensures c.loop-other.plan c.plan_chain.new.plan c.in_ok-below.ensures
    c.first.result c.first.ensures c.plan_merge.new.plan c.in_ok-plan_merge.ensures.steps c.in_ok-plan_merge.ensures.places c.in_ok-plan_merge.ensures.rows c.next-other.result c.next-other.ensures in
    let places = places_left cs os here i.leads node c.get-node.ensures c.loop-other.into c.plan_chain.new.into c.in_ok-below.below c.frames.result.now c.label.result.now c.ends.result.now c.frames.ensures c.label.ensures c.ends.ensures c.loop-other.plan c.plan_chain.new.plan c.in_ok-below.ensures
    c.first.result c.first.ensures c.plan_merge.new.plan c.in_ok-plan_merge.ensures.steps c.in_ok-plan_merge.ensures.places c.in_ok-plan_merge.ensures.rows c.next-other.result c.next-other.ensures in
    let rows = rows_left cs os here i.leads node c.get-node.ensures c.loop-other.into c.plan_chain.new.into c.in_ok-below.below c.frames.result.now c.label.result.now c.ends.result.now c.frames.ensures c.label.ensures c.ends.ensures c.loop-other.plan c.plan_chain.new.plan c.in_ok-below.ensures
    c.first.result c.first.ensures c.plan_merge.new.plan c.in_ok-plan_merge.ensures.steps c.in_ok-plan_merge.ensures.places c.in_ok-plan_merge.ensures.rows c.next-other.result c.next-other.ensures in
    record {
      target = rest_leads cs os here i.leads node c.get-node.ensures c.loop-other.into c.plan_chain.new.into c.in_ok-below.below c.frames.result.now c.label.result.now c.ends.result.now c.frames.ensures c.label.ensures c.ends.ensures c.loop-other.plan c.plan_chain.new.plan c.in_ok-below.ensures
          c.first.result c.first.ensures c.plan_merge.new.plan c.in_ok-plan_merge.ensures.steps c.in_ok-plan_merge.ensures.places c.in_ok-plan_merge.ensures.rows c.next-other.result c.next-other.ensures;
      leads = leads_later cs os here i.leads node c.get-node.ensures c.loop-other.into c.plan_chain.new.into c.in_ok-below.below c.frames.result.now c.label.result.now c.ends.result.now c.frames.ensures c.label.ensures c.ends.ensures c.loop-other.plan c.plan_chain.new.plan c.in_ok-below.ensures
          c.first.result c.first.ensures c.plan_merge.new.plan c.in_ok-plan_merge.ensures.steps c.in_ok-plan_merge.ensures.places c.in_ok-plan_merge.ensures.rows c.next-other.result c.next-other.ensures;
      base = base_same cs os here i.leads node c.get-node.ensures c.loop-other.into c.plan_chain.new.into c.in_ok-below.below c.frames.result.now c.label.result.now c.ends.result.now c.frames.ensures c.label.ensures c.ends.ensures c.loop-other.plan c.plan_chain.new.plan c.in_ok-below.ensures
          c.first.result c.first.ensures c.plan_merge.new.plan c.in_ok-plan_merge.ensures.steps c.in_ok-plan_merge.ensures.places c.in_ok-plan_merge.ensures.rows c.next-other.result c.next-other.ensures ∙ i.base;
      same = turn_same cs os here i.leads node c.get-node.ensures c.loop-other.into c.plan_chain.new.into c.in_ok-below.below c.frames.result.now c.label.result.now c.ends.result.now c.frames.ensures c.label.ensures c.ends.ensures c.loop-other.plan c.plan_chain.new.plan c.in_ok-below.ensures
          c.first.result c.first.ensures c.plan_merge.new.plan c.in_ok-plan_merge.ensures.steps c.in_ok-plan_merge.ensures.places c.in_ok-plan_merge.ensures.rows c.next-other.result c.next-other.ensures ∙ i.same;
      places = omega (arith, places, i.places);
      rows = omega (arith, rows, i.rows);
      less = omega (arith, less, i.less);
    }

pub returns-clause-steps : goal.returns-clause-steps
returns-clause-steps t c =
    let cs = c.args.nodes.now.items in
    let os = c.args.from.nodes.now.items in
    let k = target_forest cs c.loop-other.into in
    let none : forest_at os c.loop-other.other ≡ no_chains = ap (forest_at os) c.loop-other-test.false ∙ none_in os c.requires.other.within_limit in
    turns_end c.loop-other.plan c.args.plan.now _ _ c.loop-other.invariant.base c.loop-other.invariant.same
    (ap (merge_steps c.loop-other.into.link (next_place c.loop-other.plan) k) none ∙ side_steps-none c.loop-other.into.link (next_place c.loop-other.plan) k)
