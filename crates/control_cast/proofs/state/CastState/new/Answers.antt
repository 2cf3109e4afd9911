use Rattle.std.proofs.Common.{◌∙◌}
use Rattle.control_cast.specs.CastStates.{nodes_state}
use Rattle.control_cast.proofs.Stepping.{all_nodes_below, start_counts, start_net}
use Rattle.control_cast.proofs.state.CastState.new.Goals as goal

pub count-requires-clause-net : goal.count-requires-clause-net
count-requires-clause-net c =
    let v = c.in_ok-nodes.nodes in
    start_net c.args.plan.now c.args.commands v.alive.items v.members.items v.inboxes.items c.in_ok-nodes.ensures

pub count-requires-clause-below : goal.count-requires-clause-below
count-requires-clause-below c = all_nodes_below c.args.plan.now c.as_slice.result.now (c.as_slice.ensures.value ∙ c.in_ok-all.ensures)

pub count-requires-clause-counted : goal.count-requires-clause-counted
count-requires-clause-counted c = start_counts c.args.plan.now c.args.commands (nodes_state c.args.plan.now c.in_ok-nodes.nodes) c.as_slice.result.now c.in_ok-counts.counts c.nodes.result (c.as_slice.ensures.value ∙ c.in_ok-all.ensures) c.in_ok-counts.ensures c.nodes.ensures

pub returns-clause-net : goal.returns-clause-net
returns-clause-net c =
    let v = c.in_ok-nodes.nodes in
    record { net = start_net c.args.plan.now c.args.commands v.alive.items v.members.items v.inboxes.items c.in_ok-nodes.ensures; counted = c.count.ensures }
