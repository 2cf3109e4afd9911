use Rattle.std.proofs.Common.{arith}
use Rattle.stat_plan.specs.Plans.{front}
use Rattle.control_cast.proofs.Reached.{count_small, may_receive, seen_small}
use Rattle.control_cast.proofs.nodes.CastNodes.apply.Goals as goal

pub issue-requires-clause-seen : goal.issue-requires-clause-seen
issue-requires-clause-seen c =
    let p = c.args.plan.now in
    let st = c.args.self.now in
    let small = seen_small p c.args.commands st.alive.items st.members.items st.inboxes.items (front p) c.invariant.ensures c.requires.within_limit c.requires.net in
    omega (arith, small, c.requires.within_limit)

pub issue-requires-clause-count : goal.issue-requires-clause-count
issue-requires-clause-count c =
    let st = c.args.self.now in
    count_small c.args.plan.now c.args.commands st.alive.items st.members.items st.inboxes.items (front c.args.plan.now) c.invariant.ensures c.requires.within_limit c.requires.net

pub receive-requires-clause-fits : goal.receive-requires-clause-fits
receive-requires-clause-fits c q i =
    let st = c.args.self.now in
    may_receive c.args.plan.now c.args.commands st.alive.items st.members.items st.inboxes.items c.in-Recv.node c.in-Recv.from c.invariant.ensures c.requires.net q i

pub receive-requires-clause-seen : goal.receive-requires-clause-seen
receive-requires-clause-seen c =
    let p = c.args.plan.now in
    let st = c.args.self.now in
    let small = seen_small p c.args.commands st.alive.items st.members.items st.inboxes.items c.in-Recv.node c.invariant.ensures c.requires.within_limit c.requires.net in
    omega (arith, small, c.requires.within_limit)

pub receive-requires-clause-count : goal.receive-requires-clause-count
receive-requires-clause-count c =
    let st = c.args.self.now in
    count_small c.args.plan.now c.args.commands st.alive.items st.members.items st.inboxes.items c.in-Recv.node c.invariant.ensures c.requires.within_limit c.requires.net
