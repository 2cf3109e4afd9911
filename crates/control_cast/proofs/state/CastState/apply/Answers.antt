use Rattle.std.proofs.Common.{subst, sym}
use Rattle.control_cast.specs.CastEvents.{AreCountedBut}
use Rattle.control_cast.specs.CastStates.{nodes_state, state_of}
use Rattle.control_cast.proofs.Stepping.{done_counts, done_net}
use Rattle.control_cast.proofs.state.CastState.apply.Goals as goal

pub count-requires-clause-net : goal.count-requires-clause-net
count-requires-clause-net c =
    let old = c.args.self.now.nodes in
    let new = c.apply.new.self in
    done_net c.args.plan.now c.args.commands c.args.event c.in_ok-changed.changed.items old.alive.items new.alive.items old.members.items new.members.items old.inboxes.items new.inboxes.items c.requires.net.net c.requires.enabled c.in_ok-changed.ensures

pub count-requires-clause-counted : goal.count-requires-clause-counted
count-requires-clause-counted c =
    let p = c.args.plan.now in
    let new = c.apply.new.self in
    subst (λ numbers. AreCountedBut p c.args.commands (nodes_state p new) numbers c.args.self.now.counts) (sym c.as_slice.ensures.value)
    (done_counts p c.args.commands c.args.event c.in_ok-changed.changed.items c.args.self.now.counts (state_of p c.args.self.now) new.alive.items new.members.items new.inboxes.items c.requires.net.counted c.in_ok-changed.ensures)

pub returns-clause-net : goal.returns-clause-net
returns-clause-net c =
    let old = c.args.self.now.nodes in
    let new = c.apply.new.self in
    record {
      net = done_net c.args.plan.now c.args.commands c.args.event c.in_ok-changed.changed.items old.alive.items new.alive.items old.members.items new.members.items old.inboxes.items new.inboxes.items c.requires.net.net c.requires.enabled c.in_ok-changed.ensures;
      counted = c.count.ensures;
    }
