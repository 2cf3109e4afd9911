use Rattle.std.proofs.Common.{◌∙◌, ap, sym}
use Rattle.stat_plan.specs.Machine.Journals.{event_by}
use Rattle.control_cast.specs.Machine.{enabled_events}
use Rattle.control_cast.specs.CastStates.{state_of}
use Rattle.control_cast.proofs.CastPicks.{event_enabled, weighs_less, come_more, all_come}
use Rattle.control_cast.proofs.state.CastState.run_picked.Goals as goal

pub apply-requires-clause-enabled : goal.apply-requires-clause-enabled
apply-requires-clause-enabled c = event_enabled c.args.plan.now c.args.commands (state_of c.args.plan.now c.loop-event.self) c.next_number.result c.in-Some.event c.invariant.ensures c.in-Some.ensures

pub loop-event-smaller : goal.loop-event-smaller
loop-event-smaller c =
    let p = c.args.plan.now in
    let old = c.loop-event.self.nodes in
    weighs_less p c.args.commands old.alive.items old.members.items old.inboxes.items c.in-Some.event (state_of p c.apply.new.self) c.invariant.ensures c.loop-event.invariant.net.net
    (event_enabled p c.args.commands (state_of p c.loop-event.self) c.next_number.result c.in-Some.event c.invariant.ensures c.in-Some.ensures) c.in_ok-apply.ensures.step

pub loop-event-preserved : goal.loop-event-preserved
loop-event-preserved c =
    let p = c.args.plan.now in
    let old = state_of p c.loop-event.self in
    record {
      net = c.in_ok-apply.ensures.net;
      come = come_more p c.args.commands (state_of p c.args.self.now) old (state_of p c.apply.new.self) c.args.seed c.loop-event.number c.next_number-number.result c.loop-event.journal c.push.new.self c.in-Some.event c.loop-event.invariant.come
          (c.in-Some.ensures ∙ ap (event_by (enabled_events p c.args.commands old)) (c.next_number.ensures ∙ sym c.next_number-number.ensures))
          c.next_number-number.ensures c.in_ok-apply.ensures.step c.in_ok-push.ensures.ok;
    }

pub returns-clause-picked : goal.returns-clause-picked
returns-clause-picked c =
    all_come c.args.plan.now c.args.commands (state_of c.args.plan.now c.args.self.now) (state_of c.args.plan.now c.loop-event.self) c.args.seed c.loop-event.number c.next_number.result c.loop-event.journal c.loop-event.invariant.come c.in_default.ensures
