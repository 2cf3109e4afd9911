use Rattle.std.proofs.Common.{◌∙◌, ◌-◌, sym, arith}
use Rattle.overlay_event.specs.declared.event.Event.TheVariants.{Tick}
use Rattle.overlay_net.specs.Places.{events_out}
use Rattle.overlay_net.specs.declared.events.Nth.TheVariants.{Found, Beyond}
use Rattle.overlay_net.proofs.ReadPlaces.{first_tick, no_tick, nth_behind, nth_receipt, nth_sample, past_tick}
use Rattle.overlay_net.proofs.nodes.NetNodes.active_event.Goals as goal

pub returns-in-Found : goal.returns-in-Found
returns-in-Found g c = nth_sample c.args.plan.now (events_out c.args.self.now.places.items) c.args.node.now c.args.inbox.now.waiting c.args.i c.in-Found.event c.in-Found.ensures

pub returns-in-Found-receive_event : goal.returns-in-Found-receive_event
returns-in-Found-receive_event g c =
    nth_receipt c.args.plan.now (events_out c.args.self.now.places.items) c.args.node.now c.args.inbox.now.waiting c.number.result c.args.i c.in-Beyond.left c.in-Found-receive_event.event
    c.number.ensures c.in-Beyond.ensures c.in-Found-receive_event.ensures

pub returns-then-not-has_running : goal.returns-then-not-has_running
returns-then-not-has_running g c =
    let k = c.in-Beyond-receive_event.left in
    nth_behind c.args.plan.now (events_out c.args.self.now.places.items) c.args.node.now c.args.inbox.now.waiting c.number.result c.args.i c.in-Beyond.left k (Beyond k)
    c.number.ensures c.in-Beyond.ensures c.in-Beyond-receive_event.ensures
    (no_tick c.args.plan.now (events_out c.args.self.now.places.items) c.args.node.now k (sym (c.has_running.ensures c.args.plan.now c.requires.node) ∙ c.if-not-has_running.true))

pub returns-then-left-gt0 : goal.returns-then-left-gt0
returns-then-left-gt0 g c =
    let k = c.in-Beyond-receive_event.left in
    nth_behind c.args.plan.now (events_out c.args.self.now.places.items) c.args.node.now c.args.inbox.now.waiting c.number.result c.args.i c.in-Beyond.left k (Beyond (k - 1))
    c.number.ensures c.in-Beyond.ensures c.in-Beyond-receive_event.ensures
    (past_tick c.args.plan.now (events_out c.args.self.now.places.items) c.args.node.now k (sym (c.has_running.ensures c.args.plan.now c.requires.node) ∙ c.if-not-has_running.false) c.if-left-gt0.true)

pub returns : goal.returns
returns g c =
    let k = c.in-Beyond-receive_event.left in
    nth_behind c.args.plan.now (events_out c.args.self.now.places.items) c.args.node.now c.args.inbox.now.waiting c.number.result c.args.i c.in-Beyond.left k (Found (Tick c.number-2.result))
    c.number.ensures c.in-Beyond.ensures c.in-Beyond-receive_event.ensures
    (first_tick c.args.plan.now (events_out c.args.self.now.places.items) c.args.node.now k c.number-2.result (sym (c.has_running.ensures c.args.plan.now c.requires.node) ∙ c.if-not-has_running.false) (omega (arith, c.if-left-gt0.false)) c.number-2.ensures)
