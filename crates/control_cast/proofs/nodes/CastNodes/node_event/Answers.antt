use Rattle.std.proofs.Common.{◌∙◌, ap, slice_get, sym}
use Rattle.control_cast.proofs.CastEvents.{events_up, events_down}
use Rattle.control_cast.proofs.nodes.CastNodes.node_event.Goals as goal

pub returns-then-not-is_up : goal.returns-then-not-is_up
returns-then-not-is_up c =
    sym (ap (λ l. slice_get l c.args.i) (events_down c.args.plan.now c.args.commands c.args.self.now.alive.items c.args.self.now.members.items c.args.self.now.inboxes.items c.args.n c.index-inbox.result.now c.is_up.result c.invariant.ensures c.requires.net c.requires.below c.invariant-2.ensures c.index-inbox.ensures c.is_up.ensures c.if-not-is_up.true))

pub returns : goal.returns
returns c =
    c.own_event.ensures ∙ ap (λ l. slice_get l c.args.i) (events_up c.args.plan.now c.args.commands c.args.self.now.alive.items c.args.self.now.members.items c.args.self.now.inboxes.items c.args.n c.index.result.now c.index-inbox.result.now c.is_up.result c.invariant.ensures c.requires.net c.requires.below c.invariant-2.ensures c.index.ensures c.index-inbox.ensures c.is_up.ensures c.if-not-is_up.false)
