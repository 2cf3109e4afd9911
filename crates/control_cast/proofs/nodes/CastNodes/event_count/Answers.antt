use Rattle.std.proofs.Common.{◌∙◌, ap, length, sym}
use Rattle.control_cast.proofs.CastEvents.{events_up, events_down, few_senders}
use Rattle.control_cast.proofs.nodes.CastNodes.event_count.Goals as goal

pub returns-then-not-is_up : goal.returns-then-not-is_up
returns-then-not-is_up c =
    sym (ap length (events_down c.args.plan.now c.args.commands c.args.self.now.alive.items c.args.self.now.members.items c.args.self.now.inboxes.items c.args.n c.index-inbox.result.now c.is_up.result c.invariant.ensures c.requires.net c.requires.below c.invariant-2.ensures c.index-inbox.ensures c.is_up.ensures c.if-not-is_up.true))

pub own_count-requires : goal.own_count-requires
own_count-requires c = few_senders c.args.plan.now c.args.commands c.args.self.now.alive.items c.args.self.now.members.items c.args.self.now.inboxes.items c.args.n c.index-inbox.result.now c.invariant.ensures c.requires.net c.requires.below c.invariant-2.ensures c.index-inbox.ensures

pub returns : goal.returns
returns c =
    c.own_count.ensures ∙ ap length (events_up c.args.plan.now c.args.commands c.args.self.now.alive.items c.args.self.now.members.items c.args.self.now.inboxes.items c.args.n c.index.result.now c.index-inbox.result.now c.is_up.result c.invariant.ensures c.requires.net c.requires.below c.invariant-2.ensures c.index.ensures c.index-inbox.ensures c.is_up.ensures c.if-not-is_up.false)
