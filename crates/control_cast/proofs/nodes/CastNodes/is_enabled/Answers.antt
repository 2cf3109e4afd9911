use Rattle.std.proofs.Common.{◌∙◌, sym}
use Rattle.control_cast.proofs.Reached.{enabled_is}
use Rattle.control_cast.proofs.nodes.CastNodes.is_enabled.Goals as goal

pub returns : goal.returns
returns c =
    enabled_is c.args.plan.now c.args.commands c.args.self.now.alive.items c.args.self.now.members.items c.args.self.now.inboxes.items c.args.event c.event_node-n.result c.index.result.now c.index.result.now c.index-2.result.now c.index-2.result.now c.may_be_next.result
    c.requires c.event_node-n.ensures (sym c.is_up.ensures ∙ c.if-not-is_up.false) (sym c.index.ensures) (sym c.index-2.ensures) c.may_be_next.ensures
