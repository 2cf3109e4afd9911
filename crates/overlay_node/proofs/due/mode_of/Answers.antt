use Rattle.std.proofs.Common.{◌∙◌}
use Rattle.overlay_node.proofs.Modes.{mode_at}
use Rattle.overlay_node.proofs.due.mode_of.Goals as goal

pub returns : goal.returns
returns c = c.mode.ensures ∙ mode_at c.args.plan.now c.args.s _ c.known_stream.ensures
