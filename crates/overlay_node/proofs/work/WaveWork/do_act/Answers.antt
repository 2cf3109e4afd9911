use Rattle.std.proofs.Common.{sym, ◌∙◌}
use Rattle.overlay_node.proofs.Steps.{hold_steps}
use Rattle.overlay_node.proofs.work.WaveWork.do_act.Goals as goal

pub returns-in-Hold : goal.returns-in-Hold
returns-in-Hold g c = hold_steps c.args.context.now.plan.now c.args.context.now.kin.now.node c.args.context.now.kin.now.kin c.args.held.now c.args.self.now.book c.args.self.now.effects (sym c.requires.due ∙ c.in-Hold.is) c.requires.fits
