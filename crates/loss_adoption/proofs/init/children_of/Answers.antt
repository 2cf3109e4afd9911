use Rattle.std.proofs.Common.{◌∙◌, sym}
use Rattle.loss_adoption.proofs.Leaves.{no_children}
use Rattle.loss_adoption.proofs.init.children_of.Goals as goal

pub returns-then-is_daemon : goal.returns-then-is_daemon
returns-then-is_daemon c = c.new-children.ensures.items ∙ no_children c.args.plan.now c.args.n (sym c.is_daemon.ensures ∙ c.if-is_daemon.true)
