use Rattle.std.proofs.Common.{◌∙◌, sym}
use Rattle.tree_view.proofs.OneFrame.{one_frame}
use Rattle.tree_view.proofs.reading.frame_argument.Goals as goal

pub returns-then-len-eq1-clause-ok : goal.returns-then-len-eq1-clause-ok
returns-then-len-eq1-clause-ok c = one_frame c.args.text.now c.in-Ok.path c.in-Ok.ensures.ok (sym c.len.ensures.len ∙ c.if-len-eq1.true)
