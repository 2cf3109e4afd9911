use Rattle.std.proofs.Common.{◌∙◌}
use Rattle.frame_name.proofs.Contains.{found}
use Rattle.frame_name.proofs.texts.contains.Goals as goal

pub returns : goal.returns
returns c = c.is_some.ensures ∙ found c.args.part.now c.args.text.now c.find.result c.find.ensures
