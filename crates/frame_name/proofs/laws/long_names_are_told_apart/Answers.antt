use Rattle.frame_name.proofs.ToldApart.{told_apart}
use Rattle.frame_name.proofs.laws.long_names_are_told_apart.Goals as goal

pub returns : goal.returns
returns c = told_apart
