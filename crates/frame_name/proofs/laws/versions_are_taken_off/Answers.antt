use Rattle.frame_name.proofs.Versions.{taken_off}
use Rattle.frame_name.proofs.laws.versions_are_taken_off.Goals as goal

pub returns : goal.returns
returns c = taken_off
