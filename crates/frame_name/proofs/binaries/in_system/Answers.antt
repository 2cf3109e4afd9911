use Rattle.frame_name.specs.Tables.{begins_with_one, in_system}
use Rattle.frame_name.proofs.binaries.in_system.Goals as goal

pub returns : goal.returns
unfolding in_system begins_with_one
returns c = c.begins_with_one.ensures
