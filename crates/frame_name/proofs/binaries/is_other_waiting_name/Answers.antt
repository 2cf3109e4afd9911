use Rattle.frame_name.specs.Tables.{begins_with_one, is_other_waiting_name}
use Rattle.frame_name.proofs.binaries.is_other_waiting_name.Goals as goal

pub returns : goal.returns
unfolding is_other_waiting_name begins_with_one
returns c = c.begins_with_one.ensures
