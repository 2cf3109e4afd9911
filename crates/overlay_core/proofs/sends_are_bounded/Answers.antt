use Rattle.overlay_core.proofs.Sends.{sends_are_bounded}
use Rattle.overlay_core.proofs.sends_are_bounded.Goals as goal

pub returns : goal.returns
returns c = record { bounded = sends_are_bounded }
