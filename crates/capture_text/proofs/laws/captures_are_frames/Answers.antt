use Rattle.capture_text.proofs.CaptureLaws.{capture_laws}
use Rattle.capture_text.proofs.laws.captures_are_frames.Goals as goal

pub returns : goal.returns
returns c = capture_laws
