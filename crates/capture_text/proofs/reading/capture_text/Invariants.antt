use Rattle.std.proofs.Common.{length}
use Rattle.capture_text.proofs.Pieces.{HasRead}
use Rattle.capture_text.proofs.reading.capture_text.Given as goal

abbrev pub invariant-loop-left : goal.invariant-loop-left
invariant-loop-left g l = HasRead l.bytes l.left l.feeder l.printer.text.items l.printer.at l.printer.frames

abbrev pub decreases-loop-left : goal.decreases-loop-left
decreases-loop-left g l = length l.left
