use Rattle.std.proofs.Common.{◌≡◌, take, map}
use Rattle.call_path.specs.Functions.{func}
use Rattle.call_path.proofs.frame_text.FrameText.functions.Given as goal

abbrev pub invariant-loop-i : goal.invariant-loop-i
invariant-loop-i l = l.all ≡ map func (take l.i l.self)
