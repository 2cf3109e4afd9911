use Rattle.std.proofs.Common.{◌≡◌, ◌+◌, drop}
use Rattle.call_path.specs.Path.{shared_len}
use Rattle.call_path.proofs.frame_text.FrameText.common.Given as goal

abbrev pub invariant-loop-i : goal.invariant-loop-i
invariant-loop-i l = l.i + shared_len (drop l.i l.self) (drop l.i (drop l.from l.other)) ≡ shared_len l.self (drop l.from l.other)
