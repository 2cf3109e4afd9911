use Rattle.std.proofs.Common.{◌≡◌, drop}
use Rattle.call_path.specs.Path.{is_prefix}
use Rattle.call_path.proofs.frame_text.FrameText.is_prefix_of.Given as goal

abbrev pub invariant-loop-i : goal.invariant-loop-i
invariant-loop-i l = is_prefix (drop l.i l.self) (drop l.i l.other) ≡ is_prefix l.self l.other
