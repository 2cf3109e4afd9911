use Rattle.std.proofs.Common.{◌≡◌, take, false}
use Rattle.frame_name.specs.Words.{any_fits}
use Rattle.frame_name.proofs.words.any_fits.Given as goal

abbrev pub invariant-loop-i : goal.invariant-loop-i
invariant-loop-i l = any_fits (take l.i l.words) l.text ≡ false
