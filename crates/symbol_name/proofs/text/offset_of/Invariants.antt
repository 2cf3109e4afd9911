use Rattle.std.proofs.Common.{◌≡◌, ◌+◌, drop}
use Rattle.symbol_name.specs.Texts.{offset_of}
use Rattle.symbol_name.proofs.text.offset_of.Given as goal

-- what was gone over is before the part
abbrev pub invariant-loop-i : goal.invariant-loop-i
invariant-loop-i l = offset_of l.part l.text ≡ l.i + offset_of l.part (drop l.i l.text)
