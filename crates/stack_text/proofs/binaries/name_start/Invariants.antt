use Rattle.std.proofs.Common.{◌≡◌, ◌+◌, codes, drop}
use Rattle.stack_text.specs.Texts.{begins, first_where}
use Rattle.stack_text.proofs.binaries.name_start.Given as goal

-- the place isn't before this one
abbrev pub invariant-loop-i : goal.invariant-loop-i
invariant-loop-i l = first_where (begins (codes " - ")) l.text ≡ l.i + first_where (begins (codes " - ")) (drop l.i l.text)
