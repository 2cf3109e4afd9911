use Rattle.std.proofs.Common.{◌≡◌, ◌+◌, drop}
use Rattle.stack_text.specs.Lines.{file_follows}
use Rattle.stack_text.specs.Texts.{first_where}
use Rattle.stack_text.proofs.binaries.file_start.Given as goal

-- the place isn't before this one
abbrev pub invariant-loop-i : goal.invariant-loop-i
invariant-loop-i l = first_where file_follows l.text ≡ l.i + first_where file_follows (drop l.i l.text)
