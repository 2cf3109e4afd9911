use Rattle.std.proofs.Common.{◌≡◌, ◌+◌, drop}
use Rattle.std.specs.Prelude.{is_some}
use Rattle.stack_text.specs.Lines.{line_number}
use Rattle.stack_text.specs.Texts.{first_where}
use Rattle.stack_text.proofs.lines.number_start.Given as goal

-- the place isn't before this one
abbrev pub invariant-loop-i : goal.invariant-loop-i
invariant-loop-i l =
    first_where (λ t. is_some (line_number t)) l.text ≡ l.i + first_where (λ t. is_some (line_number t)) (drop l.i l.text)
