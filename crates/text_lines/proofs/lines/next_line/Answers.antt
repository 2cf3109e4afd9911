use Rattle.std.proofs.Common.{◌≡◌, ◌∙◌, ◌<◌, ℕ, ◌∷◌, sym, ap, nat_eq, false, arith}
use Rattle.std.proofs.lemmas.Bool.{eqb-true}
use Rattle.std.proofs.lemmas.Bool.Decides.{nat_tests}
use Rattle.text_lines.specs.Lines.{lines}
use Rattle.text_lines.proofs.Cuts.{line_more, line_last, no_lines}
use Rattle.text_lines.proofs.lines.next_line.Goals as goal

some : (n : ℕ) → nat_eq n 0 ≡ false → 0 < n
some n e = grind (arith, nat_tests)

pub returns-then-is_empty-clause-lines : goal.returns-then-is_empty-clause-lines
returns-then-is_empty-clause-lines c = no_lines c.args.text.now (eqb-true _ _ (sym c.is_empty.ensures ∙ c.if-is_empty.true))

pub returns-in-Some-clause-lines : goal.returns-in-Some-clause-lines
returns-in-Some-clause-lines c =
    line_more c.args.text.now c.split_at.result.0.now c.split_at.result.1.now c.line_len.result (some _ (sym c.is_empty.ensures ∙ c.if-is_empty.false)) c.line_len.ensures.value c.split_at.ensures.front c.split_at.ensures.back c.in-Some.field-0-0.now c.in-Some.rest.now c.in-Some.ensures.cases.0
    ∙ ap (λ t. t ∷ lines c.in-Some.rest.now) (sym c.trimmed.ensures)

pub returns-in-None-clause-lines : goal.returns-in-None-clause-lines
returns-in-None-clause-lines c =
    line_last c.args.text.now c.split_at.result.0.now c.split_at.result.1.now c.line_len.result (some _ (sym c.is_empty.ensures ∙ c.if-is_empty.false)) c.line_len.ensures.value c.split_at.ensures.front c.split_at.ensures.back c.in-None.ensures.cases
    ∙ ap (λ t. t ∷ lines c.split_at.result.1.now) (sym c.trimmed-in-None.ensures)
