use Rattle.std.proofs.Common.{◌∙◌, ◌∷◌, ◌++◌, [], sym, ap}
use Rattle.std.proofs.lemmas.Bool.{ne_eqb}
use Rattle.text_lines.specs.Lines.{without_return}
use Rattle.text_lines.proofs.Cuts.{return_off, return_kept}
use Rattle.text_lines.proofs.lines.trimmed.Goals as goal

pub returns-then-last-eq13 : goal.returns-then-last-eq13
returns-then-last-eq13 c =
    sym (ap without_return (c.in-Some.ensures.cases.0 ∙ ap (λ b. c.in-Some.front.now ++ b ∷ []) c.if-last-eq13.true) ∙ return_off c.in-Some.front.now)

pub returns-else-last-eq13 : goal.returns-else-last-eq13
returns-else-last-eq13 c =
    c.in-Some.ensures.cases.0 ∙ sym (ap without_return c.in-Some.ensures.cases.0 ∙ return_kept c.in-Some.front.now c.in-Some.last.now (ne_eqb _ _ c.if-last-eq13.false))
