use Rattle.std.proofs.Common.{◌∙◌, ◌∷◌, ◌++◌, [], length, take, sym, ap}
use Rattle.std.proofs.Math.Seq.{take-append_seam}
use Rattle.std.proofs.lemmas.Bool.{ne_eqb}
use Rattle.text_lines.specs.Lines.{without_return}
use Rattle.text_lines.proofs.Cuts.{return_off, return_kept}
use Rattle.text_lines.proofs.lines.trimmed_text.Goals as goal

pub returns-then-last-eq13 : goal.returns-then-last-eq13
returns-then-last-eq13 c =
    let front = c.in-Some.front.now in
    let parts = sym c.as_bytes.ensures.value ∙ c.in-Some.ensures.cases.0 in
    c.split_at.ensures.front
    ∙ ap (take (length front)) parts
    ∙ take-append_seam front (c.in-Some.last.now ∷ [])
    ∙ sym (ap without_return (parts ∙ ap (λ b. front ++ b ∷ []) c.if-last-eq13.true) ∙ return_off front)

pub returns-else-last-eq13 : goal.returns-else-last-eq13
returns-else-last-eq13 c =
    let parts = sym c.as_bytes.ensures.value ∙ c.in-Some.ensures.cases.0 in
    parts ∙ sym (ap without_return parts ∙ return_kept c.in-Some.front.now c.in-Some.last.now (ne_eqb _ _ c.if-last-eq13.false))
