use Rattle.std.proofs.Common.{◌∙◌, Some, None, length, refl, sym, ap, ne_eqb}
use Rattle.stack_text.proofs.ClosedBrackets.{file_empty, file_open, file_closed}
use Rattle.stack_text.proofs.binaries.brackets_start.Goals as goal

pub returns-in_default : goal.returns-in_default
returns-in_default c = λ i within.
    file_empty c.args.text.now i within (ap length (sym c.undeleted-file.ensures) ∙ c.in_default.ensures.cases)

pub returns-then-last-ne93 : goal.returns-then-last-ne93
returns-then-last-ne93 c = λ i within.
    file_open c.args.text.now i within c.in-Some.inner.now c.in-Some.last.now
    (sym c.undeleted-file.ensures ∙ c.in-Some.ensures.cases.0) (ne_eqb c.in-Some.last.now 93 c.if-last-ne93.true)

pub returns-in-Some-memrchr : goal.returns-in-Some-memrchr
returns-in-Some-memrchr c = λ i within.
    file_closed c.args.text.now i within c.in-Some.inner.now c.in-Some.last.now
    (sym c.undeleted-file.ensures ∙ c.in-Some.ensures.cases.0) c.if-last-ne93.false
    (Some c.in-Some-memrchr.closing) c.in-Some-memrchr.ensures c.saturating_sub.result c.saturating_sub.ensures

pub returns-in-None : goal.returns-in-None
returns-in-None c = λ i within.
    file_closed c.args.text.now i within c.in-Some.inner.now c.in-Some.last.now
    (sym c.undeleted-file.ensures ∙ c.in-Some.ensures.cases.0) c.if-last-ne93.false None c.in-None.ensures 0 refl
