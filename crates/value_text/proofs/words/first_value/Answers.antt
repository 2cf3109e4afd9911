use Rattle.std.proofs.Common.{◌≡◌, ◌∙◌, Bool, true, false, not, codes, refl, sym, subst}
use Rattle.std.proofs.lemmas.Slice.Eq.{bytes_eq-Decides}
use Rattle.value_text.specs.UsualLines.{BeginsWithValue}
use Rattle.value_text.proofs.NumberWords.{number_small, stays}
use Rattle.value_text.proofs.UsualLines.{value_front, begins_with_value, value_shorter}
use Rattle.value_text.proofs.words.first_value.Goals as goal

not_false : (t : Bool) → not t ≡ false → t ≡ true
not_false true e = refl
not_false false e = cc

pub returns-clause-value : goal.returns-clause-value
returns-clause-value c =
    let text = c.args.text.now in
    let cut = c.in_ok-cut.cut in
    let ends = c.in_ok-number.ensures in
    let rest = c.in_ok-number.rest.now in
    subst (λ z. BeginsWithValue text cut.first cut.last z rest) (sym (stays c.in_ok-number.number (number_small ends.word c.in_ok-number.number ends.number)))
    (begins_with_value text c.in_ok-word.rest.now cut.rest.now rest cut.first cut.last c.in_ok-number.number
    (value_front text c.in_ok-word.word.now c.in_ok-word.rest.now c.in_ok-word.ensures.cases.0 c.in_ok-word.ensures.cases.1
    ((bytes_eq-Decides c.in_ok-word.word.now (codes "value ")).0 (not_false _ (sym c.ne.ensures ∙ c.if-ne.false))))
    c.in_ok-cut.ensures.run ends)

pub returns-clause-shorter : goal.returns-clause-shorter
returns-clause-shorter c =
    let text = c.args.text.now in
    let cut = c.in_ok-cut.cut in
    value_shorter text c.in_ok-word.rest.now cut.rest.now c.in_ok-number.rest.now cut.first cut.last c.in_ok-number.number
    (value_front text c.in_ok-word.word.now c.in_ok-word.rest.now c.in_ok-word.ensures.cases.0 c.in_ok-word.ensures.cases.1
    ((bytes_eq-Decides c.in_ok-word.word.now (codes "value ")).0 (not_false _ (sym c.ne.ensures ∙ c.if-ne.false))))
    c.in_ok-cut.ensures.run c.in_ok-number.ensures
