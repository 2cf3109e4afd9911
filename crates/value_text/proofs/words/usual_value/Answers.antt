use Rattle.std.proofs.Common.{◌≡◌, ◌∙◌, Bool, true, false, not, Some, codes, refl, sym, subst}
use Rattle.std.proofs.lemmas.Slice.Eq.{bytes_eq-Decides}
use Rattle.value_text.specs.UsualLines.{GivesRun}
use Rattle.value_text.specs.Words.{number_text}
use Rattle.value_text.proofs.NumberWords.{number_small, stays}
use Rattle.value_text.proofs.UsualLines.{value_front, gives_run}
use Rattle.value_text.proofs.words.usual_value.Goals as goal

not_false : (t : Bool) → not t ≡ false → t ≡ true
not_false true e = refl
not_false false e = cc

pub returns-clause-gives : goal.returns-clause-gives
returns-clause-gives c =
    let line = c.args.line.now in
    let cut = c.in_ok-cut.cut in
    let number : number_text cut.rest.now ≡ Some c.in_ok-number.number = sym c.in_ok-number.ensures in
    subst (GivesRun line cut.first cut.last) (sym (stays c.in_ok-number.number (number_small cut.rest.now c.in_ok-number.number number)))
    (gives_run line c.in_ok-word.rest.now cut.rest.now cut.first cut.last c.in_ok-number.number
    (value_front line c.in_ok-word.word.now c.in_ok-word.rest.now c.in_ok-word.ensures.cases.0 c.in_ok-word.ensures.cases.1
    ((bytes_eq-Decides c.in_ok-word.word.now (codes "value ")).0 (not_false _ (sym c.ne.ensures ∙ c.if-ne.false))))
    c.in_ok-cut.ensures.run number)
