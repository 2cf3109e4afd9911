use Rattle.std.proofs.Common.{◌≡◌, ◌∙◌, ◌+◌, ◌*◌, ◌&&◌, ◌∷◌, suc, min, drop, drop-cons, get_or, ap, refl, sym, arith}
use Rattle.std.specs.Char.{is_ascii_digit}
use Rattle.std.specs.List.{list_all}
use Rattle.rank_set.proofs.Reading.{capped_step}
use Rattle.value_text.proofs.numbers.capped_value.Goals as goal

pub loop-digit-preserved : goal.loop-digit-preserved
loop-digit-preserved c =
    let i = c.loop-digit.digit-index in
    let digits = c.args.digits.now in
    let next : suc i ≡ i + 1 = omega arith in
    record {
      capped = omega (arith, c.min-number.ensures);
      digits = sym (ap (list_all is_ascii_digit) (drop-cons digits i 0 c.loop-digit-test.true ∙ ap (λ k. get_or digits i 0 ∷ drop k digits) next) ∙ ap (λ t. t && list_all is_ascii_digit (drop (i + 1) digits)) (sym c.is_ascii_digit.ensures.value ∙ c.if-not-is_ascii_digit.false)) ∙ c.loop-digit.invariant.digits;
      value = capped_step c.args.limit c.loop-digit.number c.min-number.result _ i digits c.loop-digit-test.true refl (c.min-number.ensures ∙ ap (λ x. min c.args.limit (10 * c.loop-digit.number + x)) c.from.ensures) ∙ c.loop-digit.invariant.value;
    }
