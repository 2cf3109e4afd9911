use Rattle.std.proofs.Common.{◌∙◌, ◌+◌, ◌*◌, min, sym, ap, arith}
use Rattle.rank_set.proofs.Reading.{digit_len, digit_value}
use Rattle.rank_set.proofs.digits.capped_number.Goals as goal

pub loop-i-preserved : goal.loop-i-preserved
loop-i-preserved c = record {
  capped = omega (arith, c.min-number.ensures);
  len = digit_len c.args.text.now c.loop-i.i c.loop-i-test.true (sym c.is_ascii_digit.ensures.value ∙ c.if-not-is_ascii_digit.false) ∙ c.loop-i.invariant.len;
  value = digit_value c.args.text.now c.loop-i.i c.loop-i-test.true (sym c.is_ascii_digit.ensures.value ∙ c.if-not-is_ascii_digit.false) c.args.limit c.loop-i.number c.min-number.result (c.min-number.ensures ∙ ap (λ x. min c.args.limit (10 * c.loop-i.number + x)) c.from.ensures) ∙ c.loop-i.invariant.value;
}
