use Rattle.std.proofs.Common.{◌∙◌, ◌+◌, ◌*◌, sym, ap, arith}
use Rattle.value_text.proofs.UsualLines.{value_more, digits_more}
use Rattle.value_text.proofs.numbers.cut_short.Goals as goal

pub loop-i-preserved : goal.loop-i-preserved
loop-i-preserved c =
    let text = c.args.text.now in
    record {
      digits = digits_more text c.loop-i.i c.loop-i-test.true c.loop-i.invariant.digits (sym c.is_ascii_digit.ensures.value ∙ c.if-not-is_ascii_digit.false);
      value = ap (λ digit. 10 * c.loop-i.size + digit) c.from.ensures ∙ value_more text c.loop-i.i c.loop-i-test.true c.loop-i.size c.loop-i.invariant.value;
      bound = omega arith;
    }
