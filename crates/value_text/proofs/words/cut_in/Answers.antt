use Rattle.std.proofs.Common.{◌∙◌, ◌+◌, ◌*◌, ◌<◌, length, sym, ap, arith}
use Rattle.value_text.proofs.UsualLines.{value_more, digits_more, window_front}
use Rattle.value_text.proofs.words.cut_in.Goals as goal

pub loop-i-preserved : goal.loop-i-preserved
loop-i-preserved c =
    let window = c.args.window.now in
    let lt : c.loop-i.i < length window = omega (arith, c.requires.long, c.loop-i-test.true) in
    record {
      digits = digits_more window c.loop-i.i lt c.loop-i.invariant.digits (sym c.is_ascii_digit.ensures.value ∙ c.if-not-is_ascii_digit.false);
      value = ap (λ digit. 10 * c.loop-i.rank + digit) c.from.ensures ∙ value_more window c.loop-i.i lt c.loop-i.rank c.loop-i.invariant.value;
    }

pub returns-then-not-is_ascii_digit-clause-number : goal.returns-then-not-is_ascii_digit-clause-number
returns-then-not-is_ascii_digit-clause-number c =
    let lt : c.loop-i.i < length c.args.window.now = omega (arith, c.requires.long, c.loop-i-test.true) in
    window_front 8 c.args.text.now c.args.window.now c.split_at.result.1.now c.loop-i.i c.loop-i.rank c.args.end c.requires lt (omega (arith, c.if-i-eq0.false)) c.if-b-end.false c.loop-i.invariant.digits c.loop-i.invariant.value c.split_at.ensures.back
