use Rattle.std.proofs.Common.{◌∙◌, ◌+◌, ◌*◌, ◌<◌, length, sym, ap, arith}
use Rattle.sample_text.proofs.FirstLines.{value_more, digits_more, window_len, number_front}
use Rattle.sample_text.proofs.words.short_number.Goals as goal

pub loop-i-preserved : goal.loop-i-preserved
loop-i-preserved c =
    let window = c.in_ok-window.window.now in
    let long = window_len c.args.text.now window c.in_ok-window.field-0-1.now c.in_ok-window.ensures.cases.0 c.in_ok-window.ensures.cases.2 in
    let lt : c.loop-i.i < length window = omega (arith, long, c.loop-i-test.true) in
    record {
      digits = digits_more window c.loop-i.i lt c.loop-i.invariant.digits (sym c.is_ascii_digit.ensures.value ∙ c.if-not-is_ascii_digit.false);
      value = ap (λ digit. 10 * c.loop-i.number + digit) c.from.ensures ∙ value_more window c.loop-i.i lt c.loop-i.number c.loop-i.invariant.value;
    }

pub returns-then-not-is_ascii_digit : goal.returns-then-not-is_ascii_digit
returns-then-not-is_ascii_digit c =
    let window = c.in_ok-window.window.now in
    let long = window_len c.args.text.now window c.in_ok-window.field-0-1.now c.in_ok-window.ensures.cases.0 c.in_ok-window.ensures.cases.2 in
    let lt : c.loop-i.i < length window = omega (arith, long, c.loop-i-test.true) in
    number_front c.args.text.now window c.in_ok-window.field-0-1.now c.split_at.result.1.now c.loop-i.i c.loop-i.number c.in_ok-window.ensures.cases.0 c.in_ok-window.ensures.cases.1
    lt (omega (arith, c.if-i-eq0.false)) c.if-b-ne32.false c.loop-i.invariant.digits c.loop-i.invariant.value c.split_at.ensures.back
