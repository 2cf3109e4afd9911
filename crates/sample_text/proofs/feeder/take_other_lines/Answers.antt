use Rattle.std.proofs.Common.{◌+◌, length, ap, arith}
use Rattle.text_lines.specs.Lines.{lines}
use Rattle.text_lines.proofs.Parsing.{later_refused, next_taken}
use Rattle.sample_text.specs.Taking.{takes_line, refuses_line}
use Rattle.sample_text.proofs.feeder.take_other_lines.Goals as goal

pub loop-line-preserved : goal.loop-line-preserved
loop-line-preserved c =
    let all = lines c.loop-line.rest.now in
    let later = lines c.in-Some.after.now in
    let one = ap length c.in-Some.ensures.lines in
    record {
      room = omega (arith, c.in-Some.ensures.shorter, c.loop-line.invariant.room);
      ready = c.in_ok-take_line.ensures.ready;
      counted = omega (arith, one, c.loop-line.invariant.counted);
      taken = λ new t. c.loop-line.invariant.taken new (next_taken takes_line refuses_line c.loop-line.parser (c.loop-line.count + 1) all later c.in-Some.line.now c.in-Some.ensures.lines c.take_line.new.self new c.in_ok-take_line.ensures.taken t);
      refused = λ e r. c.loop-line.invariant.refused e (later_refused takes_line refuses_line c.loop-line.parser (c.loop-line.count + 1) all later c.in-Some.line.now c.in-Some.ensures.lines c.take_line.new.self e c.in_ok-take_line.ensures.taken r);
    }
