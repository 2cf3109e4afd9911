use Rattle.std.proofs.Common.{arith}
use Rattle.text_lines.specs.Lines.{lines}
use Rattle.text_lines.specs.Parsing.{RefusesLines}
use Rattle.text_lines.proofs.Errors.{handed_on}
use Rattle.text_lines.proofs.Parsing.{none_left, next_taken, next_refused, later_refused}
use Rattle.text_lines.proofs.line_parser.read_lines.Goals as goal

pub returns-in_err-parser-clause-refused : goal.returns-in_err-parser-clause-refused
returns-in_err-parser-clause-refused g c =
    let takes = g.P.LineParser.takes in
    let refuses = g.P.LineParser.refuses in
    handed_on c.from_residual.result c.in_err-parser.field-0.0 (λ e. RefusesLines takes refuses c.args.parser 1 (lines c.args.text.now) e) c.from_residual.ensures
    (c.loop-line.invariant.refused c.in_err-parser.field-0.0
    (next_refused takes refuses c.loop-line.parser c.loop-line.line_number (lines c.loop-line.rest.now) (lines c.in-Some.after.now) c.in-Some.line.now c.in-Some.ensures.lines c.in_err-parser.field-0.0 c.in_err-parser.ensures.refused))

pub loop-line-preserved : goal.loop-line-preserved
loop-line-preserved g c =
    let takes = g.P.LineParser.takes in
    let refuses = g.P.LineParser.refuses in
    let all = lines c.loop-line.rest.now in
    let later = lines c.in-Some.after.now in
    record {
      room = omega (arith, c.in-Some.ensures.shorter, c.loop-line.invariant.room);
      ready = c.in_ok-parser.ensures.ready;
      taken = λ new t. c.loop-line.invariant.taken new (next_taken takes refuses c.loop-line.parser c.loop-line.line_number all later c.in-Some.line.now c.in-Some.ensures.lines c.in_ok-parser.parser new c.in_ok-parser.ensures.taken t);
      refused = λ e r. c.loop-line.invariant.refused e (later_refused takes refuses c.loop-line.parser c.loop-line.line_number all later c.in-Some.line.now c.in-Some.ensures.lines c.in_ok-parser.parser e c.in_ok-parser.ensures.taken r);
    }

pub returns-clause-taken : goal.returns-clause-taken
returns-clause-taken g c =
    c.loop-line.invariant.taken c.loop-line.parser (none_left g.P.LineParser.takes g.P.LineParser.refuses c.loop-line.parser c.loop-line.line_number (lines c.loop-line.rest.now) c.in_default.ensures.lines)
