use Rattle.std.proofs.Common.{◌≤◌, ◌+◌, length}
use Rattle.text_lines.specs.Lines.{lines}
use Rattle.text_lines.specs.Parsing.{TakesLines, RefusesLines}
use Rattle.text_lines.specs.declared.text_error.TextError.{TextError}
use Rattle.text_lines.proofs.line_parser.read_lines.Given as goal

abbrev pub invariant-loop-line : goal.invariant-loop-line
invariant-loop-line g l = record {
  room : l.line_number + length l.rest ≤ 1 + length l.text;
  ready : g.P.LineParser.is_ready l.parser;
  taken : (new : g.row.P.Denot) → TakesLines g.P.LineParser.takes l.parser l.line_number (lines l.rest) new → TakesLines g.P.LineParser.takes l.fn.parser 1 (lines l.text) new;
  refused : (e : TextError) → RefusesLines g.P.LineParser.takes g.P.LineParser.refuses l.parser l.line_number (lines l.rest) e → RefusesLines g.P.LineParser.takes g.P.LineParser.refuses l.fn.parser 1 (lines l.text) e;
}

abbrev pub decreases-loop-line : goal.decreases-loop-line
decreases-loop-line g l = length l.rest
