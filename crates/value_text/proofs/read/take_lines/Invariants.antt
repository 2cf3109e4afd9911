use Rattle.std.proofs.Common.{◌≤◌, ◌+◌, length}
use Rattle.text_lines.specs.Lines.{lines}
use Rattle.text_lines.specs.Parsing.{TakesLines, RefusesLines}
use Rattle.text_lines.specs.declared.text_error.TextError.{TextError}
use Rattle.value_text.specs.declared.parser.Parser.{Parser}
use Rattle.value_text.specs.Views.{IsConsistent, refuses_line, takes_line}
use Rattle.value_text.proofs.read.take_lines.Given as goal

abbrev pub invariant-loop-rest : goal.invariant-loop-rest
invariant-loop-rest l = record {
  room : l.line_number + length l.rest ≤ 1 + length l.text;
  ready : IsConsistent l.parser;
  taken : (new : Parser) → TakesLines takes_line l.parser l.line_number (lines l.rest) new → TakesLines takes_line l.fn.parser 1 (lines l.text) new;
  refused : (e : TextError) → RefusesLines takes_line refuses_line l.parser l.line_number (lines l.rest) e → RefusesLines takes_line refuses_line l.fn.parser 1 (lines l.text) e;
}

abbrev pub decreases-loop-rest : goal.decreases-loop-rest
decreases-loop-rest l = length l.rest
