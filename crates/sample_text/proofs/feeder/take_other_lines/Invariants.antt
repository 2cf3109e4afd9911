use Rattle.std.proofs.Common.{◌≡◌, ◌+◌, ◌<◌, ◌^◌, length}
use Rattle.text_lines.specs.Lines.{lines}
use Rattle.text_lines.specs.Parsing.{TakesLines, RefusesLines}
use Rattle.text_lines.specs.declared.text_error.TextError.{TextError}
use Rattle.sample_text.specs.declared.parser.Parser.{Parser}
use Rattle.sample_text.specs.ParserViews.{IsConsistent}
use Rattle.sample_text.specs.Taking.{takes_line, refuses_line}
use Rattle.sample_text.proofs.feeder.take_other_lines.Given as goal

abbrev pub invariant-loop-line : goal.invariant-loop-line
invariant-loop-line l = record {
  room : l.count + length l.rest < 2 ^ 64;
  ready : IsConsistent l.parser;
  counted : l.count + length (lines l.rest) ≡ l.before + length (lines l.text);
  taken : (new : Parser) → TakesLines takes_line l.parser (l.count + 1) (lines l.rest) new → TakesLines takes_line l.fn.parser (l.before + 1) (lines l.text) new;
  refused : (e : TextError) → RefusesLines takes_line refuses_line l.parser (l.count + 1) (lines l.rest) e → RefusesLines takes_line refuses_line l.fn.parser (l.before + 1) (lines l.text) e;
}

abbrev pub decreases-loop-line : goal.decreases-loop-line
decreases-loop-line l = length l.rest
