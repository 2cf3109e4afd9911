use Rattle.std.proofs.Common.{◌≡◌, ◌≢◌, ◌∙◌, Err}
use Rattle.text_lines.specs.declared.text_error.TextError.TheVariants.{OutOfMemory}
use Rattle.text_lines.proofs.Errors.{handed_on}
use Rattle.value_text.specs.Steps.{with_line}
use Rattle.value_text.specs.Views.{parser_view, parser_placed}
use Rattle.value_text.proofs.NumberWords.{number_small}
use Rattle.value_text.proofs.RunRanks.{line_of_run}
use Rattle.value_text.proofs.parser.ParserLineParser.take.Goals as goal

pub give_run-requires-clause-number : goal.give_run-requires-clause-number
give_run-requires-clause-number c = let gives = c.in-Some.ensures.gives.gives in number_small gives.number_word c.in-Some.value.number gives.number

pub returns-in_err-give_run-clause-refused : goal.returns-in_err-give_run-clause-refused
returns-in_err-give_run-clause-refused c =
    let placed = parser_placed c.args.self in
    let v = parser_view c.args.self in
    let value = c.in-Some.value in
    handed_on c.from_residual.result c.in_err-give_run.field-0.0 (λ e. e ≢ OutOfMemory → with_line placed v c.args.line_number c.args.line.now ≡ Err e) c.from_residual.ensures
    (λ memory. line_of_run placed v c.args.line_number c.args.line.now value.first value.last value.number c.in-Some.ensures.gives ∙ c.in_err-give_run.ensures.err memory)

pub returns-in-Some-clause-taken : goal.returns-in-Some-clause-taken
returns-in-Some-clause-taken c =
    let value = c.in-Some.value in (
      line_of_run (parser_placed c.args.self) (parser_view c.args.self) c.args.line_number c.args.line.now value.first value.last value.number c.in-Some.ensures.gives ∙ c.in_ok-give_run.ensures.ok,
      c.give_run.ensures.placed,
    )
