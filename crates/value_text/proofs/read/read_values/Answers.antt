use Rattle.std.proofs.Common.{◌≡◌, ◌≢◌, ◌∙◌, sym, ap, Ok, Err, []}
use Rattle.stat_plan.specs.Samples.{all_ranks}
use Rattle.text_lines.specs.Lines.{lines}
use Rattle.text_lines.specs.declared.text_error.TextError.TheVariants.{OutOfMemory}
use Rattle.text_lines.proofs.Errors.{handed_on}
use Rattle.text_lines.proofs.Parsing.{all_parsed, first_error}
use Rattle.value_text.specs.Steps.{with_line, values_of_text}
use Rattle.value_text.specs.Views.{parser_view, parser_placed}
use Rattle.value_text.proofs.Acceptance.{acceptable, is_acceptable}
use Rattle.value_text.proofs.read.read_values.Goals as goal

pub returns-in_err-placed-clause-accepted : goal.returns-in_err-placed-clause-accepted
returns-in_err-placed-clause-accepted c numbers = acceptable (all_ranks c.args.plan.now.placed) c.args.text.now numbers

pub returns-in_err-empty-clause-accepted : goal.returns-in_err-empty-clause-accepted
returns-in_err-empty-clause-accepted c numbers = acceptable (all_ranks c.args.plan.now.placed) c.args.text.now numbers

pub returns-in_err-parser-clause-err : goal.returns-in_err-parser-clause-err
returns-in_err-parser-clause-err c =
    let placed = all_ranks c.args.plan.now.placed in
    handed_on c.from_residual-in_err-parser.result c.in_err-parser.field-0.0 (λ e. e ≢ OutOfMemory → values_of_text placed c.args.text.now ≡ Err e) c.from_residual-in_err-parser.ensures
    (first_error parser_placed parser_view with_line placed [] (lines c.args.text.now) c.in_ok-empty.empty
    (c.in_ok-empty.ensures.placed ∙ c.in_ok-placed.ensures) c.in_ok-empty.ensures.view c.in_err-parser.field-0.0 c.in_err-parser.ensures.refused)

pub returns-in_err-parser-clause-accepted : goal.returns-in_err-parser-clause-accepted
returns-in_err-parser-clause-accepted c numbers = acceptable (all_ranks c.args.plan.now.placed) c.args.text.now numbers

pub returns-clause-ok : goal.returns-clause-ok
returns-clause-ok c =
    let placed = all_ranks c.args.plan.now.placed in
    all_parsed parser_placed parser_view with_line placed [] (lines c.args.text.now) c.in_ok-empty.empty
    (c.in_ok-empty.ensures.placed ∙ c.in_ok-placed.ensures) c.in_ok-empty.ensures.view c.in_ok-parser.parser c.in_ok-parser.ensures.taken
    ∙ ap Ok (sym c.finish.ensures)

pub returns-clause-written : goal.returns-clause-written
returns-clause-written c =
    let placed = all_ranks c.args.plan.now.placed in
    is_acceptable placed c.args.text.now c.finish.result
    (all_parsed parser_placed parser_view with_line placed [] (lines c.args.text.now) c.in_ok-empty.empty
    (c.in_ok-empty.ensures.placed ∙ c.in_ok-placed.ensures) c.in_ok-empty.ensures.view c.in_ok-parser.parser c.in_ok-parser.ensures.taken
    ∙ ap Ok (sym c.finish.ensures))

pub returns-clause-accepted : goal.returns-clause-accepted
returns-clause-accepted c numbers = acceptable (all_ranks c.args.plan.now.placed) c.args.text.now numbers
