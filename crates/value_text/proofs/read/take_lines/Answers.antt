use Rattle.std.proofs.Common.{◌∙◌, sym, arith}
use Rattle.std.proofs.lemmas.Bool.{eqb-true}
use Rattle.text_lines.specs.Lines.{lines}
use Rattle.text_lines.specs.Parsing.{RefusesLines}
use Rattle.text_lines.proofs.Cuts.{no_lines}
use Rattle.text_lines.proofs.Errors.{handed_on}
use Rattle.text_lines.proofs.Parsing.{none_left, next_taken, next_refused, later_refused}
use Rattle.value_text.specs.Views.{parser_placed, parser_view, refuses_line, takes_line}
use Rattle.value_text.proofs.NumberWords.{number_small}
use Rattle.value_text.proofs.RunRanks.{line_of_run}
use Rattle.value_text.proofs.UsualLines.{some_line}
use Rattle.value_text.proofs.read.take_lines.Goals as goal

pub give_run-requires-clause-number : goal.give_run-requires-clause-number
give_run-requires-clause-number c = let gives = c.in-Some.ensures.value.run.gives in number_small gives.number_word c.in-Some.value.number gives.number

pub returns-in_err-give_run-clause-refused : goal.returns-in_err-give_run-clause-refused
returns-in_err-give_run-clause-refused c =
    let old = c.loop-rest.parser in
    let value = c.in-Some.value in
    let front = c.in-Some.ensures.value in
    let e = c.in_err-give_run.field-0.0 in
    handed_on c.from_residual.result e (λ e. RefusesLines takes_line refuses_line c.args.parser 1 (lines c.args.text.now) e) c.from_residual.ensures
    (c.loop-rest.invariant.refused e
    (next_refused takes_line refuses_line old c.loop-rest.line_number (lines c.loop-rest.rest.now) (lines c.in-Some.after.now) front.line front.front e
    (λ memory. line_of_run (parser_placed old) (parser_view old) c.loop-rest.line_number front.line value.first value.last value.number front.run ∙ c.in_err-give_run.ensures.err memory)))

pub loop-rest-preserved-in-Some : goal.loop-rest-preserved-in-Some
loop-rest-preserved-in-Some c =
    let old = c.loop-rest.parser in
    let all = lines c.loop-rest.rest.now in
    let later = lines c.in-Some.after.now in
    let value = c.in-Some.value in
    let front = c.in-Some.ensures.value in
    let here : takes_line old c.loop-rest.line_number front.line c.give_run.new.self =
    (line_of_run (parser_placed old) (parser_view old) c.loop-rest.line_number front.line value.first value.last value.number front.run ∙ c.in_ok-give_run.ensures.ok, c.give_run.ensures.placed) in
    record {
      room = omega (arith, c.in-Some.ensures.shorter, c.loop-rest.invariant.room);
      ready = c.in_ok-give_run.ensures.consistent;
      taken = λ new t. c.loop-rest.invariant.taken new (next_taken takes_line refuses_line old c.loop-rest.line_number all later front.line front.front c.give_run.new.self new here t);
      refused = λ e r. c.loop-rest.invariant.refused e (later_refused takes_line refuses_line old c.loop-rest.line_number all later front.line front.front c.give_run.new.self e here r);
    }

pub unreachable-requires : goal.unreachable-requires
unreachable-requires c = some_line c.loop-rest.rest.now (sym c.is_empty.ensures ∙ c.loop-rest-test.true) c.in_default-next_line.ensures.lines

pub returns-in_err-parser-clause-refused : goal.returns-in_err-parser-clause-refused
returns-in_err-parser-clause-refused c =
    let e = c.in_err-parser.field-0.0 in
    handed_on c.from_residual-in_err-parser.result e (λ e. RefusesLines takes_line refuses_line c.args.parser 1 (lines c.args.text.now) e) c.from_residual-in_err-parser.ensures
    (c.loop-rest.invariant.refused e
    (next_refused takes_line refuses_line c.loop-rest.parser c.loop-rest.line_number (lines c.loop-rest.rest.now) (lines c.in-Some-next_line.after.now) c.in-Some-next_line.line.now c.in-Some-next_line.ensures.lines e c.in_err-parser.ensures.refused))

pub loop-rest-preserved : goal.loop-rest-preserved
loop-rest-preserved c =
    let old = c.loop-rest.parser in
    let all = lines c.loop-rest.rest.now in
    let later = lines c.in-Some-next_line.after.now in
    let line = c.in-Some-next_line.line.now in
    record {
      room = omega (arith, c.in-Some-next_line.ensures.shorter, c.loop-rest.invariant.room);
      ready = c.in_ok-parser.ensures.ready;
      taken = λ new t. c.loop-rest.invariant.taken new (next_taken takes_line refuses_line old c.loop-rest.line_number all later line c.in-Some-next_line.ensures.lines c.in_ok-parser.parser new c.in_ok-parser.ensures.taken t);
      refused = λ e r. c.loop-rest.invariant.refused e (later_refused takes_line refuses_line old c.loop-rest.line_number all later line c.in-Some-next_line.ensures.lines c.in_ok-parser.parser e c.in_ok-parser.ensures.taken r);
    }

pub returns-clause-taken : goal.returns-clause-taken
returns-clause-taken c =
    c.loop-rest.invariant.taken c.loop-rest.parser (none_left takes_line refuses_line c.loop-rest.parser c.loop-rest.line_number (lines c.loop-rest.rest.now) (no_lines c.loop-rest.rest.now (eqb-true _ _ (sym c.is_empty.ensures ∙ c.loop-rest-test.false))))
