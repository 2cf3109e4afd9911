use Rattle.std.proofs.Common.{◌∙◌, ◌+◌, length, sym, ap, arith, rules}
use Rattle.std.proofs.lemmas.Bool.{eqb-true}
use Rattle.text_lines.specs.Lines.{lines}
use Rattle.text_lines.proofs.Cuts.{no_lines}
use Rattle.text_lines.proofs.Parsing.{none_left, next_taken, later_refused}
use Rattle.sample_text.specs.Taking.{takes_line, refuses_line}
use Rattle.sample_text.proofs.feeder.take_text_lines.Goals as goal

pub loop-rest-preserved : goal.loop-rest-preserved
loop-rest-preserved c =
    let all = lines c.loop-rest.rest.now in
    let later = lines c.in_ok-rest.rest.now in
    let first = c.in_ok-rest.ensures.taken in
    let one = ap length first.first in
    record {
      room = omega (arith, c.in_ok-rest.ensures.shorter, c.loop-rest.invariant.room);
      utf8 = search rules;
      ready = c.in_ok-rest.ensures.ready;
      counted = omega (arith, one, c.loop-rest.invariant.counted);
      taken = λ new t. c.loop-rest.invariant.taken new (next_taken takes_line refuses_line c.loop-rest.parser (c.loop-rest.count + 1) all later first.line first.first c.take_first_line.new.self new first.taken t);
      refused = λ e r. c.loop-rest.invariant.refused e (later_refused takes_line refuses_line c.loop-rest.parser (c.loop-rest.count + 1) all later first.line first.first c.take_first_line.new.self e first.taken r);
    }

pub returns-clause-taken : goal.returns-clause-taken
returns-clause-taken c =
    c.loop-rest.invariant.taken c.loop-rest.parser (none_left takes_line refuses_line c.loop-rest.parser (c.loop-rest.count + 1) (lines c.loop-rest.rest.now) (no_lines c.loop-rest.rest.now (eqb-true _ _ (sym c.is_empty.ensures ∙ c.loop-rest-test.false))))

pub returns-clause-count : goal.returns-clause-count
returns-clause-count c =
    let none = ap length (no_lines c.loop-rest.rest.now (eqb-true _ _ (sym c.is_empty.ensures ∙ c.loop-rest-test.false))) in
    omega (arith, none, c.loop-rest.invariant.counted)
