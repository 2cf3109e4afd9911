use Rattle.std.proofs.Common.{◌≡◌, ◌∙◌, ◌++◌, ◌∷◌, [], length, get_or, sym, ap, Ok, Err, arith}
use Rattle.value_text.specs.UsualLines.{run_ranks}
use Rattle.value_text.specs.Views.{parser_view, parser_placed}
use Rattle.value_text.proofs.Entries.{entries_given, entries_kept, some_valued, zero_empty}
use Rattle.value_text.proofs.NumberWords.{stays}
use Rattle.value_text.proofs.RunRanks.{each_of_run, entries_tested, given_good, given_twice, given_unplaced, others_of_run, run_placed, run_unplaced}
use Rattle.value_text.proofs.parser.Parser.give_run.Goals as goal

pub returns-then-not-branch-clause-err : goal.returns-then-not-branch-clause-err
returns-then-not-branch-clause-err c = λ _.
    let old = c.args.self.now in
    let value = c.args.value in
    given_unplaced (parser_placed old) (parser_view old) c.args.line_number (run_ranks value.first value.last) c.args.value.number
    (run_unplaced value.first value.last old.placed.now c.in_ok-are_in.field-0 c.in_ok-are_in.ensures c.if-not-branch.true)
    ∙ ap Err (sym c.bad.ensures)

pub run_has_entry-requires-clause-in_table : goal.run_has_entry-requires-clause-in_table
run_has_entry-requires-clause-in_table c =
    let value = c.args.value in
    c.requires.consistent.room value.last (c.in_ok-are_in.ensures.0 c.if-not-branch.false value.last c.requires.in_range.not_empty (omega arith))

pub returns-then-run_has_entry-clause-err : goal.returns-then-run_has_entry-clause-err
returns-then-run_has_entry-clause-err c = λ _.
    let old = c.args.self.now in
    let value = c.args.value in
    given_twice (parser_placed old) (parser_view old) c.args.line_number (run_ranks value.first value.last) c.args.value.number
    (run_placed value.first value.last old.placed.now (c.in_ok-are_in.ensures.0 c.if-not-branch.false))
    (some_valued old.entries old.numbers.items c.requires.consistent.entries (run_ranks value.first value.last) c.run_has_entry.result (entries_tested value.first value.last old.entries c.run_has_entry.result c.run_has_entry.ensures) c.if-run_has_entry.true)
    ∙ ap Err (sym c.bad-then-run_has_entry.ensures)

pub set_run-requires-clause-in_table : goal.set_run-requires-clause-in_table
set_run-requires-clause-in_table c =
    let value = c.args.value in
    let lt = c.requires.consistent.room value.last (c.in_ok-are_in.ensures.0 c.if-not-branch.false value.last c.requires.in_range.not_empty (omega arith)) in
    omega (arith, lt)

pub returns-clause-ok : goal.returns-clause-ok
returns-clause-ok c =
    let old = c.args.self.now in
    let new = c.push.new.self in
    let value = c.args.value in
    let ranks = run_ranks value.first value.last in
    let last : c.in-Ok.entry ≡ length new.items = omega (arith, c.in-Ok.ensures, c.len.ensures, new.ok.0) in
    let pushed : new.items ≡ old.numbers.items ++ c.args.value.number ∷ [] = c.in_ok-push.ensures.items ∙ ap (λ z. old.numbers.items ++ z ∷ []) (stays c.args.value.number c.requires.number) in
    given_good (parser_placed old) (parser_view old) c.args.line_number ranks c.args.value.number
    (run_placed value.first value.last old.placed.now (c.in_ok-are_in.ensures.0 c.if-not-branch.false))
    (zero_empty old.entries old.numbers.items c.requires.consistent.entries ranks ((entries_tested value.first value.last old.entries c.run_has_entry.result c.run_has_entry.ensures).0 c.if-run_has_entry.false))
    ∙ ap Ok (entries_given old.entries c.set_run.new.self old.numbers.items new.items c.requires.consistent.entries c.args.value.number pushed ranks c.in-Ok.entry last
    (each_of_run value.first value.last (λ r. get_or c.set_run.new.self r 0 ≡ c.in-Ok.entry) (λ r from to. c.in_ok-set_run.ensures.given r from (omega (arith, to))))
    (others_of_run value.first value.last (λ r. get_or c.set_run.new.self r 0 ≡ get_or old.entries r 0) c.in_ok-set_run.ensures.below c.in_ok-set_run.ensures.above))

pub returns-clause-consistent : goal.returns-clause-consistent
returns-clause-consistent c =
    let old = c.args.self.now in
    let new = c.push.new.self in
    let value = c.args.value in
    let ranks = run_ranks value.first value.last in
    let last : c.in-Ok.entry ≡ length new.items = omega (arith, c.in-Ok.ensures, c.len.ensures, new.ok.0) in
    let pushed : new.items ≡ old.numbers.items ++ c.args.value.number ∷ [] = c.in_ok-push.ensures.items ∙ ap (λ z. old.numbers.items ++ z ∷ []) (stays c.args.value.number c.requires.number) in
    record {
      room = λ r here. (let lt = c.requires.consistent.room r here in omega (arith, lt, c.in_ok-set_run.ensures.length));
      run = c.requires.consistent.run;
      entries = entries_kept old.entries c.set_run.new.self old.numbers.items new.items c.requires.consistent.entries c.args.value.number pushed ranks c.in-Ok.entry last
          (each_of_run value.first value.last (λ r. get_or c.set_run.new.self r 0 ≡ c.in-Ok.entry) (λ r from to. c.in_ok-set_run.ensures.given r from (omega (arith, to))))
          (others_of_run value.first value.last (λ r. get_or c.set_run.new.self r 0 ≡ get_or old.entries r 0) c.in_ok-set_run.ensures.below c.in_ok-set_run.ensures.above)
          c.requires.number;
    }
