use Rattle.std.proofs.Common.{◌≡◌, ◌≢◌, ◌∙◌, ◌++◌, ◌∷◌, [], length, sym, ap, Ok, Err, arith}
use Rattle.rank_set.specs.Ranks.{subset_has}
use Rattle.text_lines.specs.declared.text_error.TextError.TheVariants.{OutOfMemory}
use Rattle.text_lines.proofs.Errors.{handed_on}
use Rattle.value_text.specs.Steps.{with_value}
use Rattle.value_text.specs.Views.{parser_view, parser_placed}
use Rattle.value_text.proofs.Entries.{zero_empty, some_valued, entries_given, entries_kept}
use Rattle.value_text.proofs.NumberWords.{number_small, stays}
use Rattle.value_text.specs.Numbers.{IsSmall}
use Rattle.value_text.proofs.WholeLines.{value_bad_ranks, value_unplaced, value_twice, value_bad_number, value_good}
use Rattle.value_text.proofs.parser.Parser.value.Goals as goal

pub returns-in_err-ranks-clause-err : goal.returns-in_err-ranks-clause-err
returns-in_err-ranks-clause-err c =
    let placed = parser_placed c.args.self.now in
    let v = parser_view c.args.self.now in
    handed_on c.from_residual.result c.in_err-ranks.field-0.0 (λ e. e ≢ OutOfMemory → with_value placed v c.args.line_number c.args.word.now c.args.number.now ≡ Err e) c.from_residual.ensures
    (λ memory. value_bad_ranks placed v c.args.line_number c.args.word.now c.args.number.now c.in_err-ranks.field-0.0 (c.in_err-ranks.ensures.err memory))

pub returns-then-not-is_subset-clause-err : goal.returns-then-not-is_subset-clause-err
returns-then-not-is_subset-clause-err c = λ _.
    value_unplaced (parser_placed c.args.self.now) (parser_view c.args.self.now) c.args.line_number c.args.word.now c.args.number.now c.in_ok-ranks.ranks c.in_ok-ranks.ensures.ok
    (sym c.is_subset.ensures ∙ c.if-not-is_subset.true)
    ∙ ap Err (sym c.bad.ensures)

pub has_entry-requires : goal.has_entry-requires
has_entry-requires c r here = c.requires.room r (subset_has c.in_ok-ranks.ranks c.args.self.now.placed.now (sym c.is_subset.ensures ∙ c.if-not-is_subset.false) r here)

pub returns-then-has_entry-clause-err : goal.returns-then-has_entry-clause-err
returns-then-has_entry-clause-err c = λ _.
    let old = c.args.self.now in
    value_twice (parser_placed old) (parser_view old) c.args.line_number c.args.word.now c.args.number.now c.in_ok-ranks.ranks c.in_ok-ranks.ensures.ok
    (sym c.is_subset.ensures ∙ c.if-not-is_subset.false)
    (some_valued old.entries old.numbers.items c.requires.entries c.in_ok-ranks.ranks c.has_entry.result c.has_entry.ensures c.if-has_entry.true)
    ∙ ap Err (sym c.bad-then-has_entry.ensures)

pub returns-in_default-clause-err : goal.returns-in_default-clause-err
returns-in_default-clause-err c = λ _.
    let old = c.args.self.now in
    value_bad_number (parser_placed old) (parser_view old) c.args.line_number c.args.word.now c.args.number.now c.in_ok-ranks.ranks c.in_ok-ranks.ensures.ok
    (sym c.is_subset.ensures ∙ c.if-not-is_subset.false)
    (zero_empty old.entries old.numbers.items c.requires.entries c.in_ok-ranks.ranks (c.has_entry.ensures.0 c.if-has_entry.false))
    (sym c.number_text.ensures ∙ c.in_default.is)
    ∙ ap Err (sym c.bad-in_default.ensures)

pub set_entries-requires : goal.set_entries-requires
set_entries-requires c r here = c.requires.room r (subset_has c.in_ok-ranks.ranks c.args.self.now.placed.now (sym c.is_subset.ensures ∙ c.if-not-is_subset.false) r here)

pub returns-clause-ok : goal.returns-clause-ok
returns-clause-ok c =
    let old = c.args.self.now in
    let new = c.push.new.self in
    let last : c.in-Ok.entry ≡ length new.items = omega (arith, c.in-Ok.ensures, c.len.ensures, new.ok.0) in
    let small : IsSmall c.in-Some.number = number_small c.args.number.now c.in-Some.number (sym c.number_text.ensures ∙ c.in-Some.is) in
    let pushed : new.items ≡ old.numbers.items ++ c.in-Some.number ∷ [] = c.in_ok-push.ensures.items ∙ ap (λ z. old.numbers.items ++ z ∷ []) (stays c.in-Some.number small) in
    value_good (parser_placed old) (parser_view old) c.args.line_number c.args.word.now c.args.number.now c.in_ok-ranks.ranks c.in_ok-ranks.ensures.ok
    (sym c.is_subset.ensures ∙ c.if-not-is_subset.false)
    (zero_empty old.entries old.numbers.items c.requires.entries c.in_ok-ranks.ranks (c.has_entry.ensures.0 c.if-has_entry.false))
    c.in-Some.number (sym c.number_text.ensures ∙ c.in-Some.is)
    ∙ ap Ok (entries_given old.entries c.set_entries.new.entries old.numbers.items new.items c.requires.entries c.in-Some.number pushed c.in_ok-ranks.ranks c.in-Ok.entry last c.in_ok-set_entries.ensures.ranks c.set_entries.ensures.others)

pub returns-clause-consistent : goal.returns-clause-consistent
returns-clause-consistent c =
    let old = c.args.self.now in
    let new = c.push.new.self in
    let last : c.in-Ok.entry ≡ length new.items = omega (arith, c.in-Ok.ensures, c.len.ensures, new.ok.0) in
    let small : IsSmall c.in-Some.number = number_small c.args.number.now c.in-Some.number (sym c.number_text.ensures ∙ c.in-Some.is) in
    let pushed : new.items ≡ old.numbers.items ++ c.in-Some.number ∷ [] = c.in_ok-push.ensures.items ∙ ap (λ z. old.numbers.items ++ z ∷ []) (stays c.in-Some.number small) in
    record {
      room = λ r here. (let lt = c.requires.room r here in omega (arith, lt, c.set_entries.ensures.length));
      run = c.requires.run;
      entries = entries_kept old.entries c.set_entries.new.entries old.numbers.items new.items c.requires.entries c.in-Some.number pushed c.in_ok-ranks.ranks c.in-Ok.entry last c.in_ok-set_entries.ensures.ranks c.set_entries.ensures.others small;
    }
