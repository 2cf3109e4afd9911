use Rattle.std.proofs.Common.{◌≡◌, ◌∙◌, ◌+◌, ◌≤◌, ◌<◌, sym, ap, arith, drop, List, ◌∷◌, length, ℕ, Ok, Err, true, false, nat_eq}
use Rattle.std.proofs.lemmas.Bool.{eq-eqb, ne_eqb}
use Rattle.std.proofs.lemmas.Bool.Decides.{nat_tests}
use Rattle.rank_set.specs.declared.read.RanksError.{RanksError}
use Rattle.rank_set.specs.declared.read.RanksError.TheVariants.{BadNumber, Backward}
use Rattle.rank_set.specs.Digits.{digits_len}
use Rattle.rank_set.specs.RanksText.{second_at, number_at, item_at}
use Rattle.rank_set.proofs.Reading.{item_bad, item_alone, item_stray, item_run, second_backward, second_ends, second_stray, nothing_left, handed_on}
use Rattle.rank_set.proofs.read.item_at.Goals as goal

pub returns-in_err-first-clause-err : goal.returns-in_err-first-clause-err
returns-in_err-first-clause-err c =
    handed_on c.from_residual.result c.in_err-first.field-0.0 (λ e. item_at c.args.offset c.args.item.now ≡ Err e) c.from_residual.ensures (item_bad _ _ _ c.in_err-first.ensures.err)

pub returns-in_default-clause-ok : goal.returns-in_default-clause-ok
returns-in_default-clause-ok c =
    item_alone c.args.offset c.args.item.now c.in_ok-first.first c.in_ok-first.ensures.ok
    (ap (λ n. drop n c.args.item.now) (sym c.in_ok-first.ensures.len) ∙ sym c.split_at.ensures.back ∙ nothing_left _ c.in_default.ensures.cases)

pub returns-then-dash-ne45-clause-err : goal.returns-then-dash-ne45-clause-err
returns-then-dash-ne45-clause-err c =
    item_stray c.args.offset c.args.item.now c.in_ok-first.first c.in_ok-first.ensures.ok c.in-Some.dash.now c.in-Some.text.now
    (ap (λ n. drop n c.args.item.now) (sym c.in_ok-first.ensures.len) ∙ sym c.split_at.ensures.back ∙ c.in-Some.ensures.cases.0)
    (ne_eqb _ _ c.if-dash-ne45.true)
    ∙ ap (λ n. Err (BadNumber (c.args.offset + n))) (sym c.in_ok-first.ensures.len)

-- what stands after the `-`
module _ (offset : ℕ) (item : List ℕ) (first len : ℕ) (good : number_at offset item ≡ Ok first) (is : len ≡ digits_len item) (b : ℕ) (text rest : List ℕ) (back : rest ≡ drop len item) (parts : rest ≡ b ∷ text) (dash : b ≡ 45) where
  after_dash : item_at offset item ≡ second_at first (offset + len + 1) text (number_at (offset + len + 1) text)
  after_dash =
      item_run offset item first good b text (ap (λ n. drop n item) (sym is) ∙ sym back ∙ parts) (eq-eqb _ _ dash)
      ∙ ap (λ n. second_at first (offset + n + 1) text (number_at (offset + n + 1) text)) (sym is)

  second_bad : (e : RanksError) → number_at (offset + len + 1) text ≡ Err e → item_at offset item ≡ Err e
  second_bad e bad = after_dash ∙ ap (second_at first (offset + len + 1) text) bad

  module _ (second : ℕ) (fine : number_at (offset + len + 1) text ≡ Ok second) where
    backward : second < first → item_at offset item ≡ Err (Backward (offset + len + 1))
    backward lt = after_dash ∙ ap (second_at first (offset + len + 1) text) fine ∙ second_backward first second (offset + len + 1) text lt

    stray : (n : ℕ) (end : List ℕ) → n ≡ digits_len text → end ≡ drop n text → first ≤ second → 0 < length end → item_at offset item ≡ Err (BadNumber (offset + len + 1 + n))
    stray n end len_is end_is le more =
        after_dash ∙ ap (second_at first (offset + len + 1) text) fine
        ∙ second_stray first second (offset + len + 1) text le (let e : end ≡ drop (digits_len text) text = end_is ∙ ap (λ k. drop k text) len_is in omega (arith, ap length e))
        ∙ ap (λ k. Err (BadNumber (offset + len + 1 + k))) (sym len_is)

    whole : (n : ℕ) (end : List ℕ) → n ≡ digits_len text → end ≡ drop n text → first ≤ second → length end ≡ 0 → item_at offset item ≡ Ok (first, second)
    whole n end len_is end_is le none =
        after_dash ∙ ap (second_at first (offset + len + 1) text) fine
        ∙ second_ends first second (offset + len + 1) text le (sym (end_is ∙ ap (λ k. drop k text) len_is) ∙ nothing_left end none)

pub returns-in_err-last-clause-err : goal.returns-in_err-last-clause-err
returns-in_err-last-clause-err c =
    handed_on c.from_residual-in_err-last.result c.in_err-last.field-0.0 (λ e. item_at c.args.offset c.args.item.now ≡ Err e) c.from_residual-in_err-last.ensures
    (second_bad c.args.offset c.args.item.now c.in_ok-first.first c.in_ok-first.len c.in_ok-first.ensures.ok c.in_ok-first.ensures.len c.in-Some.dash.now c.in-Some.text.now _ c.split_at.ensures.back c.in-Some.ensures.cases.0 (omega (arith, c.if-dash-ne45.false)) c.in_err-last.field-0.0 c.in_err-last.ensures.err)

pub returns-then-last-first-clause-err : goal.returns-then-last-first-clause-err
returns-then-last-first-clause-err c =
    backward c.args.offset c.args.item.now c.in_ok-first.first c.in_ok-first.len c.in_ok-first.ensures.ok c.in_ok-first.ensures.len c.in-Some.dash.now c.in-Some.text.now _ c.split_at.ensures.back c.in-Some.ensures.cases.0 (omega (arith, c.if-dash-ne45.false)) c.in_ok-last.last c.in_ok-last.ensures.ok c.if-last-first.true

pub returns-then-not-is_empty-clause-err : goal.returns-then-not-is_empty-clause-err
returns-then-not-is_empty-clause-err c =
    stray c.args.offset c.args.item.now c.in_ok-first.first c.in_ok-first.len c.in_ok-first.ensures.ok c.in_ok-first.ensures.len c.in-Some.dash.now c.in-Some.text.now _ c.split_at.ensures.back c.in-Some.ensures.cases.0 (omega (arith, c.if-dash-ne45.false)) c.in_ok-last.last c.in_ok-last.ensures.ok
    c.in_ok-last.last_len c.split_at-2.result.1.now c.in_ok-last.ensures.len c.split_at-2.ensures.back (omega (arith, c.if-last-first.false)) (let e : nat_eq (length c.split_at-2.result.1.now) 0 ≡ false = sym c.is_empty.ensures ∙ c.if-not-is_empty.true in grind (arith, nat_tests))

pub returns-clause-ok : goal.returns-clause-ok
returns-clause-ok c =
    whole c.args.offset c.args.item.now c.in_ok-first.first c.in_ok-first.len c.in_ok-first.ensures.ok c.in_ok-first.ensures.len c.in-Some.dash.now c.in-Some.text.now _ c.split_at.ensures.back c.in-Some.ensures.cases.0 (omega (arith, c.if-dash-ne45.false)) c.in_ok-last.last c.in_ok-last.ensures.ok
    c.in_ok-last.last_len c.split_at-2.result.1.now c.in_ok-last.ensures.len c.split_at-2.ensures.back (omega (arith, c.if-last-first.false)) (let e : nat_eq (length c.split_at-2.result.1.now) 0 ≡ true = sym c.is_empty.ensures ∙ c.if-not-is_empty.false in grind (arith, nat_tests))
