-- Words that are read as a time, or as one rank.
use Rattle.std.proofs.Common.{◌≡◌, ◌∙◌, ℕ, ◌<◌, ◌≤◌, Bool, true, false, cond, not, nat_eq, nat_le, List, [], ◌∷◌, length, take, None, Some, Ok, Err, refl, ap, arith, ne_eqb}
use Rattle.std.specs.Prelude.{◌||◌}
use Rattle.std.specs.Char.{is_ascii_digit}
use Rattle.std.specs.List.{list_all}
use Rattle.std.proofs.lemmas.Bool.{le-leb, and_parts}
use Rattle.std.proofs.lemmas.Bool.Decides.{nat_tests}
use Rattle.std.proofs.lemmas.List.{take_all, drop_all}
use Rattle.rank_set.specs.Digits.{digits_len, value_after}
use Rattle.rank_set.specs.Ranks.{none, union}
use Rattle.rank_set.specs.Runs.{ranks_between}
use Rattle.rank_set.specs.RanksText.{number_at, ranks_text}
use Rattle.rank_set.specs.declared.TheConstants.{RANK_LIMIT}
use Rattle.rank_set.specs.declared.read.RanksError.TheVariants.{BadNumber, OverLimit}
use Rattle.rank_set.proofs.Reading.{item_alone}
use Rattle.rank_set.proofs.OneItem.{item_is_text}
use Rattle.text_lines.specs.Lines.{number_in}
use Rattle.text_lines.specs.declared.text_error.TextError.TheVariants.{Bad}
use Rattle.text_lines.specs.declared.text_error.Reason.TheVariants.{BadTime}
use Rattle.stat_plan.specs.declared.samples.TheConstants.{TIME_LIMIT}
use Rattle.sample_text.specs.Steps.{time_at, time_on}
use Rattle.text_lines.specs.Parsing.{if_holds}

-- a time that is read, on a line
pub time_good : (number : ℕ) (word : List ℕ) (time : ℕ) → number_in word ≡ Some time → time ≤ TIME_LIMIT → time_on number word ≡ Ok time
unfolding time_on
time_good number word time e low = ap (time_at number) e ∙ ap (λ b. if_holds b (Bad number BadTime) (Ok time)) (le-leb time TIME_LIMIT low)

-- where all are digits, so many does the word begin with
digits_all : (word : List ℕ) → list_all is_ascii_digit word ≡ true → digits_len word ≡ length word
digits_all [] e = refl
digits_all (b ∷ rest) e =
    let parts = and_parts (is_ascii_digit b) (list_all is_ascii_digit rest) e in
    rw parts.0 (rw (digits_all rest parts.1) (omega arith))

-- a word that writes a number
pub record Writes (word : List ℕ) (n : ℕ) : Type 0 where
  pub some : 0 < length word
  pub digits : digits_len word ≡ length word
  pub value : value_after 0 word ≡ n

writes : (word : List ℕ) (n : ℕ) → number_in word ≡ Some n → Writes word n
writes word n is = by (nat_eq (length word) 0) (list_all is_ascii_digit word) refl refl is
  where
    by : (empty all : Bool) → nat_eq (length word) 0 ≡ empty → list_all is_ascii_digit word ≡ all → cond (empty || not all) None (Some (value_after 0 word)) ≡ Some n → Writes word n
    by true all a b e = cc
    by false false a b e = cc
    by false true a b e = record { some = grind (arith, nat_tests); digits = digits_all word b; value = cc }

not_over : (n : ℕ) → n < 1048576 → nat_le 1048576 n ≡ false
not_over n few = grind (arith, nat_tests)

-- a number below the limit is one rank
pub one_rank : (word : List ℕ) (rank : ℕ) → number_in word ≡ Some rank → rank < RANK_LIMIT → ranks_text word ≡ Ok (union none (ranks_between rank rank))
one_rank word rank is below =
    let w = writes word rank is in
    let front : take (digits_len word) word ≡ word = take_all (digits_len word) word (omega (arith, w.digits)) in
    let value : value_after 0 (take (digits_len word) word) ≡ rank = ap (value_after 0) front ∙ w.value in
    let number : number_at 0 word ≡ Ok rank =
    ap (λ t. cond t (Err (BadNumber 0)) (cond (nat_le RANK_LIMIT (value_after 0 (take (digits_len word) word))) (Err (OverLimit 0)) (Ok (value_after 0 (take (digits_len word) word))))) (ne_eqb (digits_len word) 0 (λ e. omega (arith, e, w.digits, w.some)))
    ∙ ap (λ n. cond (nat_le RANK_LIMIT n) (Err (OverLimit 0)) (Ok n)) value
    ∙ ap (λ t. cond t (Err (OverLimit 0)) (Ok rank)) (not_over rank below) in
    item_is_text word rank rank w.some (item_alone 0 word rank number (drop_all (digits_len word) word (omega (arith, w.digits))))
