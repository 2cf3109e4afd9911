-- The entries of ranks, and the numbers that they stand for.
use Rattle.std.proofs.Common.{◌≡◌, ◌↔◌, ◌∙◌, ℕ, zero, suc, ◌+◌, ◌<◌, ◌≤◌, Bool, true, false, List, [], ◌∷◌, ◌++◌, length, length-append, get_or, Option, None, Some, Bor, refl, sym, ap, subst, arith, inl, inr}
use Rattle.std.proofs.Math.IntN.{ℤ, pos, neg_ℤ}
use Rattle.std.specs.Prelude.{◌≤ℤ◌, slice_get}
use Rattle.std.specs.Option.{option_copied}
use Rattle.std.specs.Slice.{IsItemAt}
use Rattle.std.proofs.lemmas.Bool.{cases_lt}
use Rattle.std.proofs.lemmas.Option.{slice_get_past, slice_get_within, slice_get-get_or}
use Rattle.rank_set.specs.Ranks.{Ranks, has, in_order, is_empty}
use Rattle.value_text.specs.Numbers.{number_of, AreSmall}
use Rattle.value_text.specs.Steps.{with_numbers, valued}
use Rattle.value_text.specs.Views.{number_at, numbers_view, AreEntries}
use Rattle.value_text.proofs.Trimming.{number-view, view_ends, same_numbers}
use Rattle.value_text.proofs.Giving.{with_numbers_is, none_valued, empty_valued}

-- what is copied from a list, if its index is within
pub copied_item : {X : Type 0} (xs : List X) (i : ℕ) (r : Option (Bor X)) → IsItemAt xs i r → option_copied r ≡ slice_get xs i
copied_item xs i None at = sym (slice_get_past xs i at.3)
copied_item xs i (Some x) at = ap Some at.1 ∙ sym (slice_get-get_or xs i x.now at.3.0)

-- the numbers are small
pub are_small : (entries : List ℕ) (numbers : List ℤ) → AreEntries entries numbers → AreSmall (numbers_view entries numbers)
are_small entries numbers are r z is = by (get_or entries r 0) (sym (number-view entries numbers r) ∙ is)
  where
    by : (k : ℕ) → number_at numbers k ≡ Some z → (neg_ℤ (pos 1000000000000) ≤ℤ z) × (z ≤ℤ pos 1000000000000)
    by zero e = cc
    by (suc k) e = are.small k z e

-- an entry other than 0 stands for a number
pub entry_zero : (entries : List ℕ) (numbers : List ℤ) (r : ℕ) → AreEntries entries numbers → number_of (numbers_view entries numbers) r ≡ None → get_or entries r 0 ≡ 0
entry_zero entries numbers r are is = by (get_or entries r 0) (are.within r) (sym (number-view entries numbers r) ∙ is)
  where
    none_within : (xs : List ℤ) (k : ℕ) → k < length xs → slice_get xs k ≡ None → ⊥
    none_within [] k lt e = absurd (omega (arith, lt))
    none_within (x ∷ xs) zero lt e = cc
    none_within (x ∷ xs) (suc k) lt e = none_within xs k (omega (arith, lt)) e

    by : (k : ℕ) → k ≤ length numbers → number_at numbers k ≡ None → k ≡ 0
    by zero le e = refl
    by (suc k) le e = absurd (none_within numbers k (omega (arith, le)) e)

-- whether some of the ranks have a number, by their entries
module _ (entries : List ℕ) (numbers : List ℤ) (are : AreEntries entries numbers) (ranks : Ranks) where
  abbrev AreZero : Type 0
  AreZero = (r : ℕ) → has ranks r ≡ true → get_or entries r 0 ≡ 0

  pub zero_empty : AreZero → is_empty (valued (numbers_view entries numbers) ranks) ≡ true
  zero_empty each = empty_valued (numbers_view entries numbers) ranks (λ r here. number-view entries numbers r ∙ ap (number_at numbers) (each r here))

  pub empty_zero : is_empty (valued (numbers_view entries numbers) ranks) ≡ true → AreZero
  empty_zero empty r here = entry_zero entries numbers r are (none_valued (numbers_view entries numbers) ranks empty r here)

  -- a test of the entries that fails
  pub some_valued : (test : Bool) → (test ≡ false) ↔ AreZero → test ≡ true → is_empty (valued (numbers_view entries numbers) ranks) ≡ false
  some_valued test says is = by (is_empty (valued (numbers_view entries numbers) ranks)) refl
    where
      by : (b : Bool) → is_empty (valued (numbers_view entries numbers) ranks) ≡ b → b ≡ false
      by true empty = sym is ∙ says.1 (empty_zero empty)
      by false some = refl

-- a number more
slice_get_last : (xs : List ℤ) (z : ℤ) → slice_get (xs ++ z ∷ []) (length xs) ≡ Some z
slice_get_last [] z = refl
slice_get_last (x ∷ xs) z = slice_get_last xs z

slice_get_before : (xs : List ℤ) (z : ℤ) (k : ℕ) → k < length xs → slice_get (xs ++ z ∷ []) k ≡ slice_get xs k
slice_get_before [] z k lt = absurd (omega (arith, lt))
slice_get_before (x ∷ xs) z zero lt = refl
slice_get_before (x ∷ xs) z (suc k) lt = slice_get_before xs z k (omega (arith, lt))

number_before_last : (numbers : List ℤ) (z : ℤ) (k : ℕ) → k ≤ length numbers → number_at (numbers ++ z ∷ []) k ≡ number_at numbers k
number_before_last numbers z zero le = refl
number_before_last numbers z (suc k) le = slice_get_before numbers z k (omega (arith, le))

module _ (entries entries' : List ℕ) (numbers numbers' : List ℤ) (are : AreEntries entries numbers) (z : ℤ) (is : numbers' ≡ numbers ++ z ∷ []) (ranks : Ranks) (entry : ℕ) (last : entry ≡ length numbers')
    (given : (r : ℕ) → has ranks r ≡ true → get_or entries' r 0 ≡ entry) (others : (r : ℕ) → has ranks r ≡ false → get_or entries' r 0 ≡ get_or entries r 0) where
  long : length numbers' ≡ suc (length numbers)
  long = ap length is ∙ length-append numbers (z ∷ []) ∙ (let e : length numbers + 1 ≡ suc (length numbers) = omega arith in e)

  -- the ranks have the number
  pub entries_given : with_numbers (numbers_view entries numbers) (in_order ranks) z ≡ numbers_view entries' numbers'
  entries_given =
      with_numbers_is (numbers_view entries numbers) (numbers_view entries' numbers') ranks z (view_ends entries numbers) (view_ends entries' numbers')
      (λ q here. number-view entries' numbers' q ∙ ap (number_at numbers') (given q here ∙ last ∙ long) ∙ ap (λ ns. slice_get ns (length numbers)) is ∙ slice_get_last numbers z)
      (λ q away. number-view entries' numbers' q ∙ ap (number_at numbers') (others q away) ∙ ap (λ ns. number_at ns (get_or entries q 0)) is ∙ number_before_last numbers z (get_or entries q 0) (are.within q) ∙ sym (number-view entries numbers q))

  -- the entries still stand for numbers
  pub entries_kept : (neg_ℤ (pos 1000000000000) ≤ℤ z) × (z ≤ℤ pos 1000000000000) → AreEntries entries' numbers'
  entries_kept small = record { within = λ r. by r (has ranks r) refl; small = λ k x e. of k x (sym (ap (λ ns. slice_get ns k) is) ∙ e) }
    where
      by : (r : ℕ) (b : Bool) → has ranks r ≡ b → get_or entries' r 0 ≤ length numbers'
      by r true here = let e = given r here in omega (arith, e, last)
      by r false away = let e = others r away in let le = are.within r in omega (arith, e, le, long)

      newest : (k : ℕ) (x : ℤ) → slice_get (numbers ++ z ∷ []) k ≡ Some x → k ≡ length numbers → (neg_ℤ (pos 1000000000000) ≤ℤ x) × (x ≤ℤ pos 1000000000000)
      newest k x e at = let same : Some z ≡ Some x = sym (slice_get_last numbers z) ∙ ap (slice_get (numbers ++ z ∷ [])) (sym at) ∙ e in let value : z ≡ x = cc in subst (λ y. (neg_ℤ (pos 1000000000000) ≤ℤ y) × (y ≤ℤ pos 1000000000000)) value small

      of : (k : ℕ) (x : ℤ) → slice_get (numbers ++ z ∷ []) k ≡ Some x → (neg_ℤ (pos 1000000000000) ≤ℤ x) × (x ≤ℤ pos 1000000000000)
      of k x e = elim (cases_lt k (length numbers)) [
        | inl lt ↦ are.small k x (sym (slice_get_before numbers z k lt) ∙ e)
        | inr ge ↦ newest k x e (let lt = slice_get_within (numbers ++ z ∷ []) k x e in let n = length-append numbers (z ∷ []) in omega (arith, ge, lt, n))
      ]

-- without a number no rank has one
pub no_numbers : (entries : List ℕ) → numbers_view entries [] ≡ []
no_numbers entries = same_numbers (numbers_view entries []) [] (view_ends entries []) (λ r e. absurd (omega (arith, e))) (λ r. number-view entries [] r ∙ none (get_or entries r 0))
  where
    none : (k : ℕ) → number_at [] k ≡ None
    none zero = refl
    none (suc k) = refl

pub no_entries : (entries : List ℕ) → ((r : ℕ) → get_or entries r 0 ≡ 0) → AreEntries entries []
no_entries entries zeros = record { within = λ r. (let e = zeros r in omega (arith, e)); small = λ k z e. cc }
