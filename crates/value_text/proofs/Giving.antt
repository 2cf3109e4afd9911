-- Ranks that are given a number.
use Rattle.std.proofs.Common.{◌≡◌, ◌≢◌, ◌∙◌, ℕ, zero, suc, ◌<◌, Bool, true, false, ◌||◌, ◌&&◌, List, [], ◌∷◌, length, Option, None, Some, is_some, refl, sym, ap, arith, eqb-true, eq-eqb}
use Rattle.std.proofs.Math.IntN.{ℤ}
use Rattle.std.specs.List.{list_any}
use Rattle.std.specs.Cmp.{unsigned_tied}
use Rattle.std.specs.Ordering.{nat_cmp, eq_by_cmp}
use Rattle.std.proofs.lemmas.Bool.{true≢false}
use Rattle.rank_set.specs.Ranks.{Ranks, none, has, in_order, is_empty, has-none, has-in_order, has-those, same_ranks, none_from_size}
use Rattle.value_text.specs.Numbers.{Numbers, number_of, EndsWithNumber}
use Rattle.value_text.specs.Steps.{with_number, with_numbers, valued}
use Rattle.value_text.proofs.Trimming.{same_numbers}

-- the rank has the number, and the others have theirs
given : (v : Numbers) (r : ℕ) (z : ℤ) → number_of (with_number v r z) r ≡ Some z
given [] zero z = refl
given [] (suc r) z = given [] r z
given (e ∷ v) zero z = refl
given (e ∷ v) (suc r) z = given v r z

others : (v : Numbers) (r : ℕ) (z : ℤ) (q : ℕ) → q ≢ r → number_of (with_number v r z) q ≡ number_of v q
others [] zero z zero ne = absurd (ne refl)
others [] zero z (suc q) ne = refl
others [] (suc r) z zero ne = refl
others [] (suc r) z (suc q) ne = others [] r z q (λ e. ne (ap suc e))
others (e ∷ v) zero z zero ne = absurd (ne refl)
others (e ∷ v) zero z (suc q) ne = refl
others (e ∷ v) (suc r) z zero ne = refl
others (e ∷ v) (suc r) z (suc q) ne = others v r z q (λ e. ne (ap suc e))

some_rank : (v : Numbers) (r : ℕ) (z : ℤ) → 0 < length (with_number v r z)
some_rank [] zero z = omega arith
some_rank [] (suc r) z = omega arith
some_rank (e ∷ v) zero z = omega arith
some_rank (e ∷ v) (suc r) z = omega arith

ends : (v : Numbers) (r : ℕ) (z : ℤ) → EndsWithNumber v → EndsWithNumber (with_number v r z)
ends [] zero z v_ends zero is = λ e. cc
ends [] zero z v_ends (suc q) is = absurd (omega (arith, is))
ends [] (suc r) z v_ends zero is = let some = some_rank [] r z in absurd (omega (arith, is, some))
ends [] (suc r) z v_ends (suc q) is = ends [] r z v_ends q (omega (arith, is))
ends (e ∷ v) zero z v_ends zero is = λ e. cc
ends (e ∷ v) zero z v_ends (suc q) is = v_ends (suc q) is
ends (e ∷ v) (suc r) z v_ends zero is = let some = some_rank v r z in absurd (omega (arith, is, some))
ends (e ∷ v) (suc r) z v_ends (suc q) is = ends v r z (λ p here. v_ends (suc p) (ap suc here)) q (omega (arith, is))

pub all_end : (v : Numbers) (ranks : List ℕ) (z : ℤ) → EndsWithNumber v → EndsWithNumber (with_numbers v ranks z)
all_end v [] z v_ends = v_ends
all_end v (r ∷ ranks) z v_ends = ends (with_numbers v ranks z) r z (all_end v ranks z v_ends)

abbrev is_in : ℕ → List ℕ → Bool
is_in q ranks = list_any (eq_by_cmp nat_cmp q) ranks

same_rank : (q r : ℕ) → eq_by_cmp nat_cmp q r ≡ true → q ≡ r
same_rank q r e = eqb-true q r (sym (unsigned_tied q r) ∙ e)

other_rank : (q r : ℕ) → eq_by_cmp nat_cmp q r ≡ false → q ≢ r
other_rank q r e same = true≢false (sym (eq-eqb q r same) ∙ sym (unsigned_tied q r) ∙ e)

all_given : (v : Numbers) (ranks : List ℕ) (z : ℤ) (q : ℕ) → is_in q ranks ≡ true → number_of (with_numbers v ranks z) q ≡ Some z
all_given v [] z q here = cc
all_given v (r ∷ ranks) z q here = by (eq_by_cmp nat_cmp q r) refl (all_given v ranks z q) here
  where
    by : (b : Bool) → eq_by_cmp nat_cmp q r ≡ b → (is_in q ranks ≡ true → number_of (with_numbers v ranks z) q ≡ Some z) → (b || is_in q ranks) ≡ true → number_of (with_numbers v (r ∷ ranks) z) q ≡ Some z
    by true e later here = ap (number_of (with_numbers v (r ∷ ranks) z)) (same_rank q r e) ∙ given (with_numbers v ranks z) r z
    by false e later here = others (with_numbers v ranks z) r z q (other_rank q r e) ∙ later here

all_others : (v : Numbers) (ranks : List ℕ) (z : ℤ) (q : ℕ) → is_in q ranks ≡ false → number_of (with_numbers v ranks z) q ≡ number_of v q
all_others v [] z q away = refl
all_others v (r ∷ ranks) z q away = by (eq_by_cmp nat_cmp q r) refl (all_others v ranks z q) away
  where
    by : (b : Bool) → eq_by_cmp nat_cmp q r ≡ b → (is_in q ranks ≡ false → number_of (with_numbers v ranks z) q ≡ number_of v q) → (b || is_in q ranks) ≡ false → number_of (with_numbers v (r ∷ ranks) z) q ≡ number_of v q
    by true e later away = cc
    by false e later away = others (with_numbers v ranks z) r z q (other_rank q r e) ∙ later away

-- each of the ranks has the number, and the others have theirs
pub ranks_given : (v : Numbers) (ranks : Ranks) (z : ℤ) (q : ℕ) → has ranks q ≡ true → number_of (with_numbers v (in_order ranks) z) q ≡ Some z
ranks_given v ranks z q here = all_given v (in_order ranks) z q (sym (has-in_order ranks q) ∙ here)

pub ranks_others : (v : Numbers) (ranks : Ranks) (z : ℤ) (q : ℕ) → has ranks q ≡ false → number_of (with_numbers v (in_order ranks) z) q ≡ number_of v q
ranks_others v ranks z q away = all_others v (in_order ranks) z q (sym (has-in_order ranks q) ∙ away)

-- the numbers that ranks are given are those of a list where its ranks have them, and the others have theirs
pub with_numbers_is : (v w : Numbers) (ranks : Ranks) (z : ℤ) → EndsWithNumber v → EndsWithNumber w
    → ((q : ℕ) → has ranks q ≡ true → number_of w q ≡ Some z) → ((q : ℕ) → has ranks q ≡ false → number_of w q ≡ number_of v q)
    → with_numbers v (in_order ranks) z ≡ w
with_numbers_is v w ranks z v_ends w_ends given others =
    same_numbers (with_numbers v (in_order ranks) z) w (all_end v (in_order ranks) z v_ends) w_ends (λ q. by q (has ranks q) refl)
  where
    by : (q : ℕ) (b : Bool) → has ranks q ≡ b → number_of (with_numbers v (in_order ranks) z) q ≡ number_of w q
    by q true here = ranks_given v ranks z q here ∙ sym (given q here)
    by q false away = ranks_others v ranks z q away ∙ sym (others q away)

-- whether some of the ranks have a number
pub none_valued : (v : Numbers) (ranks : Ranks) → is_empty (valued v ranks) ≡ true → (r : ℕ) → has ranks r ≡ true → number_of v r ≡ None
none_valued v ranks empty r here = by (number_of v r) refl
  where
    clash : (o : Option ℤ) → number_of v r ≡ o → is_some o ≡ true → ⊥
    clash o is some =
        true≢false (sym (has-those (λ q. is_some (number_of v q)) ranks r ∙ (λ i. here i && is_some (is i)) ∙ some)
        ∙ ap (λ s. has s r) (none_from_size (valued v ranks) (eqb-true _ _ empty)) ∙ has-none r)

    by : (o : Option ℤ) → number_of v r ≡ o → o ≡ None
    by None is = refl
    by (Some z) is = absurd (clash (Some z) is refl)

pub empty_valued : (v : Numbers) (ranks : Ranks) → ((r : ℕ) → has ranks r ≡ true → number_of v r ≡ None) → is_empty (valued v ranks) ≡ true
empty_valued v ranks each =
    ap is_empty (same_ranks (valued v ranks) none (λ r. has-those (λ q. is_some (number_of v q)) ranks r ∙ by r (has ranks r) refl ∙ sym (has-none r)))
  where
    by : (r : ℕ) (b : Bool) → has ranks r ≡ b → (b && is_some (number_of v r)) ≡ false
    by r true here = ap is_some (each r here)
    by r false away = refl
