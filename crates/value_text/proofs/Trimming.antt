-- Lists of numbers up to the last rank that has one: they are the same where each rank has the same number.
use Rattle.std.proofs.Common.{◌≡◌, ◌≢◌, ◌∙◌, ℕ, zero, suc, ◌<◌, ◌≤◌, List, [], ◌∷◌, length, map, get_or, Option, None, Some, inl, inr, refl, sym, arith}
use Rattle.std.proofs.Math.IntN.{ℤ}
use Rattle.std.proofs.Math.ListN.{get_or-map}
use Rattle.std.proofs.lemmas.Bool.{cases_lt}
use Rattle.std.proofs.lemmas.List.{ext_get_or, get_or_past}
use Rattle.value_text.specs.Numbers.{Numbers, number_of, EndsWithNumber}
use Rattle.value_text.specs.Views.{number_at, number_before, up_to_last, numbers_view}

some_not_none : (z : ℤ) → Some z ≢ None
some_not_none z e = cc

before_first : (e : Option ℤ) (v : Numbers) → number_of (number_before e v) 0 ≡ e
before_first None [] = refl
before_first None (x ∷ v) = refl
before_first (Some z) v = refl

before_later : (e : Option ℤ) (v : Numbers) (r : ℕ) → number_of (number_before e v) (suc r) ≡ number_of v r
before_later None [] r = refl
before_later None (x ∷ v) r = refl
before_later (Some z) v r = refl

before_ends : (e : Option ℤ) (v : Numbers) → EndsWithNumber v → EndsWithNumber (number_before e v)
before_ends None [] ends r e = absurd (omega (arith, e))
before_ends None (x ∷ v) ends zero e = absurd (omega (arith, e))
before_ends None (x ∷ v) ends (suc r) e = ends r (omega (arith, e))
before_ends (Some z) v ends zero e = some_not_none z
before_ends (Some z) v ends (suc r) e = ends r (omega (arith, e))

-- each rank has its number
pub number-up_to_last : (v : Numbers) (r : ℕ) → number_of (up_to_last v) r ≡ number_of v r
number-up_to_last [] r = refl
number-up_to_last (e ∷ v) zero = before_first e (up_to_last v)
number-up_to_last (e ∷ v) (suc r) = before_later e (up_to_last v) r ∙ number-up_to_last v r

-- the last rank has a number
up_to_last_ends : (v : Numbers) → EndsWithNumber (up_to_last v)
up_to_last_ends [] r is = absurd (omega (arith, is))
up_to_last_ends (e ∷ v) r is = before_ends e (up_to_last v) (up_to_last_ends v) r is

-- a list that ends with a number is no shorter than another with the same numbers
no_shorter : (v w : Numbers) → EndsWithNumber w → ((r : ℕ) → number_of v r ≡ number_of w r) → length w ≤ length v
no_shorter v w ends same = elim (cases_lt (length v) (length w)) [
  | inl lt ↦ absurd (short (length w) refl lt)
  | inr le ↦ le
]
  where
    short : (n : ℕ) → length w ≡ n → length v < n → ⊥
    short zero is lt = absurd (omega (arith, lt))
    short (suc m) is lt = ends m is (sym (same m) ∙ get_or_past v m None (omega (arith, lt)))

-- lists that end with a number are the same where each rank has the same number
pub same_numbers : (v w : Numbers) → EndsWithNumber v → EndsWithNumber w → ((r : ℕ) → number_of v r ≡ number_of w r) → v ≡ w
same_numbers v w v_ends w_ends same =
    let down = no_shorter v w w_ends same in
    let up = no_shorter w v v_ends (λ r. sym (same r)) in
    ext_get_or None v w (omega (arith, down, up)) (λ r lt. same r)

-- the number of a rank, by its entry
pub number-view : (entries : List ℕ) (numbers : List ℤ) (r : ℕ) → number_of (numbers_view entries numbers) r ≡ number_at numbers (get_or entries r 0)
number-view entries numbers r = number-up_to_last (map (number_at numbers) entries) r ∙ get_or-map (number_at numbers) entries r 0

pub view_ends : (entries : List ℕ) (numbers : List ℤ) → EndsWithNumber (numbers_view entries numbers)
view_ends entries numbers = up_to_last_ends (map (number_at numbers) entries)
