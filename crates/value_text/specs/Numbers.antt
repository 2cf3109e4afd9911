-- The numbers that ranks have.
use Rattle.std.specs.Prelude.{◌≡◌, ◌≢◌, ◌≤ℤ◌, ℕ, suc, ℤ, pos, neg_ℤ, List, length, Option, None, Some, slice_index_or}

-- by rank, the number that it has
abbrev pub Numbers : Type 0
Numbers = List (Option ℤ)

-- the number of a rank
abbrev pub number_of : Numbers → ℕ → Option ℤ
number_of v r = slice_index_or v r None

-- a number from -1,000,000,000,000 to 1,000,000,000,000
abbrev pub IsSmall : ℤ → Type 0
IsSmall z = (neg_ℤ (pos 1000000000000) ≤ℤ z) × (z ≤ℤ pos 1000000000000)

-- each number is such a one
abbrev pub AreSmall : Numbers → Type 0
AreSmall v = (r : ℕ) (z : ℤ) → number_of v r ≡ Some z → IsSmall z

-- the list ends with a number, or is empty
abbrev pub EndsWithNumber : Numbers → Type 0
EndsWithNumber v = (r : ℕ) → length v ≡ suc r → number_of v r ≢ None
