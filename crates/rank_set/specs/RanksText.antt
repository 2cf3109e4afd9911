-- How a text of ranks is read, as `7,0-2,1`: items separated by `,`, each a number or `a-b`. It is read from the left, and the
-- first error refuses it, with its byte offset.
use Rattle.std.specs.Prelude.{ℕ, ◌+◌, nat_eq, nat_lt, nat_le, cond, List, [], ◌∷◌, length, take, drop, Result, Ok, Err, not}
use Rattle.std.specs.List.{prefix_len}
use Rattle.rank_set.specs.declared.read.RanksError.{RanksError}
use Rattle.rank_set.specs.declared.read.RanksError.TheVariants.{Empty, BadNumber, Backward, OverLimit}
use Rattle.rank_set.specs.declared.TheConstants.{RANK_LIMIT}
use Rattle.rank_set.specs.Digits.{digits_len, value_after}
use Rattle.rank_set.specs.Ranks.{Ranks, none, union}
use Rattle.rank_set.specs.Runs.{ranks_between}
use Rattle.rank_set.specs.Text.{comma, dash}

-- the number that a text begins with
abbrev pub number : List ℕ → ℕ
number text = value_after 0 (take (digits_len text) text)

-- the number that must stand at an offset, which is tested for the limit as soon as it ends
abbrev pub number_at : ℕ → List ℕ → Result ℕ RanksError
number_at offset text =
    cond (nat_eq (digits_len text) 0) (Err (BadNumber offset))
    (cond (nat_le RANK_LIMIT (number text)) (Err (OverLimit offset)) (Ok (number text)))

-- the end of an item must stand here
abbrev pub ends_at : ℕ → List ℕ → ℕ × ℕ → Result (ℕ × ℕ) RanksError
ends_at offset [] range = Ok range
ends_at offset (b ∷ rest) range = Err (BadNumber offset)

-- the second number of an item, after its `-`
abbrev pub second_at : ℕ → ℕ → List ℕ → Result ℕ RanksError → Result (ℕ × ℕ) RanksError
second_at first offset text (Err e) = Err e
second_at first offset text (Ok second) = cond (nat_lt second first) (Err (Backward offset)) (ends_at (offset + digits_len text) (drop (digits_len text) text) (first, second))

-- what follows the first number of an item
abbrev pub after_first : ℕ → ℕ → List ℕ → Result (ℕ × ℕ) RanksError
after_first first offset [] = Ok (first, first)
after_first first offset (b ∷ rest) = cond (nat_eq b dash) (second_at first (offset + 1) rest (number_at (offset + 1) rest)) (Err (BadNumber offset))

-- an item by its first number
abbrev pub item_from : ℕ → List ℕ → Result ℕ RanksError → Result (ℕ × ℕ) RanksError
item_from offset text (Err e) = Err e
item_from offset text (Ok first) = after_first first (offset + digits_len text) (drop (digits_len text) text)

-- an item, a number or `a-b`, as its first and its last rank
unfoldable pub item_at : ℕ → List ℕ → Result (ℕ × ℕ) RanksError
item_at offset text = item_from offset text (number_at offset text)

-- a byte before the first of the items
abbrev pub before_first : ℕ → List (List ℕ) → List (List ℕ)
before_first b [] = (b ∷ []) ∷ []
before_first b (item ∷ items) = (b ∷ item) ∷ items

-- how many bytes there are before the next `,`
abbrev pub item_len : List ℕ → ℕ
item_len text = prefix_len (λ b. not (nat_eq b comma)) text

-- items separated by `,`
unfoldable pub items : List ℕ → List (List ℕ)
items [] = [] ∷ []
items (b ∷ rest) = cond (nat_eq b comma) ([] ∷ items rest) (before_first b (items rest))

-- the ranks of items, the first of which begins at an offset, beside the ranks that were read before
unfoldable pub ranks_at : ℕ → Ranks → List (List ℕ) → Result Ranks RanksError
ranks_at offset ranks [] = Ok ranks
ranks_at offset ranks (item ∷ rest) = elim (item_at offset item) [
  | (Err e) ↦ Err e
  | (Ok range) ↦ ranks_at (offset + length item + 1) (union ranks (ranks_between range.0 range.1)) rest
]

-- the ranks of a text, or its first error
abbrev pub ranks_text : List ℕ → Result Ranks RanksError
ranks_text [] = Err Empty
ranks_text (b ∷ rest) = ranks_at 0 none (items (b ∷ rest))
