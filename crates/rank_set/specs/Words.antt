-- Sets of ranks as words of 64 bits.
use Rattle.std.specs.Prelude.{ℕ, suc, ◌+◌, ◌-◌, ◌*◌, ◌/◌, ◌%◌, ◌^◌, ◌<◌, ◌≤◌, ◌≡◌, Bool, not, cond, min, nat_eq, nat_lt, nat_le, ◌&&◌, List, [], ◌∷◌, length, get_or, ◌⊎◌}
use Rattle.std.specs.Int.{bit_at}
use Rattle.std.specs.List.{range_with_len, list_any, list_all}
use Rattle.rank_set.specs.declared.TheConstants.{WORD_LIMIT}
use Rattle.rank_set.specs.Ranks.{Ranks, set_of, those, in_order}

-- whether bit i of a word is 1
abbrev pub is_bit : ℕ → ℕ → Bool
is_bit w i = nat_eq (bit_at w i) 1

-- word k of all, where the words that are held begin at word o and all others are 0
unfoldable pub word_at : ℕ → List ℕ → ℕ → ℕ
word_at o ws k = cond (nat_lt k o) 0 (get_or ws (k - o) 0)

-- whether the bit of a rank is 1: bit i of word k stands for rank 64 * k + i
abbrev pub bit_in : ℕ → List ℕ → ℕ → Bool
bit_in o ws r = is_bit (word_at o ws (r / 64)) (r % 64)

-- the ranks that the words stand for
unfoldable pub ranks_in : ℕ → List ℕ → Ranks
ranks_in o ws = those (bit_in o ws) (set_of (range_with_len 0 (64 * (o + length ws))))

-- words within the limit that are trimmed at both ends
pub record AreWords (o : ℕ) (ws : List ℕ) : Type 0 where
  pub within_limit : o + length ws ≤ WORD_LIMIT
  pub nothing : length ws ≡ 0 → o ≡ 0
  pub first : 0 < length ws → 0 < get_or ws 0 0
  pub last : 0 < length ws → 0 < get_or ws (length ws - 1) 0

-- the word that the first rank of a list is in, 0 for no ranks
abbrev pub word_of_first : List ℕ → ℕ
word_of_first [] = 0
word_of_first (r ∷ rs) = r / 64

-- the word that the least rank is in, 0 for no ranks
abbrev pub offset_of : Ranks → ℕ
offset_of s = word_of_first (in_order s)

-- whether each rank of the second set lies in the words from that of the first set's least rank to that of its greatest
unfoldable pub spans : Ranks → Ranks → Bool
spans s t = list_all (λ r. list_any (λ a. nat_le (a / 64) (r / 64)) (in_order s) && list_any (λ b. nat_le (r / 64) (b / 64)) (in_order s)) (in_order t)

-- word k of the ranks from the first to the last
unfoldable pub run_word : ℕ → ℕ → ℕ → ℕ
run_word first last k = 2 ^ min 64 (suc last - 64 * k) - 2 ^ (first - 64 * k)

-- Words xs from a on are the words ws from o on, and reach from word low to below word high. They begin or end elsewhere
-- only where a word stands that is not 0.
pub record ExtendsTo (o : ℕ) (ws : List ℕ) (low high a : ℕ) (xs : List ℕ) : Type 0 where
  pub within_limit : a + length xs ≤ WORD_LIMIT
  pub same : (k : ℕ) → word_at a xs k ≡ word_at o ws k
  pub begins : a ≤ low
  pub stops : high ≤ a + length xs
  pub first : a < low → 0 < word_at a xs a
  pub last : high < a + length xs → 0 < word_at a xs (a + length xs - 1)

-- the least place from a given one on whose bit is 1, or with `gap` is 0
pub record IsNext (o : ℕ) (ws : List ℕ) (gap : Bool) (from p : ℕ) : Type 0 where
  pub start : from ≤ p
  pub end : p < 64 * (o + length ws)
  pub bit : bit_in o ws p ≡ not gap
  pub before : (q : ℕ) → from ≤ q → q < p → bit_in o ws q ≡ gap

-- Words ws from place i on and words vs from place j on are n words that have the same index among all words. The others of ws
-- have no counterpart in vs.
pub record IsOverlap (o : ℕ) (ws : List ℕ) (p : ℕ) (vs : List ℕ) (i j n : ℕ) : Type 0 where
  pub within : i + n ≤ length ws
  pub within_others : j + n ≤ length vs
  pub same : (m : ℕ) → m < n → o + (i + m) ≡ p + (j + m)
  pub before : (m : ℕ) → m < i → o + m < p
  pub after : (m : ℕ) → i + n ≤ m → m < length ws → (o + m < p) ⊎ (p + length vs ≤ o + m)
