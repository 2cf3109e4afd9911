-- The words of a set of ranks, from that of the least rank to that of the greatest.
use Rattle.std.specs.Prelude.{ℕ, zero, suc, ◌+◌, ◌-◌, ◌*◌, ◌/◌, ◌^◌, ◌<◌, Bool, cond, List, [], ◌∷◌, map, get_or}
use Rattle.std.specs.List.{range_with_len}
use Rattle.rank_set.specs.Ranks.{Ranks, has, in_order}

-- the number whose bits are the answers of a test at so many places, where the first place is the lowest bit
abbrev pub bits_of : (ℕ → Bool) → ℕ → ℕ → ℕ
bits_of test place zero = 0
bits_of test place (suc n) = cond (test place) 1 0 + 2 * bits_of test (place + 1) n

-- word k of a set: bit i is 1 exactly where rank 64 * k + i is a member
unfoldable pub set_word : Ranks → ℕ → ℕ
set_word s k = bits_of (has s) (64 * k) 64

-- the last of the ranks that begin with r
abbrev pub last_rank : ℕ → List ℕ → ℕ
last_rank r [] = r
last_rank r (q ∷ rs) = last_rank q rs

-- the words of a set, whose members are listed in order
abbrev pub words_over : Ranks → List ℕ → List ℕ
words_over s [] = []
words_over s (r ∷ rs) = map (set_word s) (range_with_len (r / 64) (suc (last_rank r rs / 64) - r / 64))

-- the words of a set from that of the least rank to that of the greatest, none for the empty set
unfoldable pub words_of : Ranks → List ℕ
words_of s = words_over s (in_order s)

-- each word has 64 bits
abbrev pub FitInWords : List ℕ → Type 0
FitInWords ws = (k : ℕ) → get_or ws k 0 < 2 ^ 64
