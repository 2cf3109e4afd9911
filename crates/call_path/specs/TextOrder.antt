-- The order of paths, read off their texts.
use Rattle.std.specs.Prelude.{ℕ, nat_eq, cond, List, map, slice_index}
use Rattle.std.specs.Ordering.{nat_cmp}
use Rattle.std.specs.Cmp.Lexicographic.{slice_cmp}
use Rattle.std.specs.declared.cmp.Ordering.{Ordering}

-- the rank of a byte: the `;` between two frames comes before each byte of a frame
abbrev pub byte_rank : ℕ → ℕ
byte_rank b = cond (nat_eq b 59) 1 b

-- two texts compared byte by byte, by rank, a prefix first
abbrev pub text_cmp : List ℕ → List ℕ → Ordering
text_cmp a b = slice_cmp nat_cmp (map byte_rank a) (map byte_rank b)

-- the rank at an offset of a text: 0 at the end, which comes before all bytes
abbrev pub rank_at : List ℕ → ℕ → ℕ
rank_at text offset = slice_index (map byte_rank text) offset
