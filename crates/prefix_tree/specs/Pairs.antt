-- What pairs of a rank and a path put at a prefix, over a set of ranks.
use Rattle.std.specs.Prelude.{◌≡◌, ℕ, true}
use Rattle.rank_set.specs.Ranks.{Ranks, has, those}
use Rattle.call_path.specs.Path.{Path}
use Rattle.call_path.specs.Pairs.{Pairs, is_pair, passes}

-- each pair is of a rank of C
abbrev pub IsWithin : Pairs → Ranks → Type 0
IsWithin P C = (r : ℕ) (p : Path) → is_pair P r p ≡ true → has C r ≡ true

-- the ranks of C that pass p
abbrev pub label : Pairs → Ranks → Path → Ranks
label P C p = those (λ r. passes P r p) C

-- the ranks of C whose path is p
abbrev pub ends : Pairs → Ranks → Path → Ranks
ends P C p = those (λ r. is_pair P r p) C
