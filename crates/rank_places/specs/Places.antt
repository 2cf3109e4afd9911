-- The places of ranks in a set that covers them.
use Rattle.std.specs.Prelude.{ℕ, nat_lt, map}
use Rattle.rank_set.specs.Ranks.{Ranks, has, in_order, size, set_of, those}

-- how many ranks of the cover are less
unfoldable pub place : Ranks → ℕ → ℕ
place cover r = size (those (λ q. nat_lt q r) cover)

-- the places of the ranks
unfoldable pub to_places : Ranks → Ranks → Ranks
to_places cover ranks = set_of (map (place cover) (in_order ranks))

-- the ranks of the cover whose places are given
unfoldable pub from_places : Ranks → Ranks → Ranks
from_places cover places = those (λ r. has places (place cover r)) cover
