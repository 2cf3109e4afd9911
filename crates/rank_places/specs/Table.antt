-- The runs of a cover with the places of their ranks, and how numbers are moved between the two.
use Rattle.std.specs.Prelude.{⊤, ◌≡◌, ℕ, zero, suc, ◌+◌, ◌-◌, ◌<◌, ◌≤◌, Bool, true, false, nat_lt, List, [], ◌∷◌, length, map}
use Rattle.rank_set.specs.declared.TheConstants.{RANK_LIMIT}
use Rattle.rank_set.specs.declared.Run.{Run}
use Rattle.rank_set.specs.Ranks.{Ranks, has, size}
use Rattle.rank_set.specs.Runs.{ranks_of_runs}
use Rattle.rank_places.specs.declared.table.PlacedRun.{PlacedRun}
use Rattle.rank_places.specs.Places.{place, to_places, from_places}

-- runs, each with its first rank's place, where the first run's is given
abbrev pub placed_from : ℕ → List Run → List PlacedRun
placed_from p [] = []
placed_from p (r ∷ rs) = record { first = r.first; last = r.last; place = p } ∷ placed_from (p + (r.last - r.first + 1)) rs

-- the first rank and the last
abbrev pub ends_of : PlacedRun → ℕ × ℕ
ends_of r = (r.first, r.last)

-- the ranks of the runs
abbrev pub cover_of : List PlacedRun → Ranks
cover_of rs = ranks_of_runs (map ends_of rs)

-- runs below the limit that begin at or above a rank, in order, with a gap before the next, and their places from a given one on
abbrev pub ArePlaced : ℕ → ℕ → List PlacedRun → Type 0
ArePlaced least p [] = ⊤
ArePlaced least p (r ∷ rs) = (least ≤ r.first) × (r.first ≤ r.last) × (r.last < RANK_LIMIT) × (r.place ≡ p) × ArePlaced (r.last + 2) (p + (r.last - r.first + 1)) rs

-- ---- ranks become places, or, the way back, places become ranks

-- whether a number has one that it becomes
abbrev pub inside : Bool → Ranks → ℕ → Bool
inside false cover x = has cover x
inside true cover x = nat_lt x (size cover)

-- x becomes y
abbrev pub Becomes : Bool → Ranks → ℕ → ℕ → Type 0
Becomes false cover x y = (has cover x ≡ true) × (place cover x ≡ y)
Becomes true cover x y = (has cover y ≡ true) × (place cover y ≡ x)

-- what the numbers of a set become
abbrev pub image : Bool → Ranks → Ranks → Ranks
image false cover s = to_places cover s
image true cover s = from_places cover s

-- the first of the numbers of a run that become others, and the last
abbrev pub source : Bool → PlacedRun → ℕ
source false r = r.first
source true r = r.place

abbrev pub source_end : Bool → PlacedRun → ℕ
source_end back r = source back r + (r.last - r.first)

-- the first number of the run with an index
abbrev pub source_at : Bool → List PlacedRun → ℕ → ℕ
source_at back [] k = 0
source_at back (r ∷ rs) zero = source back r
source_at back (r ∷ rs) (suc k) = source_at back rs k

-- the run with an index is the last that does not begin past a number
pub record IsFound (back : Bool) (rs : List PlacedRun) (x k : ℕ) : Type 0 where
  pub within : k < length rs
  pub begun : 0 < k → source_at back rs k ≤ x
  pub next : suc k < length rs → x < source_at back rs (suc k)

-- the numbers from the first to the last become those from the target on
pub record AreMoved (back : Bool) (cover : Ranks) (first last target : ℕ) : Type 0 where
  pub below_limit : target + (last - first) < RANK_LIMIT
  pub moves : (q : ℕ) → first ≤ q → q ≤ last → Becomes back cover q (target + (q - first))

-- and x is among them
pub record IsShift (back : Bool) (cover : Ranks) (x first last target : ℕ) : Type 0 where
  pub start : first ≤ x
  pub end : x ≤ last
  pub moved : AreMoved back cover first last target
