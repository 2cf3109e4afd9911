-- Which daemons a coverage has, and what each of them counts for.
use Rattle.std.specs.Prelude.{ℕ, ℤ, ◌≡◌, ◌<◌, ◌^◌, nat_lt, List, Option, None, Some, filter}
use lib.Signed.{mag}
use Rattle.rank_set.specs.Ranks.{Ranks, is_subset, those}
use Rattle.stat_plan.specs.Plans.{Plan, daemons, ranks}
use Rattle.stat_plan.specs.Invariants.{IsPlan}
use Rattle.value_text.specs.Numbers.{Numbers}
use Rattle.rank_sums.specs.declared.fold.Fold.{Fold}
use Rattle.rank_sums.specs.Folds.{counted, part_of, times}

-- the daemons of a stream whose ranks are all covered
abbrev pub covered_daemons : Plan → ℕ → Ranks → List ℕ
covered_daemons p s covered = filter (λ d. is_subset (ranks p d) covered) (daemons p s)

-- a daemon's part: what the numbers of its ranks count for
abbrev pub part_at : Plan → Numbers → Fold → ℕ → Option ℤ
part_at p v f d = part_of f v (ranks p d)

-- each part is a number that an `i64` has
abbrev pub PartsFit : Plan → Numbers → Fold → Type 0
PartsFit p v f = (d : ℕ) (z : ℤ) → part_at p v f d ≡ Some z → mag z < 2 ^ 63

-- a plan whose numbers can be folded daemon by daemon: each part is a number that an `i64` has
pub record IsFoldable (p : Plan) (v : Numbers) (f : Fold) : Type 0 where
  pub plan : IsPlan p
  pub fits : PartsFit p v f

-- ---- how a part is made. No clause of a public call cites what follows.

-- those of some ranks that are below a number
abbrev pub below : ℕ → Ranks → Ranks
below n set = those (λ r. nat_lt r n) set

-- what the numbers of those ranks count for
abbrev pub part_below : Fold → Numbers → Ranks → ℕ → Option ℤ
part_below f v set n = part_of f v (below n set)

-- what some ranks of one number count for, by how many they are: nothing where they have none
abbrev pub counted_times : Fold → Option ℤ → ℕ → Option ℤ
counted_times f None n = None
counted_times f (Some z) n = times f (counted f z) n
