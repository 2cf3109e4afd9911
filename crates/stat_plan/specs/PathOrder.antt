-- Paths in their order, and which of them a wave has.
use Rattle.std.specs.Prelude.{◌≡◌, ◌<◌, ℕ, Bool, false, ◌&&◌, nat_eq, List, [], filter, length, map, not, slice_index_or, Option, None, Some}
use Rattle.std.specs.Borrow.{Bor}
use Rattle.std.specs.List.{list_any}
use Rattle.std.specs.List.Sorted.{IsSortedBy}
use Rattle.std.specs.Ordering.{is_lt}
use Rattle.rank_set.specs.Ranks.{Ranks, has, in_order, is_empty}
use Rattle.call_path.specs.Path.{Path, path_cmp}
use Rattle.overlay_setup.specs.NodeSets.{In}
use Rattle.overlay_setup.specs.Scripts.{is_in_wave}
use Rattle.stat_plan.specs.declared.samples.StackLine.{StackLine}

-- the paths of some numbers, each with its number
abbrev pub numbered : List Path → List ℕ → List (Path × ℕ)
numbered paths numbers = map (λ i. (slice_index_or paths i [], i)) numbers

-- the paths are in their order
abbrev pub IsPathOrder : List (Path × ℕ) → Type 0
IsPathOrder ordered = IsSortedBy (λ d e. is_lt (path_cmp d.0 e.0)) ordered

-- these are the paths in their order, each with its number
pub record AreInOrder (paths : List Path) (ordered : List (Path × ℕ)) : Type 0 where
  pub numbered : (e : Path × ℕ) → In e ordered → (e.1 < length paths) × (e.0 ≡ slice_index_or paths e.1 [])
  pub complete : (i : ℕ) → i < length paths → In (slice_index_or paths i [], i) ordered
  pub paired : length ordered ≡ length paths
  pub in_order : IsPathOrder ordered

-- the numbers of some paths in the order of the paths
abbrev pub IsOrderOf : List Path → List ℕ → Type 0
IsOrderOf paths numbers = AreInOrder paths (numbered paths numbers)

-- ---- which paths of them a wave has. No clause of a public call cites what follows.

-- those of numbered paths that are seen
abbrev pub seen_paths : List (Path × ℕ) → List Bool → List Path
seen_paths ordered seen = map (λ e. e.0) (filter (λ e. slice_index_or seen e.1 false) ordered)

-- the last of some paths, the empty path before the first
abbrev pub last_path : Option (Bor Path) → Path
last_path None = []
last_path (Some path) = path.now

-- whether a set has a rank
abbrev pub has_rank : Ranks → Bool
has_rank ranks = not (is_empty ranks)

-- whether two sets have a rank in common
abbrev pub share_rank : Ranks → Ranks → Bool
share_rank s t = list_any (has t) (in_order s)

-- by path number, which paths the lines at the times of wave w list a rank of C in
pub record AreSeen (lines : List StackLine) (k w : ℕ) (C : Ranks) (seen : List Bool) : Type 0 where
  pub each : (i : ℕ) → i < length seen →
      slice_index_or seen i false ≡ list_any (λ line. nat_eq line.path i && (is_in_wave k w line.time && share_rank line.ranks C)) lines
