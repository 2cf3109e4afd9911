-- What a node holds that has done no event yet.
use Rattle.std.specs.Prelude.{◌≡◌, ◌<◌, ℕ, List, Some}
use Rattle.std.specs.List.{AllByRecursion}
use Rattle.rank_set.specs.Ranks.{none}
use Rattle.stat_plan.specs.Plans.{Plan}
use Rattle.merge_filter.specs.Contributions.{Contrib, HasWave, IsPartialMerge, coverage_of}
use Rattle.overlay_node.specs.NodeViews.{HeldView}

-- nothing has come in of the wave, and there was no release
pub record IsFresh (p : Plan) (h : HeldView) : Type 0 where
  pub part : Contrib
  pub is : h.part ≡ Some part
  pub stream : part.stream ≡ h.stream
  pub wave : part.wave ≡ h.wave
  pub merge : IsPartialMerge p part
  pub empty : coverage_of part ≡ none
  pub release_count : h.release_count ≡ 0

-- nothing has come in of any wave
abbrev pub AreFresh : Plan → List HeldView → Type 0
AreFresh p hs = AllByRecursion (IsFresh p) hs

-- the plan has each of the first waves of a stream
abbrev pub HasWaves : Plan → ℕ → ℕ → Type 0
HasWaves p s waves = (w : ℕ) → w < waves → HasWave p s w
