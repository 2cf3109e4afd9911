-- What holds of samples after each line.
use Rattle.std.specs.Prelude.{◌≡◌, ◌<◌, ◌≤◌, ℕ, false, length, slice_index_or}
use Rattle.std.specs.List.{AllByRecursion}
use Rattle.rank_set.specs.Ranks.{none}
use Rattle.stat_plan.specs.Invariants.{ArePlacedOnce, IsSampleLine}
use Rattle.stat_plan.specs.Plans.{Sampled}
use Rattle.overlay_setup.specs.Topologies.{Nodes}
use Rattle.overlay_setup.specs.Trees.{is_daemon}
use Rattle.stat_plan.specs.declared.samples.TheConstants.{LINE_LIMIT}

-- ranks that are placed once, and on daemons alone; and samples of them, within the limit
pub record ParserInvariant (t : Nodes) (s : Sampled) : Type 0 where
  pub paired : length s.placed ≡ length t.parents
  pub nowhere_else :
      (n : ℕ) → n < length t.parents → is_daemon t.parents n ≡ false → slice_index_or s.placed n none ≡ none
  pub once : ArePlacedOnce s.placed
  pub lines : AllByRecursion (IsSampleLine s.placed) s.lines
  pub within_limit : length s.lines ≤ LINE_LIMIT
