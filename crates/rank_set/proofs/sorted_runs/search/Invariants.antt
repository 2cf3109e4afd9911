use Rattle.std.proofs.Common.{◌≤◌, ◌<◌, ◌-◌, length}
use Rattle.rank_set.specs.Runs.{run_pairs}
use Rattle.rank_set.proofs.RunSearch.{run_at}
use Rattle.rank_set.proofs.sorted_runs.search.Given as goal

abbrev pub invariant-loop-low : goal.invariant-loop-low
invariant-loop-low l = record {
  low : l.low ≤ l.high;
  high : l.high ≤ length l.runs;
  before : 0 < l.low → (run_at (run_pairs l.runs) (l.low - 1)).1 < l.from;
  here : l.high < length l.runs → l.from ≤ (run_at (run_pairs l.runs) l.high).1;
}

abbrev pub decreases-loop-low : goal.decreases-loop-low
decreases-loop-low l = l.high - l.low
