use Rattle.std.proofs.Common.{◌≡◌, ◌<◌, ℕ}
use Rattle.rank_set.specs.Runs.{run_pairs}
use Rattle.rank_set.proofs.RunSearch.{run_at}
use Rattle.rank_set.proofs.sorted_runs.are_same.Given as goal

abbrev pub invariant-loop-i : goal.invariant-loop-i
invariant-loop-i l = record {
  same : (j : ℕ) → j < l.i → run_at (run_pairs l.runs) j ≡ run_at (run_pairs l.others) j;
}
