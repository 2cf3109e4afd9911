use Rattle.std.proofs.Common.{◌≡◌, ◌+◌, drop}
use Rattle.rank_set.specs.Ranks.{size}
use Rattle.rank_set.specs.Runs.{ranks_of_runs, AreRuns, run_pairs}
use Rattle.rank_set.proofs.sorted_runs.count.Given as goal

abbrev pub invariant-loop-run : goal.invariant-loop-run
invariant-loop-run l = record {
  rest : AreRuns 0 (run_pairs (drop l.run-index l.runs));
  total : l.total + size (ranks_of_runs (run_pairs (drop l.run-index l.runs))) ≡ size (ranks_of_runs (run_pairs l.runs));
}
