use Rattle.std.proofs.Common.{◌≡◌, ◌++◌, [], ◌∷◌, drop}
use Rattle.rank_set.specs.Ranks.{union}
use Rattle.rank_set.specs.Runs.{ranks_of_runs, AreRuns, run_pair, run_pairs}
use Rattle.rank_set.proofs.sorted_runs.join_all.Given as goal

abbrev pub invariant-loop-run : goal.invariant-loop-run
invariant-loop-run l = record {
  runs : AreRuns 0 (run_pairs l.done.items ++ run_pair l.last ∷ []);
  rest : AreRuns l.last.first (run_pairs (drop l.run-index l.rest));
  ranks : union (ranks_of_runs (run_pairs l.done.items ++ run_pair l.last ∷ [])) (ranks_of_runs (run_pairs (drop l.run-index l.rest)))
      ≡ union (ranks_of_runs (run_pairs l.fn.done.items ++ run_pair l.fn.pending ∷ [])) (ranks_of_runs (run_pairs l.rest));
}
