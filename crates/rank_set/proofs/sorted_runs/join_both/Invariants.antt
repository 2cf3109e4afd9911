use Rattle.std.proofs.Common.{◌≡◌, ◌≤◌, ◌+◌, ◌-◌, ◌++◌, [], ◌∷◌, drop, length}
use Rattle.rank_set.specs.Ranks.{union}
use Rattle.rank_set.specs.Runs.{ranks_of_runs, AreRuns, run_pair, run_pairs}
use Rattle.rank_set.proofs.sorted_runs.join_both.Given as goal

abbrev pub invariant-loop-i : goal.invariant-loop-i
invariant-loop-i l = record {
  i : l.i ≤ length l.runs;
  j : l.j ≤ length l.others;
  done : AreRuns 0 (run_pairs l.done.items ++ run_pair l.last ∷ []);
  runs : AreRuns l.last.first (run_pairs (drop l.i l.runs));
  others : AreRuns l.last.first (run_pairs (drop l.j l.others));
  ranks : union (ranks_of_runs (run_pairs l.done.items ++ run_pair l.last ∷ [])) (union (ranks_of_runs (run_pairs (drop l.i l.runs))) (ranks_of_runs (run_pairs (drop l.j l.others))))
      ≡ union (ranks_of_runs (run_pairs l.fn.done.items ++ run_pair l.fn.pending ∷ [])) (union (ranks_of_runs (run_pairs l.runs)) (ranks_of_runs (run_pairs l.others)));
}

abbrev pub decreases-loop-i : goal.decreases-loop-i
decreases-loop-i l = length l.runs - l.i + (length l.others - l.j)
