use Rattle.std.proofs.Common.{◌≡◌, ◌++◌, drop}
use Rattle.rank_set.specs.Runs.{AreRuns, run_pairs}
use Rattle.rank_set.specs.Text.{BeginsWith}
use Rattle.rank_set.proofs.Runs.{more_text}
use Rattle.rank_set.proofs.text.write_each_run.Given as goal

-- the text so far, and that of the runs that are left
abbrev pub invariant-loop-run : goal.invariant-loop-run
invariant-loop-run l = record {
  rest : AreRuns 0 (run_pairs (drop l.run-index l.runs));
  kept : BeginsWith l.out.items l.fn.out.items;
  text : l.out.items ++ more_text l.follows (run_pairs (drop l.run-index l.runs)) ≡ l.fn.out.items ++ more_text Rattle.std.proofs.Common.false (run_pairs l.runs);
}
