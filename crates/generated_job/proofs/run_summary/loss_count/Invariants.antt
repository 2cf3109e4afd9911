use Rattle.std.proofs.Common.{◌≡◌, ◌≤◌, ◌+◌, drop, length, filter}
use Rattle.generated_job.specs.Summary.{is_loss}
use Rattle.generated_job.proofs.run_summary.loss_count.Given as goal

abbrev pub invariant-loop-i : goal.invariant-loop-i
invariant-loop-i l = record {
  rest : l.count + length (filter is_loss (drop l.i l.journal)) ≡ length (filter is_loss l.journal);
  bounded : l.count ≤ l.i;
}
