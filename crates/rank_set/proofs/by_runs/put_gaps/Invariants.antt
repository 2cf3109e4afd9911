use Rattle.std.proofs.Common.{◌≤◌, ◌-◌, ◌+◌}
use Rattle.rank_set.proofs.RunWalks.{AreGapsBelow}
use Rattle.rank_set.proofs.by_runs.put_gaps.Given as goal

abbrev pub invariant-loop-hole : goal.invariant-loop-hole
invariant-loop-hole l = record {
  start : l.run.first ≤ l.from;
  end : l.from ≤ l.run.last + 1;
  done : AreGapsBelow l.other l.fn.out l.run.first l.run.last l.out l.from;
}

abbrev pub decreases-loop-hole : goal.decreases-loop-hole
decreases-loop-hole l = l.run.last + 1 - l.from
