use Rattle.std.proofs.Common.{◌≤◌, ◌-◌}
use Rattle.rank_set.specs.declared.TheConstants.{RANK_LIMIT}
use Rattle.rank_set.proofs.RunWalks.{IsOutBelow}
use Rattle.rank_set.proofs.by_runs.meets_no_run.Given as goal

abbrev pub invariant-loop-run : goal.invariant-loop-run
invariant-loop-run l = record {
  within : l.from ≤ RANK_LIMIT;
  done : IsOutBelow l.set l.other l.from;
}

abbrev pub decreases-loop-run : goal.decreases-loop-run
decreases-loop-run l = RANK_LIMIT - l.from
