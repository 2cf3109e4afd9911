use Rattle.std.proofs.Common.{◌≡◌, ◌≤◌, ◌-◌}
use Rattle.rank_sums.specs.Parts.{part_below}
use Rattle.rank_sums.proofs.parts.with_run.Given as goal

abbrev pub invariant-loop-from : goal.invariant-loop-from
invariant-loop-from l = record {
  part : l.part ≡ part_below l.fold l.values l.ranks l.from;
  passed : l.fn.run.first ≤ l.from;
  within : l.from ≤ l.end;
}

abbrev pub decreases-loop-from : goal.decreases-loop-from
decreases-loop-from l = l.end - l.from
