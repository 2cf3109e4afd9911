use Rattle.std.proofs.Common.{◌≡◌, ◌≤◌, ◌-◌}
use Rattle.rank_set.specs.declared.TheConstants.{RANK_LIMIT}
use Rattle.rank_sums.specs.Parts.{part_below}
use Rattle.rank_sums.proofs.parts.part_of.Given as goal

abbrev pub invariant-loop-run : goal.invariant-loop-run
invariant-loop-run l = record {
  part : l.part ≡ part_below l.fold l.values l.ranks l.from;
  within : l.from ≤ RANK_LIMIT;
}

abbrev pub decreases-loop-run : goal.decreases-loop-run
decreases-loop-run l = RANK_LIMIT - l.from
