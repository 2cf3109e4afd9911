use Rattle.std.proofs.Common.{◌≤◌, ◌-◌, take}
use Rattle.rank_set.specs.declared.TheConstants.{RANK_LIMIT}
use Rattle.stat_plan.specs.OwnLines.{GainSeen}
use Rattle.stat_plan.proofs.wave_lines.add_spread.Given as goal

abbrev pub invariant-loop-run : goal.invariant-loop-run
invariant-loop-run l = record {
  gained : GainSeen l.times.samples l.times.wave l.own (take l.from l.spread) l.fn.lines.items l.lines.items;
  within : l.from ≤ RANK_LIMIT;
}

abbrev pub decreases-loop-run : goal.decreases-loop-run
decreases-loop-run l = RANK_LIMIT - l.from
