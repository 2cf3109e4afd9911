use Rattle.std.proofs.Common.{take}
use Rattle.stat_plan.specs.OwnLines.{GainRanksSeen}
use Rattle.stat_plan.proofs.wave_lines.gather.Given as goal

abbrev pub invariant-loop-line : goal.invariant-loop-line
invariant-loop-line l = GainRanksSeen l.times.samples l.times.wave l.own (take l.line-index l.lines) l.fn.sets l.sets
