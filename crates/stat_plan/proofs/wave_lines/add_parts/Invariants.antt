use Rattle.std.proofs.Common.{take}
use Rattle.stat_plan.specs.OwnLines.{GainSeen}
use Rattle.stat_plan.proofs.wave_lines.add_parts.Given as goal

abbrev pub invariant-loop-line : goal.invariant-loop-line
invariant-loop-line l = GainSeen l.times.samples l.times.wave l.own (take l.line-index l.more) l.fn.lines.items l.lines.items
