use Rattle.std.proofs.Common.{◌≡◌, ◌++◌, drop}
use Rattle.stat_plan.specs.Plans.{waves_of}
use Rattle.wide_merge.proofs.direct.all_waves.Given as goal

abbrev pub invariant-loop-stream : goal.invariant-loop-stream
invariant-loop-stream l = l.waves.items ++ waves_of (drop l.stream-index l.plan.streams) ≡ waves_of l.plan.streams
