use Rattle.std.proofs.Common.{◌≡◌, ◌+◌, drop, length}
use Rattle.stat_plan.specs.Plans.{waves_of}
use Rattle.overlay_net.proofs.pick.wave_count.Given as goal

abbrev pub invariant-loop-stream : goal.invariant-loop-stream
invariant-loop-stream l = record {
  counted : l.count + length (waves_of (drop l.stream-index l.streams)) ≡ length (waves_of l.streams);
}
