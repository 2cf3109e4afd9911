use Rattle.std.proofs.Common.{◌≡◌, ◌+◌, drop, length, arith}
use Rattle.stat_plan.specs.Plans.{waves_of}
use Rattle.overlay_net.proofs.SmallCounts.{waves_from}
use Rattle.overlay_net.proofs.pick.wave_count.Goals as goal

pub loop-stream-preserved : goal.loop-stream-preserved
loop-stream-preserved c =
    let s = c.stream-item.result in
    let k = c.loop-stream.stream-index in
    let split : length (waves_of (drop k c.args.streams.now)) ≡ s.waves + length (waves_of (drop (k + 1) c.args.streams.now)) = waves_from c.args.streams.now k s c.loop-stream-test.true c.stream-item.is in
    record { counted = omega (arith, split, c.loop-stream.invariant.counted, c.waves.ensures, c.from-count.ensures) }
