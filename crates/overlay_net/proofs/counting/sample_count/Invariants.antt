use Rattle.std.proofs.Common.{◌≡◌, ◌+◌, ◌≤◌, drop, length}
use Rattle.std.specs.List.{flat_map}
use Rattle.overlay_net.specs.Nets.{sample_of}
use Rattle.overlay_net.proofs.counting.sample_count.Given as goal

abbrev pub invariant-loop-stream : goal.invariant-loop-stream
invariant-loop-stream g l = record {
  counted : l.count + length (flat_map (sample_of l.plan l.node) (drop l.stream-index l.plan.streams)) ≡ length (flat_map (sample_of l.plan l.node) l.plan.streams);
  few : l.count ≤ l.stream-index;
}
