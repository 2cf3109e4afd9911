use Rattle.std.proofs.Common.{◌≡◌, drop, max}
use Rattle.overlay_core.specs.Bound.{longest}
use Rattle.overlay_net.proofs.pick.longest.Given as goal

abbrev pub invariant-loop-stream : goal.invariant-loop-stream
invariant-loop-stream l = record {
  most : max l.most (longest (drop l.stream-index l.streams)) ≡ longest l.streams;
}
