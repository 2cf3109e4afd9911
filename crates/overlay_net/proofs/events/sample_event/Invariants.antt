use Rattle.std.proofs.Common.{drop}
use Rattle.std.specs.List.{flat_map}
use Rattle.overlay_net.specs.Nets.{sample_of}
use Rattle.overlay_net.specs.Events.{IsNth}
use Rattle.overlay_net.specs.declared.events.Nth.{Nth}
use Rattle.overlay_net.proofs.events.sample_event.Given as goal

abbrev pub invariant-loop-stream : goal.invariant-loop-stream
invariant-loop-stream g l = (r : Nth) → IsNth (flat_map (sample_of l.plan l.node) (drop l.stream-index l.plan.streams)) l.left r → IsNth (flat_map (sample_of l.plan l.node) l.plan.streams) l.i r
