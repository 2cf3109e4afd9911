use Rattle.std.proofs.Common.{◌≡◌, false}
use Rattle.std.specs.List.{list_any}
use Rattle.overlay_setup.specs.NodeSets.{up_to}
use Rattle.event_claims.specs.Claims.{receives_from}
use Rattle.overlay_net.specs.Places.{events_out}
use Rattle.overlay_net.proofs.nodes.NetNodes.is_received_from.Given as goal

abbrev pub invariant-loop-place : goal.invariant-loop-place
invariant-loop-place g l = record {
  none : list_any (λ k. receives_from (events_out l.self.places.items k) l.sender) (up_to l.place-index) ≡ false;
}
