use Rattle.overlay_net.specs.Places.{events_out, nodes_in, places_view, whole_inboxes}
use Rattle.overlay_net.proofs.EventCounts.{AreCountedBelow}
use Rattle.overlay_net.proofs.nodes.NetNodes.count_all.Given as goal

abbrev pub invariant-loop-n : goal.invariant-loop-n
invariant-loop-n g l = record {
  counted : AreCountedBelow l.plan l.self.alive.items (nodes_in (places_view l.self.places.items)) (whole_inboxes (places_view l.self.places.items) l.self.inboxes.items) (events_out l.self.places.items) l.counts l.n;
}
