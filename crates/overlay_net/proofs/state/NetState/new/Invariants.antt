use Rattle.overlay_net.specs.Places.{nodes_in, places_view}
use Rattle.overlay_net.specs.States.{AreInitial}
use Rattle.overlay_net.proofs.Initial.{AreHome}
use Rattle.overlay_net.proofs.state.NetState.new.Given as goal

abbrev pub invariant-loop-n : goal.invariant-loop-n
invariant-loop-n g l = record {
  initial : AreInitial l.plan l.n l.alive.items (nodes_in (places_view l.places.items)) l.inboxes.items;
  home : AreHome (places_view l.places.items);
}
