use Rattle.std.proofs.Common.{drop, map}
use Rattle.overlay_event.specs.declared.event.Event.TheVariants.{Recv}
use Rattle.node_inbox.specs.Inboxes.{senders_of}
use Rattle.overlay_net.specs.Places.{events_out}
use Rattle.overlay_net.specs.Events.{IsNth, free_senders}
use Rattle.overlay_net.specs.declared.events.Nth.{Nth}
use Rattle.overlay_net.proofs.nodes.NetNodes.receive_event.Given as goal

abbrev pub invariant-loop-k : goal.invariant-loop-k
invariant-loop-k g l = (r : Nth) → IsNth (map (λ m. Recv l.n m) (free_senders (events_out l.self.places.items) (drop l.k (senders_of l.inbox.waiting)))) l.left r → IsNth (map (λ m. Recv l.n m) (free_senders (events_out l.self.places.items) (senders_of l.inbox.waiting))) l.i r
