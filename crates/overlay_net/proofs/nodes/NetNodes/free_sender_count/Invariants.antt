use Rattle.std.proofs.Common.{◌≡◌, ◌+◌, ◌≤◌, drop, length}
use Rattle.node_inbox.specs.Inboxes.{senders_of}
use Rattle.overlay_net.specs.Events.{free_senders}
use Rattle.overlay_net.specs.Places.{events_out}
use Rattle.overlay_net.proofs.nodes.NetNodes.free_sender_count.Given as goal

abbrev pub invariant-loop-i : goal.invariant-loop-i
invariant-loop-i g l = record {
  counted : l.count + length (free_senders (events_out l.self.places.items) (drop l.i (senders_of l.inbox.waiting))) ≡ length (free_senders (events_out l.self.places.items) (senders_of l.inbox.waiting));
  few : l.count ≤ l.i;
}
