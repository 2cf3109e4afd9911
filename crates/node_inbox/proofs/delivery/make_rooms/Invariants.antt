use Rattle.std.proofs.Common.{◌≡◌, ◌≤◌, ℕ, length}
use Rattle.node_inbox.specs.Sends.{inbox_at, room_at}
use Rattle.node_inbox.proofs.Sending.{HaveRoomTo}
use Rattle.node_inbox.proofs.delivery.make_rooms.Given as goal

abbrev pub invariant-loop-to : goal.invariant-loop-to
invariant-loop-to g l = record {
  count : length l.inboxes ≡ length l.fn.inboxes;
  same : (b : ℕ) → inbox_at l.inboxes b ≡ inbox_at l.fn.inboxes b;
  grows : (b m : ℕ) → room_at l.fn.inboxes b m ≤ room_at l.inboxes b m;
  room : HaveRoomTo l.from l.to-index l.sends l.inboxes;
}
