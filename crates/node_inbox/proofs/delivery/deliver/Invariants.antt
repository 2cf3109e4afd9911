use Rattle.std.proofs.Common.{List, length}
use Rattle.node_inbox.specs.Inboxes.{InboxView}
use Rattle.node_inbox.specs.Sends.{AreSent, GoBelow, HaveRoom, UseRoom}
use Rattle.node_inbox.proofs.delivery.deliver.Given as goal

abbrev pub invariant-loop-to : goal.invariant-loop-to
invariant-loop-to g l = record {
  below : GoBelow (length l.inboxes) l.to-iterator.rest.items;
  room : HaveRoom l.from l.to-iterator.rest.items l.inboxes;
  left : (new : List (InboxView g.row.T.Denot)) → AreSent l.alive l.from l.to-iterator.rest.items l.inboxes new → AreSent l.alive l.from l.fn.sends.items l.fn.inboxes new;
  used : (new : List (InboxView g.row.T.Denot)) → UseRoom l.alive l.from l.to-iterator.rest.items l.inboxes new → UseRoom l.alive l.from l.fn.sends.items l.fn.inboxes new;
}
