use Rattle.std.proofs.Common.{◌≡◌, ◌+◌, ◌∙◌, [], length, sym, ap, subst, arith}
use Rattle.std.specs.List.Sorted.{IsStrictlySortedBy}
use Rattle.std.specs.Ordering.{nat_cmp}
use Rattle.node_inbox.specs.Inboxes.{InboxView, queue_of, room_for, room_of, senders_of}
use Rattle.node_inbox.specs.Queues.{rooms_view, waiting_view}
use Rattle.node_inbox.proofs.Emptied.{all_emptied, same_count}
use Rattle.node_inbox.proofs.Queues.{sent}
use Rattle.node_inbox.proofs.inbox.Inbox.clear.Goals as goal

pub invariant_of-self : goal.invariant_of-self
invariant_of-self g c =
    let old = c.self.inside.queues.entries in let new = c.empty_queues.new.queues.entries in
    let none = all_emptied (waiting_view old) (waiting_view new) c.as_slice.result.now (sent new) (c.as_slice.ensures.value ∙ c.self.invariant.senders) c.empty_queues.ensures.queues in
    record {
      increasing = subst (IsStrictlySortedBy nat_cmp) (sym c.empty_queues.ensures.keys) c.self.invariant.increasing;
      senders = c.clear.ensures.items ∙ ap senders_of (sym none);
      places = let count = same_count old new c.empty_queues.ensures.keys in let places = c.self.invariant.places in let capacity = c.clear.ensures.capacity in omega arith;
    }

pub returns-clause-waiting : goal.returns-clause-waiting
returns-clause-waiting g c =
    let old = c.self.inside.queues.entries in let new = c.empty_queues.new.queues.entries in
    all_emptied (waiting_view old) (waiting_view new) c.as_slice.result.now (sent new) (c.as_slice.ensures.value ∙ c.self.invariant.senders) c.empty_queues.ensures.queues

pub returns-clause-room : goal.returns-clause-room
returns-clause-room g c = λ m.
    let old = c.self.inside.queues.entries in let new = c.empty_queues.new.queues.entries in
    let none : waiting_view new ≡ [] = all_emptied (waiting_view old) (waiting_view new) c.as_slice.result.now (sent new) (c.as_slice.ensures.value ∙ c.self.invariant.senders) c.empty_queues.ensures.queues in
    let empty : length (queue_of (waiting_view new) m) ≡ 0 = ap (λ w. length (queue_of w m)) none in
    let places : room_of (rooms_view new) m + length (queue_of (waiting_view new) m) ≡ room_of (rooms_view old) m + length (queue_of (waiting_view old) m) = c.empty_queues.ensures.places m in
    let is : room_of (rooms_view new) m ≡ room_of (rooms_view old) m + length (queue_of (waiting_view old) m) = omega arith in
    is ∙ ap (λ (b : InboxView g.row.T.Denot). room_for b m + length (queue_of b.waiting m)) c.self.view_is
