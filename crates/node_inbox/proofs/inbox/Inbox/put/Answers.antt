use Rattle.std.proofs.Common.{◌≡◌, ◌≤◌, ◌-◌, ◌∙◌, ◌∷◌, ◌++◌, [], length, sym, ap, subst, arith}
use Rattle.std.proofs.lemmas.Bool.{eqb-false, eqb-true}
use Rattle.std.specs.List.Sorted.{IsStrictlySortedBy}
use Rattle.std.specs.Ordering.{nat_cmp}
use Rattle.node_inbox.specs.Inboxes.{InboxView, room_for}
use Rattle.node_inbox.specs.Queues.{spare}
use Rattle.node_inbox.proofs.Queues.{fewer_waiting, found_room, is_inbox, room_by_lookup, senders_increase}
use Rattle.node_inbox.proofs.Written.{IsWritten, empty_by_length, listed_added, listed_kept, queues_by, rooms_by, some_by_length, written}
use Rattle.node_inbox.proofs.inbox.Inbox.put.Given.{Over}
use Rattle.node_inbox.proofs.inbox.Inbox.put.Goals as goal
use Rattle.node_inbox.proofs.inbox.Inbox.put.Goals.{After-add_sender, Else-was_empty}

pub unreachable-requires : goal.unreachable-requires
unreachable-requires g c =
    let room : 1 ≤ room_for c.args.self.now c.args.sender = c.requires in
    let is : room_for c.args.self.now c.args.sender ≡ 0 =
    ap (λ (b : InboxView g.row.T.Denot). room_for b c.args.sender) (sym c.self.view_is) ∙ room_by_lookup c.args.sender c.self.inside.queues.entries ∙ ap found_room (sym c.in_default.ensures.value) in
    omega arith

pub push_back_reserved-requires : goal.push_back_reserved-requires
push_back_reserved-requires g c =
    let room : 1 ≤ room_for c.args.self.now c.args.sender = c.requires in
    let is : room_for c.args.self.now c.args.sender ≡ spare c.in-Some.queue.now =
    ap (λ (b : InboxView g.row.T.Denot). room_for b c.args.sender) (sym c.self.view_is) ∙ room_by_lookup c.args.sender c.self.inside.queues.entries ∙ ap found_room (sym c.in-Some.ensures.value) in
    omega arith

-- the change, where the sender is listed and where it was already
added : (g : Over) (c : After-add_sender g) → IsWritten c.args.sender c.in-Some.queue.now c.push_back_reserved.new.self c.self.inside.queues.entries (c.get_mut.follows.lender c.push_back_reserved.new.self).entries
added g c =
    written c.args.sender c.in-Some.queue.now c.push_back_reserved.new.self c.self.inside.queues (c.get_mut.follows.lender c.push_back_reserved.new.self)
    (sym c.in-Some.ensures.value) (c.get_mut.follows.holds c.push_back_reserved.new.self) c.self.invariant.increasing

kept : (g : Over) (c : Else-was_empty g) → IsWritten c.args.sender c.in-Some.queue.now c.push_back_reserved.new.self c.self.inside.queues.entries (c.get_mut.follows.lender c.push_back_reserved.new.self).entries
kept g c =
    written c.args.sender c.in-Some.queue.now c.push_back_reserved.new.self c.self.inside.queues (c.get_mut.follows.lender c.push_back_reserved.new.self)
    (sym c.in-Some.ensures.value) (c.get_mut.follows.holds c.push_back_reserved.new.self) c.self.invariant.increasing

pub add_sender-requires-clause-increasing : goal.add_sender-requires-clause-increasing
add_sender-requires-clause-increasing g c =
    subst (IsStrictlySortedBy nat_cmp) (sym c.self.invariant.senders) (senders_increase c.self.inside.queues.entries c.self.invariant.increasing)

pub add_sender-requires-clause-room : goal.add_sender-requires-clause-room
add_sender-requires-clause-room g c =
    let v = c.in-Some.queue.now in
    let empty = empty_by_length v.items (sym v.ok.0 ∙ eqb-true _ 0 (sym c.is_empty-was_empty.ensures ∙ c.if-was_empty.true)) in
    let fewer = fewer_waiting c.args.sender v c.self.inside.queues.entries (sym c.in-Some.ensures.value) empty in
    let places = c.self.invariant.places in
    let listed = ap length c.self.invariant.senders in
    let len = c.self.inside.senders.ok.0 in
    omega arith

pub invariant_of-self : goal.invariant_of-self
invariant_of-self g c =
    let w = c.push_back_reserved.new.self in
    listed_added c.args.sender c.in-Some.queue.now w c.self.inside.queues.entries _ (added g c) c.self.inside.senders.items _ _ _ c.self.invariant
    (some_by_length w.items (let len = c.push_back_reserved.ensures.len in let is = w.ok.0 in omega arith)) c.add_sender.ensures.items c.add_sender.ensures.capacity

pub invariant_of-self-else-was_empty : goal.invariant_of-self-else-was_empty
invariant_of-self-else-was_empty g c =
    let v = c.in-Some.queue.now in let w = c.push_back_reserved.new.self in
    let some = eqb-false _ 0 (sym c.is_empty-was_empty.ensures ∙ c.if-was_empty.false) in
    listed_kept c.args.sender v w c.self.inside.queues.entries _ (kept g c) c.self.inside.senders.items _ c.self.invariant
    (some_by_length v.items (let is = v.ok.0 in omega (arith, some)))
    (some_by_length w.items (let len = c.push_back_reserved.ensures.len in let is = w.ok.0 in omega arith))

pub returns-then-was_empty-clause-queued : goal.returns-then-was_empty-clause-queued
returns-then-was_empty-clause-queued g c =
    rw (← c.self.view_is)
    (queues_by (λ xs. xs ++ c.args.item ∷ []) c.args.sender c.in-Some.queue.now c.push_back_reserved.new.self c.self.inside.queues.entries _ (added g c) c.push_back_reserved.ensures.items)

pub returns-else-was_empty-clause-queued : goal.returns-else-was_empty-clause-queued
returns-else-was_empty-clause-queued g c =
    rw (← c.self.view_is)
    (queues_by (λ xs. xs ++ c.args.item ∷ []) c.args.sender c.in-Some.queue.now c.push_back_reserved.new.self c.self.inside.queues.entries _ (kept g c) c.push_back_reserved.ensures.items)

pub returns-then-was_empty-clause-room : goal.returns-then-was_empty-clause-room
returns-then-was_empty-clause-room g c =
    rw (← c.self.view_is)
    (rooms_by (λ n. n - 1) c.args.sender c.in-Some.queue.now c.push_back_reserved.new.self c.self.inside.queues.entries _ (added g c) (let len = c.push_back_reserved.ensures.len in let capacity = c.push_back_reserved.ensures.capacity in omega arith))

pub returns-else-was_empty-clause-room : goal.returns-else-was_empty-clause-room
returns-else-was_empty-clause-room g c =
    rw (← c.self.view_is)
    (rooms_by (λ n. n - 1) c.args.sender c.in-Some.queue.now c.push_back_reserved.new.self c.self.inside.queues.entries _ (kept g c) (let len = c.push_back_reserved.ensures.len in let capacity = c.push_back_reserved.ensures.capacity in omega arith))

pub returns-then-was_empty-clause-inbox : goal.returns-then-was_empty-clause-inbox
returns-then-was_empty-clause-inbox g c = is_inbox _ (added g c).still_increasing

pub returns-else-was_empty-clause-inbox : goal.returns-else-was_empty-clause-inbox
returns-else-was_empty-clause-inbox g c = is_inbox _ (kept g c).still_increasing
