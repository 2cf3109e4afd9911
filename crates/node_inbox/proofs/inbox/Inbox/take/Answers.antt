use Rattle.std.proofs.Common.{◌+◌, ◌∙◌, ◌∷◌, sym, ap, subst, arith}
use Rattle.std.proofs.lemmas.Bool.{eqb-false, eqb-true}
use Rattle.std.specs.List.Sorted.{IsStrictlySortedBy}
use Rattle.std.specs.Ordering.{nat_cmp}
use Rattle.node_inbox.specs.Inboxes.{InboxView, queue_of}
use Rattle.node_inbox.proofs.Queues.{found, is_inbox, queue_by_lookup, senders_increase}
use Rattle.node_inbox.proofs.Written.{IsWritten, empty_by_length, is_queue, listed_kept, listed_removed, other_queues, rooms_by, some_by_length, was_queue, written}
use Rattle.node_inbox.proofs.inbox.Inbox.take.Given.{Over}
use Rattle.node_inbox.proofs.inbox.Inbox.take.Goals as goal
use Rattle.node_inbox.proofs.inbox.Inbox.take.Goals.{After-remove_sender, Else-is_empty}

pub unreachable-requires : goal.unreachable-requires
unreachable-requires g c =
    c.requires
    (ap (λ (b : InboxView g.row.T.Denot). queue_of b.waiting c.args.sender) (sym c.self.view_is)
    ∙ queue_by_lookup c.args.sender c.self.inside.queues.entries c.self.invariant.increasing ∙ ap found (sym c.in_default.ensures.value))

pub unreachable-requires-in_default-pop_front : goal.unreachable-requires-in_default-pop_front
unreachable-requires-in_default-pop_front g c =
    let v = c.in-Some.queue.now in
    c.requires
    (ap (λ (b : InboxView g.row.T.Denot). queue_of b.waiting c.args.sender) (sym c.self.view_is)
    ∙ queue_by_lookup c.args.sender c.self.inside.queues.entries c.self.invariant.increasing ∙ ap found (sym c.in-Some.ensures.value)
    ∙ empty_by_length v.items (sym v.ok.0 ∙ c.in_default-pop_front.ensures.cases.0))

pub remove_sender-requires : goal.remove_sender-requires
remove_sender-requires g c =
    subst (IsStrictlySortedBy nat_cmp) (sym c.self.invariant.senders) (senders_increase c.self.inside.queues.entries c.self.invariant.increasing)

-- the change, where the sender is listed no more and where it still is
removed : (g : Over) (c : After-remove_sender g) → IsWritten c.args.sender c.in-Some.queue.now c.pop_front.new.self c.self.inside.queues.entries (c.get_mut.follows.lender c.pop_front.new.self).entries
removed g c =
    written c.args.sender c.in-Some.queue.now c.pop_front.new.self c.self.inside.queues (c.get_mut.follows.lender c.pop_front.new.self)
    (sym c.in-Some.ensures.value) (c.get_mut.follows.holds c.pop_front.new.self) c.self.invariant.increasing

kept : (g : Over) (c : Else-is_empty g) → IsWritten c.args.sender c.in-Some.queue.now c.pop_front.new.self c.self.inside.queues.entries (c.get_mut.follows.lender c.pop_front.new.self).entries
kept g c =
    written c.args.sender c.in-Some.queue.now c.pop_front.new.self c.self.inside.queues (c.get_mut.follows.lender c.pop_front.new.self)
    (sym c.in-Some.ensures.value) (c.get_mut.follows.holds c.pop_front.new.self) c.self.invariant.increasing

pub invariant_of-self : goal.invariant_of-self
invariant_of-self g c =
    let w = c.pop_front.new.self in
    listed_removed c.args.sender c.in-Some.queue.now w c.self.inside.queues.entries _ (removed g c) c.self.inside.senders.items _ _ _ c.self.invariant
    (empty_by_length w.items (sym w.ok.0 ∙ eqb-true _ 0 (sym c.is_empty.ensures ∙ c.if-is_empty.true))) c.remove_sender.ensures.items c.remove_sender.ensures.capacity

pub invariant_of-self-else-is_empty : goal.invariant_of-self-else-is_empty
invariant_of-self-else-is_empty g c =
    let v = c.in-Some.queue.now in let w = c.pop_front.new.self in
    let some = eqb-false _ 0 (sym c.is_empty.ensures ∙ c.if-is_empty.false) in
    listed_kept c.args.sender v w c.self.inside.queues.entries _ (kept g c) c.self.inside.senders.items _ c.self.invariant
    (some_by_length v.items (let is = v.ok.0 in let fewer = c.in-Some-pop_front.ensures.cases in omega arith))
    (some_by_length w.items (let is = w.ok.0 in omega (arith, some)))

pub returns-then-is_empty-clause-first : goal.returns-then-is_empty-clause-first
returns-then-is_empty-clause-first g c =
    let v = c.in-Some.queue.now in let w = c.pop_front.new.self in
    ap (λ (b : InboxView g.row.T.Denot). queue_of b.waiting c.args.sender) (sym c.self.view_is)
    ∙ was_queue c.args.sender v w c.self.inside.queues.entries _ (removed g c)
    ∙ c.in-Some-pop_front.ensures.items
    ∙ ap (λ l. c.in-Some-pop_front.item ∷ l) (sym (is_queue c.args.sender v w c.self.inside.queues.entries _ (removed g c)))

pub returns-then-is_empty-clause-others : goal.returns-then-is_empty-clause-others
returns-then-is_empty-clause-others g c =
    rw (← c.self.view_is) (other_queues c.args.sender c.in-Some.queue.now c.pop_front.new.self c.self.inside.queues.entries _ (removed g c))

pub returns-then-is_empty-clause-room : goal.returns-then-is_empty-clause-room
returns-then-is_empty-clause-room g c =
    let v = c.in-Some.queue.now in
    rw (← c.self.view_is)
    (rooms_by (λ n. n + 1) c.args.sender v c.pop_front.new.self c.self.inside.queues.entries _ (removed g c)
    (let ok = v.ok in let fewer = c.in-Some-pop_front.ensures.cases in let capacity = c.in-Some-pop_front.ensures.capacity in omega arith))

pub returns-then-is_empty-clause-inbox : goal.returns-then-is_empty-clause-inbox
returns-then-is_empty-clause-inbox g c = is_inbox _ (removed g c).still_increasing

pub returns-else-is_empty-clause-first : goal.returns-else-is_empty-clause-first
returns-else-is_empty-clause-first g c =
    let v = c.in-Some.queue.now in let w = c.pop_front.new.self in
    ap (λ (b : InboxView g.row.T.Denot). queue_of b.waiting c.args.sender) (sym c.self.view_is)
    ∙ was_queue c.args.sender v w c.self.inside.queues.entries _ (kept g c)
    ∙ c.in-Some-pop_front.ensures.items
    ∙ ap (λ l. c.in-Some-pop_front.item ∷ l) (sym (is_queue c.args.sender v w c.self.inside.queues.entries _ (kept g c)))

pub returns-else-is_empty-clause-others : goal.returns-else-is_empty-clause-others
returns-else-is_empty-clause-others g c =
    rw (← c.self.view_is) (other_queues c.args.sender c.in-Some.queue.now c.pop_front.new.self c.self.inside.queues.entries _ (kept g c))

pub returns-else-is_empty-clause-room : goal.returns-else-is_empty-clause-room
returns-else-is_empty-clause-room g c =
    let v = c.in-Some.queue.now in
    rw (← c.self.view_is)
    (rooms_by (λ n. n + 1) c.args.sender v c.pop_front.new.self c.self.inside.queues.entries _ (kept g c)
    (let ok = v.ok in let fewer = c.in-Some-pop_front.ensures.cases in let capacity = c.in-Some-pop_front.ensures.capacity in omega arith))

pub returns-else-is_empty-clause-inbox : goal.returns-else-is_empty-clause-inbox
returns-else-is_empty-clause-inbox g c = is_inbox _ (kept g c).still_increasing
