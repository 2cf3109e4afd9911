use Rattle.std.proofs.Common.{◌≡◌, ◌+◌, ◌-◌, ◌∙◌, [], length, take, sym, ap, subst, arith}
use Rattle.std.proofs.lemmas.Bool.{eqb-false, eqb-true}
use Rattle.std.specs.List.Sorted.{IsStrictlySortedBy}
use Rattle.std.specs.Map.{keys_of}
use Rattle.std.specs.Ordering.{nat_cmp}
use Rattle.node_inbox.specs.Inboxes.{InboxView, queue_of}
use Rattle.node_inbox.specs.Queues.{waiting_view}
use Rattle.node_inbox.proofs.Queues.{found, is_inbox, queue_by_lookup, senders_increase}
use Rattle.node_inbox.proofs.Written.{IsWritten, empty_by_length, is_queue, listed_kept, listed_removed, nothing_to_cut, other_queues, rooms_by_queue, some_by_length, take_empty, was_queue, written}
use Rattle.node_inbox.proofs.inbox.Inbox.cut.Given.{Over}
use Rattle.node_inbox.proofs.inbox.Inbox.cut.Goals as goal
use Rattle.node_inbox.proofs.inbox.Inbox.cut.Goals.{After-remove_sender, Else-is_empty}

pub returns-in_default-clause-first : goal.returns-in_default-clause-first
returns-in_default-clause-first g c =
    let none : queue_of (waiting_view c.self.inside.queues.entries) c.args.sender ≡ [] =
    queue_by_lookup c.args.sender c.self.inside.queues.entries c.self.invariant.increasing ∙ ap found (sym c.in_default.ensures.value) in
    ap (λ m. queue_of (waiting_view m.entries) c.args.sender) c.get_mut.follows.holds-at-none
    ∙ none
    ∙ sym (ap (take c.args.keep) (ap (λ (b : InboxView g.row.T.Denot). queue_of b.waiting c.args.sender) (sym c.self.view_is) ∙ none) ∙ take_empty c.args.keep)

pub returns-in_default-clause-inbox : goal.returns-in_default-clause-inbox
returns-in_default-clause-inbox g c =
    is_inbox c.get_mut.follows.lender-at-none.entries (subst (λ m. IsStrictlySortedBy nat_cmp (keys_of m.entries)) (sym c.get_mut.follows.holds-at-none) c.self.invariant.increasing)

pub returns-in_default-clause-room : goal.returns-in_default-clause-room
returns-in_default-clause-room g c =
    rw (← c.self.view_is)
    (nothing_to_cut c.args.keep c.args.sender c.self.inside.queues c.get_mut.follows.lender-at-none c.get_mut.follows.holds-at-none (sym c.in_default.ensures.value) c.self.invariant.increasing)

pub remove_sender-requires : goal.remove_sender-requires
remove_sender-requires g c =
    subst (IsStrictlySortedBy nat_cmp) (sym c.self.invariant.senders) (senders_increase c.self.inside.queues.entries c.self.invariant.increasing)

-- the change, where the sender is listed no more and where it still is
removed : (g : Over) (c : After-remove_sender g) → IsWritten c.args.sender c.in-Some.queue.now c.truncate.new.self c.self.inside.queues.entries (c.get_mut.follows.lender c.truncate.new.self).entries
removed g c =
    written c.args.sender c.in-Some.queue.now c.truncate.new.self c.self.inside.queues (c.get_mut.follows.lender c.truncate.new.self)
    (sym c.in-Some.ensures.value) (c.get_mut.follows.holds c.truncate.new.self) c.self.invariant.increasing

kept : (g : Over) (c : Else-is_empty g) → IsWritten c.args.sender c.in-Some.queue.now c.truncate.new.self c.self.inside.queues.entries (c.get_mut.follows.lender c.truncate.new.self).entries
kept g c =
    written c.args.sender c.in-Some.queue.now c.truncate.new.self c.self.inside.queues (c.get_mut.follows.lender c.truncate.new.self)
    (sym c.in-Some.ensures.value) (c.get_mut.follows.holds c.truncate.new.self) c.self.invariant.increasing

pub invariant_of-self-then-is_empty : goal.invariant_of-self-then-is_empty
invariant_of-self-then-is_empty g c =
    let w = c.truncate.new.self in
    listed_removed c.args.sender c.in-Some.queue.now w c.self.inside.queues.entries _ (removed g c) c.self.inside.senders.items _ _ _ c.self.invariant
    (empty_by_length w.items (sym w.ok.0 ∙ eqb-true _ 0 (sym c.is_empty.ensures ∙ c.if-is_empty.true))) c.remove_sender.ensures.items c.remove_sender.ensures.capacity

pub invariant_of-self-else-is_empty : goal.invariant_of-self-else-is_empty
invariant_of-self-else-is_empty g c =
    let v = c.in-Some.queue.now in let w = c.truncate.new.self in
    let some = eqb-false _ 0 (sym c.is_empty.ensures ∙ c.if-is_empty.false) in
    let kept_some = some_by_length w.items (let is = w.ok.0 in omega (arith, some)) in
    listed_kept c.args.sender v w c.self.inside.queues.entries _ (kept g c) c.self.inside.senders.items _ c.self.invariant
    (λ none. kept_some (c.truncate.ensures.items ∙ ap (take c.args.keep) none ∙ take_empty c.args.keep)) kept_some

pub returns-then-is_empty-clause-first : goal.returns-then-is_empty-clause-first
returns-then-is_empty-clause-first g c =
    let v = c.in-Some.queue.now in let w = c.truncate.new.self in
    is_queue c.args.sender v w c.self.inside.queues.entries _ (removed g c)
    ∙ c.truncate.ensures.items
    ∙ ap (take c.args.keep) (sym (was_queue c.args.sender v w c.self.inside.queues.entries _ (removed g c)) ∙ ap (λ (b : InboxView g.row.T.Denot). queue_of b.waiting c.args.sender) c.self.view_is)

pub returns-then-is_empty-clause-others : goal.returns-then-is_empty-clause-others
returns-then-is_empty-clause-others g c =
    rw (← c.self.view_is) (other_queues c.args.sender c.in-Some.queue.now c.truncate.new.self c.self.inside.queues.entries _ (removed g c))

pub returns-then-is_empty-clause-room : goal.returns-then-is_empty-clause-room
returns-then-is_empty-clause-room g c =
    let v = c.in-Some.queue.now in let w = c.truncate.new.self in
    rw (← c.self.view_is)
    (rooms_by_queue (λ xs n. n + (length xs - c.args.keep)) c.args.sender v w c.self.inside.queues.entries _ (removed g c)
    (let len = c.truncate.ensures.len in let capacity = c.truncate.ensures.capacity in let ok = v.ok in omega arith))

pub returns-then-is_empty-clause-inbox : goal.returns-then-is_empty-clause-inbox
returns-then-is_empty-clause-inbox g c = is_inbox _ (removed g c).still_increasing

pub returns-else-is_empty-clause-first : goal.returns-else-is_empty-clause-first
returns-else-is_empty-clause-first g c =
    let v = c.in-Some.queue.now in let w = c.truncate.new.self in
    is_queue c.args.sender v w c.self.inside.queues.entries _ (kept g c)
    ∙ c.truncate.ensures.items
    ∙ ap (take c.args.keep) (sym (was_queue c.args.sender v w c.self.inside.queues.entries _ (kept g c)) ∙ ap (λ (b : InboxView g.row.T.Denot). queue_of b.waiting c.args.sender) c.self.view_is)

pub returns-else-is_empty-clause-others : goal.returns-else-is_empty-clause-others
returns-else-is_empty-clause-others g c =
    rw (← c.self.view_is) (other_queues c.args.sender c.in-Some.queue.now c.truncate.new.self c.self.inside.queues.entries _ (kept g c))

pub returns-else-is_empty-clause-room : goal.returns-else-is_empty-clause-room
returns-else-is_empty-clause-room g c =
    let v = c.in-Some.queue.now in let w = c.truncate.new.self in
    rw (← c.self.view_is)
    (rooms_by_queue (λ xs n. n + (length xs - c.args.keep)) c.args.sender v w c.self.inside.queues.entries _ (kept g c)
    (let len = c.truncate.ensures.len in let capacity = c.truncate.ensures.capacity in let ok = v.ok in omega arith))

pub returns-else-is_empty-clause-inbox : goal.returns-else-is_empty-clause-inbox
returns-else-is_empty-clause-inbox g c = is_inbox _ (kept g c).still_increasing
