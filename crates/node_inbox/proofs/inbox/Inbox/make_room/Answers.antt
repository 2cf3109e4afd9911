use Rattle.std.proofs.Common.{◌≡◌, ◌∙◌, length, sym, ap, arith}
use Rattle.std.proofs.lemmas.Result.{on_ok_weaker}
use Rattle.std.specs.Ordering.{nat_cmp}
use Rattle.std.specs.BTreeMap.{is_at}
use Rattle.node_inbox.specs.Inboxes.{InboxView, room_of}
use Rattle.node_inbox.specs.Queues.{rooms_view, spare, waiting_view}
use Rattle.node_inbox.proofs.Queues.{fewer_senders, same_set}
use Rattle.node_inbox.proofs.Written.{inserted, inserted_grows, inserted_room, inserted_same, is_room, listed_inserted, listed_same, rooms_grow, written}
use Rattle.node_inbox.proofs.inbox.Inbox.make_room.Goals as goal

-- ---- a queue that is there

pub invariant_of-self : goal.invariant_of-self
invariant_of-self g c =
    let change = written c.args.sender c.in-Some.queue.now c.reserve.new.self c.self.inside.queues (c.get_mut.follows.lender c.reserve.new.self)
    (sym c.in-Some.ensures.value) (c.get_mut.follows.holds c.reserve.new.self) c.self.invariant.increasing in
    listed_same c.args.sender c.in-Some.queue.now c.reserve.new.self c.self.inside.queues.entries _ change c.self.inside.senders.items _ c.self.invariant c.reserve.ensures.items

pub returns-in-Some-clause-same : goal.returns-in-Some-clause-same
returns-in-Some-clause-same g c =
    let change = written c.args.sender c.in-Some.queue.now c.reserve.new.self c.self.inside.queues (c.get_mut.follows.lender c.reserve.new.self)
    (sym c.in-Some.ensures.value) (c.get_mut.follows.holds c.reserve.new.self) c.self.invariant.increasing in
    ap waiting_view change.set
    ∙ same_set (is_at (nat_cmp c.args.sender)) c.in-Some.queue.now c.reserve.new.self c.self.inside.queues.entries change.was c.reserve.ensures.items
    ∙ ap (λ (b : InboxView g.row.T.Denot). b.waiting) c.self.view_is

pub returns-in-Some-clause-room : goal.returns-in-Some-clause-room
returns-in-Some-clause-room g c =
    let w = c.reserve.new.self in
    let change = written c.args.sender c.in-Some.queue.now c.reserve.new.self c.self.inside.queues (c.get_mut.follows.lender c.reserve.new.self)
    (sym c.in-Some.ensures.value) (c.get_mut.follows.holds c.reserve.new.self) c.self.invariant.increasing in
    let room : room_of (rooms_view (c.get_mut.follows.lender w).entries) c.args.sender ≡ spare w = is_room c.args.sender c.in-Some.queue.now w c.self.inside.queues.entries _ change in
    on_ok_weaker c.reserve.result (λ enough. omega arith) c.reserve.ensures.ok

pub returns-in-Some-clause-grows : goal.returns-in-Some-clause-grows
returns-in-Some-clause-grows g c =
    let change = written c.args.sender c.in-Some.queue.now c.reserve.new.self c.self.inside.queues (c.get_mut.follows.lender c.reserve.new.self)
    (sym c.in-Some.ensures.value) (c.get_mut.follows.holds c.reserve.new.self) c.self.invariant.increasing in
    rw (← c.self.view_is)
    (rooms_grow c.args.sender c.in-Some.queue.now c.reserve.new.self c.self.inside.queues.entries _ change
    (let len = c.reserve.ensures.len in let capacity = c.reserve.ensures.capacity in omega arith))

-- ---- a new one

pub overflow_sub-len : goal.overflow_sub-len
overflow_sub-len g c =
    let fewer = fewer_senders c.self.inside.queues.entries in
    let listed = ap length c.self.invariant.senders in
    let len = c.self.inside.senders.ok.0 in
    let same = ap (λ m. length m.entries) c.get_mut.follows.holds-at-none in
    let all = c.len.ensures.len in
    let mine = c.len-2.ensures in
    omega arith

pub invariant_of-self-2 : goal.invariant_of-self-2
invariant_of-self-2 g c =
    let change = inserted c.args.sender c.in_ok-queue.queue c.self.inside.queues c.get_mut.follows.lender-at-none c.insert.new.self
    c.get_mut.follows.holds-at-none (sym c.in_default.ensures.value) c.in_ok-insert.ensures.entries c.in_ok-insert.ensures.updates.0
    c.in_ok-queue.ensures.items c.in_ok-insert.ensures.ordered in
    let room = c.in_ok-reserve.ensures.ok in
    let fewer = fewer_senders c.self.inside.queues.entries in
    let listed = ap length c.self.invariant.senders in
    let len = c.self.inside.senders.ok.0 in
    let same = ap (λ m. length m.entries) c.get_mut.follows.holds-at-none in
    let all = c.len.ensures.len in
    let mine = c.len-2.ensures in
    let kept = c.reserve-2.ensures.len in
    listed_inserted c.args.sender c.in_ok-queue.queue c.self.inside.queues.entries _ change c.self.inside.senders.items _ _ _ c.self.invariant c.reserve-2.ensures.items (omega arith)

pub returns-clause-same : goal.returns-clause-same
returns-clause-same g c =
    let change = inserted c.args.sender c.in_ok-queue.queue c.self.inside.queues c.get_mut.follows.lender-at-none c.insert.new.self
    c.get_mut.follows.holds-at-none (sym c.in_default.ensures.value) c.in_ok-insert.ensures.entries c.in_ok-insert.ensures.updates.0
    c.in_ok-queue.ensures.items c.in_ok-insert.ensures.ordered in
    inserted_same c.args.sender c.in_ok-queue.queue c.self.inside.queues.entries _ change ∙ ap (λ (b : InboxView g.row.T.Denot). b.waiting) c.self.view_is

pub returns-clause-room : goal.returns-clause-room
returns-clause-room g c =
    let change = inserted c.args.sender c.in_ok-queue.queue c.self.inside.queues c.get_mut.follows.lender-at-none c.insert.new.self
    c.get_mut.follows.holds-at-none (sym c.in_default.ensures.value) c.in_ok-insert.ensures.entries c.in_ok-insert.ensures.updates.0
    c.in_ok-queue.ensures.items c.in_ok-insert.ensures.ordered in
    let room : room_of (rooms_view c.insert.new.self.entries) c.args.sender ≡ spare c.in_ok-queue.queue = inserted_room c.args.sender c.in_ok-queue.queue c.self.inside.queues.entries _ change in
    let capacity = c.in_ok-queue.ensures.capacity in
    let len = c.in_ok-queue.ensures.len in
    omega arith

pub returns-clause-grows : goal.returns-clause-grows
returns-clause-grows g c =
    let change = inserted c.args.sender c.in_ok-queue.queue c.self.inside.queues c.get_mut.follows.lender-at-none c.insert.new.self
    c.get_mut.follows.holds-at-none (sym c.in_default.ensures.value) c.in_ok-insert.ensures.entries c.in_ok-insert.ensures.updates.0
    c.in_ok-queue.ensures.items c.in_ok-insert.ensures.ordered in
    rw (← c.self.view_is) (inserted_grows c.args.sender c.in_ok-queue.queue c.self.inside.queues.entries _ change)
