use Rattle.std.proofs.Common.{◌∙◌, length, sym, subst}
use Rattle.node_inbox.specs.Sends.{AreSent, GoBelow, HaveRoom, UseRoom}
use Rattle.node_inbox.proofs.Sending.{no_room_used, nothing_sent, one_and_others, room_left, room_used_again}
use Rattle.node_inbox.proofs.Written.{empty_by_length}
use Rattle.node_inbox.proofs.delivery.deliver.Goals as goal

pub loop-to-preserved : goal.loop-to-preserved
loop-to-preserved g c =
    let rest = c.next.new.self.rest.items in
    let below = subst (λ l. GoBelow (length c.loop-to.inboxes) l) c.in-Some.ensures.steps.0 c.loop-to.invariant.below in
    let room = subst (λ l. HaveRoom c.args.from l c.loop-to.inboxes) c.in-Some.ensures.steps.0 c.loop-to.invariant.room in
    record {
      below = subst (λ k. GoBelow k rest) (sym c.send.ensures.sent.inbox_count) below.1;
      room = room_left c.args.alive.now c.args.from (c.in-Some.to, c.in-Some.item) rest c.loop-to.inboxes c.send.new.inboxes c.send.ensures.rooms room;
      left = λ new h.
          c.loop-to.invariant.left new
          (subst (λ l. AreSent c.args.alive.now c.args.from l c.loop-to.inboxes new) (sym c.in-Some.ensures.steps.0)
          (one_and_others c.args.alive.now c.args.from (c.in-Some.to, c.in-Some.item) rest _ _ _ c.send.ensures.sent h));
      used = λ new h.
          c.loop-to.invariant.used new
          (subst (λ l. UseRoom c.args.alive.now c.args.from l c.loop-to.inboxes new) (sym c.in-Some.ensures.steps.0)
          (room_used_again c.args.alive.now c.args.from (c.in-Some.to, c.in-Some.item) rest _ _ _ c.send.ensures.rooms h));
    }

pub returns-clause-sent : goal.returns-clause-sent
returns-clause-sent g c =
    c.loop-to.invariant.left c.loop-to.inboxes
    (subst (λ l. AreSent c.args.alive.now c.args.from l c.loop-to.inboxes c.loop-to.inboxes) (sym (empty_by_length c.loop-to.to-iterator.rest.items (sym c.loop-to.to-iterator.rest.ok.0 ∙ c.in-None.ensures.steps.0)))
    (nothing_sent c.args.alive.now c.args.from c.loop-to.inboxes))

pub returns-clause-rooms : goal.returns-clause-rooms
returns-clause-rooms g c =
    c.loop-to.invariant.used c.loop-to.inboxes
    (subst (λ l. UseRoom c.args.alive.now c.args.from l c.loop-to.inboxes c.loop-to.inboxes) (sym (empty_by_length c.loop-to.to-iterator.rest.items (sym c.loop-to.to-iterator.rest.ok.0 ∙ c.in-None.ensures.steps.0)))
    (no_room_used c.args.alive.now c.args.from c.loop-to.inboxes))
