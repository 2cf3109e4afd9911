use Rattle.std.proofs.Common.{◌<◌, ◌≤◌, ◌∙◌, get_or, length, sym, subst, arith}
use Rattle.std.proofs.lemmas.List.{get_or_default, length-set, take_all}
use Rattle.node_inbox.specs.Sends.{GoBelow, no_inbox, room_at}
use Rattle.node_inbox.proofs.Sending.{below_at, made_grows, made_same, room_all, room_more}
use Rattle.node_inbox.proofs.delivery.make_rooms.Goals as goal

pub loop-to-preserved : goal.loop-to-preserved
loop-to-preserved g c =
    let ib = c.loop-to.inboxes in
    let sends = c.args.sends.now in
    let i = c.loop-to.to-index in
    let v = c.loop-to-item.result in
    let was = c.index-inboxes-to.result in
    let new = c.make_room.new.self in
    let below : v.0 < length ib = below_at (length ib) i sends v (subst (λ n. GoBelow n sends) (sym c.loop-to.invariant.count) c.requires) c.loop-to-test.true c.loop-to-item.is in
    let is = get_or_default ib v.0 was no_inbox below in
    record {
      count = length-set ib v.0 new ∙ c.loop-to.invariant.count;
      same = λ b. made_same v.0 ib (get_or ib v.0 was) new below is c.make_room.ensures.same b ∙ c.loop-to.invariant.same b;
      grows = λ b m.
          let first : room_at c.args.inboxes.now b m ≤ room_at ib b m = c.loop-to.invariant.grows b m in
          let then = made_grows v.0 ib (get_or ib v.0 was) new below is c.make_room.ensures.grows b m in
          omega arith;
      room = room_more c.args.from i c.most_to_one-count.result sends v ib (get_or ib v.0 was) new c.loop-to-test.true c.loop-to-item.is below is
          c.make_room.ensures.grows (c.most_to_one-count.ensures.enough v.0) c.in_ok-make_room.ensures.room c.loop-to.invariant.room;
    }

pub returns-clause-room : goal.returns-clause-room
returns-clause-room g c =
    room_all c.args.from c.loop-to.to-index c.args.sends.now c.loop-to.inboxes (take_all _ _ (let past = c.loop-to-test.false in omega arith)) c.loop-to.invariant.room
