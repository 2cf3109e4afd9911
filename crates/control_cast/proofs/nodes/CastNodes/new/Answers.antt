use Rattle.std.proofs.Common.{arith}
use Rattle.control_cast.proofs.Starting.{one_more, first_parts, first_state}
use Rattle.control_cast.proofs.nodes.CastNodes.new.Goals as goal

pub loop-n-preserved : goal.loop-n-preserved
loop-n-preserved c = record {
  first = one_more c.args.plan.now c.loop-n.n c.loop-n.alive.items c.push.new.self.items c.loop-n.members.items c.push-in-loop-n.new.self.items c.loop-n.inboxes.items c.push-in-loop-n-2.new.self.items c.in_ok-node.node c.new-inbox.result
      c.loop-n.invariant.first c.in_ok-push.ensures.items c.in_ok-push-2.ensures.items c.in_ok-push-3.ensures.items c.in_ok-node.ensures.start c.in_ok-node.ensures.fits c.new-inbox.ensures.waiting;
}

pub returns : goal.returns
returns c =
    record {
      parts = first_parts c.args.plan.now c.loop-n.n c.loop-n.alive.items c.loop-n.members.items c.loop-n.inboxes.items (omega (arith, c.loop-n-test.false, c.loop-n.auto.n-end, c.nodes-n-end.ensures)) c.loop-n.invariant.first;
      state = first_state c.args.plan.now c.loop-n.n c.loop-n.alive.items c.loop-n.members.items c.loop-n.inboxes.items (omega (arith, c.loop-n-test.false, c.loop-n.auto.n-end, c.nodes-n-end.ensures)) c.loop-n.invariant.first;
    }
