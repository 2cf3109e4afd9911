use Rattle.std.proofs.Common.{◌+◌, drop, subst, sym}
use Rattle.control_cast.specs.CastEvents.{AreCountedBut}
use Rattle.control_cast.specs.CastStates.{nodes_state}
use Rattle.control_cast.proofs.Counting.{next_counted}
use Rattle.control_cast.proofs.nodes.CastNodes.count.Goals as goal

pub loop-number-preserved : goal.loop-number-preserved
loop-number-preserved c = record {
  counted = subst (AreCountedBut c.args.plan.now c.args.commands (nodes_state c.args.plan.now c.args.self.now) (drop (c.loop-number.number-index + 1) c.args.numbers.now)) (sym c.set.ensures)
      (next_counted c.args.plan.now c.args.commands (nodes_state c.args.plan.now c.args.self.now) c.loop-number.counts c.args.numbers.now c.loop-number.number-index c.event_count.result c.requires.below c.loop-number-test.true c.event_count.ensures c.loop-number.invariant.counted);
}
