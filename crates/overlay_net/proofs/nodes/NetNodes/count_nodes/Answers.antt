use Rattle.std.proofs.Common.{◌+◌, drop, sym, subst}
use Rattle.overlay_net.specs.Places.{events_out, nodes_in, places_view, whole_inboxes}
use Rattle.overlay_net.specs.States.{AreClaimsCountedBut}
use Rattle.overlay_net.proofs.EventCounts.{next_counted}
use Rattle.overlay_net.proofs.nodes.NetNodes.count_nodes.Goals as goal

pub loop-number-preserved : goal.loop-number-preserved
loop-number-preserved g c = record {
  counted = subst (AreClaimsCountedBut c.args.plan.now c.args.self.now (drop (c.loop-number.number-index + 1) c.args.numbers.now)) (sym c.set.ensures)
      (next_counted c.args.plan.now c.args.self.now.alive.items (nodes_in (places_view c.args.self.now.places.items)) (whole_inboxes (places_view c.args.self.now.places.items) c.args.self.now.inboxes.items) (events_out c.args.self.now.places.items)
      c.loop-number.counts c.args.numbers.now c.loop-number.number-index c.event_count.result c.requires.below c.loop-number-test.true c.event_count.ensures c.loop-number.invariant.counted);
}
