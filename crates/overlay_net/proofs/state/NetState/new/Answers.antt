use Rattle.std.proofs.Common.{subst}
use Rattle.overlay_net.specs.Places.{nodes_in, places_view}
use Rattle.overlay_net.specs.States.{AreInitial}
use Rattle.overlay_net.proofs.Initial.{at_end, home_more, initial_more, nodes_more, none_losing, start_home, start_net, start_parts, start_reached}
use Rattle.overlay_net.proofs.state.NetState.new.Goals as goal

pub loop-n-preserved : goal.loop-n-preserved
loop-n-preserved g c = record {
  initial = initial_more c.args.plan.now c.loop-n.n c.loop-n.alive.items c.push.new.self.items (nodes_in (places_view c.loop-n.places.items)) (nodes_in (places_view c.push-in-loop-n.new.self.items)) c.loop-n.inboxes.items c.push-in-loop-n-2.new.self.items c.in_ok-node.node c.new-inbox.result c.loop-n.invariant.initial c.in_ok-push.ensures.items
      (nodes_more c.loop-n.places.items c.push-in-loop-n.new.self.items c.in_ok-node.node c.in_ok-push-2.ensures.items) c.in_ok-push-3.ensures.items c.new-inbox.ensures.waiting c.in_ok-node.ensures.number c.in_ok-node.ensures.fits c.in_ok-node.ensures.start c.in_ok-node.ensures.counts;
  home = home_more c.loop-n.places.items c.push-in-loop-n.new.self.items c.in_ok-node.node c.in_ok-push-2.ensures.items c.loop-n.invariant.home;
}

pub count_all-requires-clause-parts : goal.count_all-requires-clause-parts
count_all-requires-clause-parts g c κs within =
    start_parts c.args.plan.now (record { alive = c.loop-n.alive; places = c.loop-n.places; inboxes = c.loop-n.inboxes; losing = c.in_ok-losing.losing })
    (subst (λ k. AreInitial c.args.plan.now k c.loop-n.alive.items (nodes_in (places_view c.loop-n.places.items)) c.loop-n.inboxes.items) (at_end c.loop-n.n _ _ c.loop-n-test.false c.loop-n.auto.n-end c.nodes-n-end.ensures) c.loop-n.invariant.initial) c.loop-n.invariant.home

pub count_all-requires-clause-losing : goal.count_all-requires-clause-losing
count_all-requires-clause-losing g c κs within _ = none_losing (places_view c.loop-n.places.items) c.loop-n.invariant.home

pub returns-clause-net : goal.returns-clause-net
returns-clause-net g c =
    start_net g.T.PrefixTree.tree c.args.plan.now (record { nodes = record { alive = c.loop-n.alive; places = c.loop-n.places; inboxes = c.loop-n.inboxes; losing = c.in_ok-losing.losing }; counts = c.count_all.new.counts; releases = c.new-4.result })
    (subst (λ k. AreInitial c.args.plan.now k c.loop-n.alive.items (nodes_in (places_view c.loop-n.places.items)) c.loop-n.inboxes.items) (at_end c.loop-n.n _ _ c.loop-n-test.false c.loop-n.auto.n-end c.nodes-n-end.ensures) c.loop-n.invariant.initial) c.loop-n.invariant.home c.new-4.ensures.items
    c.nodes.result c.nodes.ensures c.in_ok-losing.ensures
    c.count_all.ensures

pub returns-clause-reached : goal.returns-clause-reached
returns-clause-reached g c =
    start_reached g.T.PrefixTree.tree c.args.plan.now (record { nodes = record { alive = c.loop-n.alive; places = c.loop-n.places; inboxes = c.loop-n.inboxes; losing = c.in_ok-losing.losing }; counts = c.count_all.new.counts; releases = c.new-4.result })
    (subst (λ k. AreInitial c.args.plan.now k c.loop-n.alive.items (nodes_in (places_view c.loop-n.places.items)) c.loop-n.inboxes.items) (at_end c.loop-n.n _ _ c.loop-n-test.false c.loop-n.auto.n-end c.nodes-n-end.ensures) c.loop-n.invariant.initial) c.loop-n.invariant.home c.new-4.ensures.items

pub returns-clause-home : goal.returns-clause-home
returns-clause-home g c =
    start_home g.T.PrefixTree.tree c.args.plan.now (record { nodes = record { alive = c.loop-n.alive; places = c.loop-n.places; inboxes = c.loop-n.inboxes; losing = c.in_ok-losing.losing }; counts = c.count_all.new.counts; releases = c.new-4.result })
    (subst (λ k. AreInitial c.args.plan.now k c.loop-n.alive.items (nodes_in (places_view c.loop-n.places.items)) c.loop-n.inboxes.items) (at_end c.loop-n.n _ _ c.loop-n-test.false c.loop-n.auto.n-end c.nodes-n-end.ensures) c.loop-n.invariant.initial) c.loop-n.invariant.home c.new-4.ensures.items
