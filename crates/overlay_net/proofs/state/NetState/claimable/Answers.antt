use Rattle.std.proofs.Common.{◌∙◌, ◌<◌, [], length, sym, arith}
use Rattle.overlay_core.specs.TreeReleases.{releases_view}
use Rattle.overlay_net.specs.Places.{events_out, nodes_in, places_view, whole_inboxes}
use Rattle.overlay_net.specs.States.{claims_of}
use Rattle.overlay_net.proofs.Losing.{losses_counted}
use Rattle.overlay_net.proofs.Offers.{found_below, found_event, found_none, found_within}
use Rattle.overlay_net.proofs.state.NetState.claimable.Goals as goal

pub returns-in_default : goal.returns-in_default
returns-in_default g c =
    let st = c.args.self.now in
    sym (found_none c.args.plan.now st.nodes.alive.items (nodes_in (places_view st.nodes.places.items)) (whole_inboxes (places_view st.nodes.places.items) st.nodes.inboxes.items) (events_out st.nodes.places.items)
    st.counts c.requires.counted c.args.i (releases_view g.T.PrefixTree.tree st.releases.items) c.invariant.ensures c.requires.net.parts (sym c.in_default.ensures))

pub node_event-requires-clause-losing : goal.node_event-requires-clause-losing
node_event-requires-clause-losing g c κs within = losses_counted [] g.T.PrefixTree.tree c.args.plan.now c.args.self.now c.requires

pub node_event-requires-clause-below : goal.node_event-requires-clause-below
node_event-requires-clause-below g c κs within =
    let st = c.args.self.now in
    found_below c.args.plan.now st.nodes.alive.items (nodes_in (places_view st.nodes.places.items)) (whole_inboxes (places_view st.nodes.places.items) st.nodes.inboxes.items) (events_out st.nodes.places.items)
    st.counts c.requires.counted c.args.i c.in-Some.n c.in-Some.own (sym c.in-Some.ensures)

pub unreachable-requires : goal.unreachable-requires
unreachable-requires g c =
    let st = c.args.self.now in
    let less : c.in-Some.own < length (claims_of c.args.plan.now st.nodes c.in-Some.n) =
    found_within c.args.plan.now st.nodes.alive.items (nodes_in (places_view st.nodes.places.items)) (whole_inboxes (places_view st.nodes.places.items) st.nodes.inboxes.items) (events_out st.nodes.places.items)
    st.counts c.requires.counted c.args.i c.in-Some.n c.in-Some.own (sym c.in-Some.ensures) in
    omega (arith, less, c.in-Beyond.ensures)

pub returns : goal.returns
returns g c =
    let st = c.args.self.now in
    sym (found_event c.args.plan.now st.nodes.alive.items (nodes_in (places_view st.nodes.places.items)) (whole_inboxes (places_view st.nodes.places.items) st.nodes.inboxes.items) (events_out st.nodes.places.items)
    st.counts c.requires.counted c.args.i (releases_view g.T.PrefixTree.tree st.releases.items) c.invariant.ensures c.requires.net.parts c.in-Some.n c.in-Some.own (sym c.in-Some.ensures) ∙ c.in-Found.ensures)
