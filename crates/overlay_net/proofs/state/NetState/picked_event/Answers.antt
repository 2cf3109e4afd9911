use Rattle.std.proofs.Common.{◌∙◌, ◌/◌, ◌%◌, ◌^◌, List, length, slice_get, sym, ap, arith}
use Rattle.overlay_event.specs.declared.event.Event.{Event}
use Rattle.event_claims.specs.Claims.{claimable_events}
use Rattle.event_claims.proofs.Claimable.{claimable_home}
use Rattle.overlay_core.specs.Machine.{enabled_events}
use Rattle.overlay_core.specs.TreeReleases.{releases_view}
use Rattle.overlay_net.specs.Places.{events_out, nodes_in, places_view, whole_inboxes}
use Rattle.overlay_net.proofs.Offers.{all_counted}
use Rattle.overlay_net.specs.States.{state_at}
use Rattle.overlay_net.proofs.Picks.{nothing_to_pick, picks_of_all}
use Rattle.overlay_net.proofs.state.NetState.picked_event.Goals as goal

pub returns-then-count-eq0 : goal.returns-then-count-eq0
returns-then-count-eq0 g c =
    let st = state_at g.T.PrefixTree.tree c.args.plan.now c.args.self.now in
    let rs = releases_view g.T.PrefixTree.tree c.args.self.now.releases.items in
    let all = all_counted c.args.plan.now c.args.self.now.nodes.alive.items (nodes_in (places_view c.args.self.now.nodes.places.items)) (whole_inboxes (places_view c.args.self.now.nodes.places.items) c.args.self.now.nodes.inboxes.items) rs (events_out c.args.self.now.nodes.places.items) c.args.self.now.counts c.invariant.ensures c.requires.net.net.parts c.requires.net.counted
    ∙ ap (λ (es : List Event). length es) (claimable_home c.args.plan.now st (events_out c.args.self.now.nodes.places.items) c.requires.home) in
    sym (nothing_to_pick c.args.plan.now st c.args.number (omega (arith, all, c.total-count.ensures, c.if-count-eq0.true)))

pub returns : goal.returns
returns g c =
    let p = c.args.plan.now in
    let st = state_at g.T.PrefixTree.tree p c.args.self.now in
    let out = events_out c.args.self.now.nodes.places.items in
    let rs = releases_view g.T.PrefixTree.tree c.args.self.now.releases.items in
    let all = all_counted p c.args.self.now.nodes.alive.items (nodes_in (places_view c.args.self.now.nodes.places.items)) (whole_inboxes (places_view c.args.self.now.nodes.places.items) c.args.self.now.nodes.inboxes.items) rs out c.args.self.now.counts c.invariant.ensures c.requires.net.net.parts c.requires.net.counted
    ∙ ap (λ (es : List Event). length es) (claimable_home p st out c.requires.home) in
    c.claimable.ensures
    ∙ (λ i. slice_get (claimable_events p st out) (c.args.number / 2 ^ 33 % ((c.total-count.ensures ∙ all) i)))
    ∙ ap (λ (es : List Event). slice_get es (c.args.number / 2 ^ 33 % length (enabled_events p st))) (claimable_home p st out c.requires.home)
    ∙ picks_of_all p st c.args.number
