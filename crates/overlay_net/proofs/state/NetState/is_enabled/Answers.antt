use Rattle.std.proofs.Common.{◌≡◌, ◌∙◌, ◌<◌, true, Some, length, slice_get, sym, ap, subst, arith}
use Rattle.std.proofs.lemmas.Option.{none-some}
use Rattle.stat_plan.specs.Plans.{nodes}
use Rattle.overlay_core.specs.TreeReleases.{releases_view}
use Rattle.node_inbox.specs.Sends.{inbox_at, is_alive}
use Rattle.overlay_net.specs.Events.{may_come}
use Rattle.overlay_net.specs.Places.{nodes_in, place_view, places_view, whole_inboxes}
use Rattle.overlay_net.proofs.Offers.{enabled_is, living_below, none_of_dead}
use Rattle.overlay_net.proofs.ReadPlaces.{box_below, box_read, home_box, home_fits, home_node, out_read, place_below, read_home}
use Rattle.overlay_net.proofs.state.NetState.is_enabled.Goals as goal

pub returns-then-not-is_up : goal.returns-then-not-is_up
returns-then-not-is_up g c =
    let releases = releases_view g.T.PrefixTree.tree c.args.self.now.releases.items in
    sym (none_of_dead c.args.plan.now c.args.self.now.nodes.alive.items (nodes_in (places_view c.args.self.now.nodes.places.items)) (whole_inboxes (places_view c.args.self.now.nodes.places.items) c.args.self.now.nodes.inboxes.items) releases c.args.event
    (ap (is_alive c.args.self.now.nodes.alive.items) (sym c.node-n.ensures) ∙ sym c.is_up.ensures ∙ c.if-not-is_up.true))

pub unreachable-requires : goal.unreachable-requires
unreachable-requires g c =
    let xs = nodes_in (places_view c.args.self.now.nodes.places.items) in
    let ib = whole_inboxes (places_view c.args.self.now.nodes.places.items) c.args.self.now.nodes.inboxes.items in
    let n = c.node-n.result in
    let lt : n < nodes c.args.plan.now = living_below c.args.plan.now c.args.self.now.nodes.alive.items xs ib n c.requires.net.net.parts (sym c.is_up.ensures ∙ c.if-not-is_up.false) in
    let below = place_below c.args.plan.now c.args.self.now.nodes c.requires.net.net.parts n lt in
    none-some c.in_default.field-0 (sym (c.requires.home n) ∙ out_read c.args.self.now.nodes.places.items n c.index.result.now below c.index.ensures ∙ ap (λ z. (place_view z).out) c.in_default.is)

pub index-requires-2 : goal.index-requires-2
index-requires-2 g c =
    let xs = nodes_in (places_view c.args.self.now.nodes.places.items) in
    let ib = whole_inboxes (places_view c.args.self.now.nodes.places.items) c.args.self.now.nodes.inboxes.items in
    let n = c.node-n.result in
    let lt : n < nodes c.args.plan.now = living_below c.args.plan.now c.args.self.now.nodes.alive.items xs ib n c.requires.net.net.parts (sym c.is_up.ensures ∙ c.if-not-is_up.false) in
    let below : n < length c.args.self.now.nodes.inboxes.items = box_below c.args.plan.now c.args.self.now.nodes c.requires.net.net.parts n lt in
    omega (arith, c.args.self.now.nodes.inboxes.ok, below)

pub may_be_next-requires-after_bounds : goal.may_be_next-requires-after_bounds
may_be_next-requires-after_bounds g c κs within =
    let xs = nodes_in (places_view c.args.self.now.nodes.places.items) in
    let ib = whole_inboxes (places_view c.args.self.now.nodes.places.items) c.args.self.now.nodes.inboxes.items in
    let n = c.node-n.result in
    let lt : n < nodes c.args.plan.now = living_below c.args.plan.now c.args.self.now.nodes.alive.items xs ib n c.requires.net.net.parts (sym c.is_up.ensures ∙ c.if-not-is_up.false) in
    let at = read_home c.args.plan.now c.args.self.now.nodes c.requires.net.net.parts n lt c.index.result.now c.index.ensures c.in-Home.node c.in-Home.is in
    (home_fits c.args.plan.now c.args.self.now.nodes c.requires.net.net.parts n c.in-Home.node at lt).1

pub returns : goal.returns
returns g c =
    let releases = releases_view g.T.PrefixTree.tree c.args.self.now.releases.items in
    let p = c.args.plan.now in
    let al = c.args.self.now.nodes.alive.items in
    let xs = nodes_in (places_view c.args.self.now.nodes.places.items) in
    let ib = whole_inboxes (places_view c.args.self.now.nodes.places.items) c.args.self.now.nodes.inboxes.items in
    let n = c.node-n.result in
    let x = c.in-Home.node in
    let up : is_alive al n ≡ true = sym c.is_up.ensures ∙ c.if-not-is_up.false in
    let lt : n < nodes p = living_below p al xs ib n c.requires.net.net.parts up in
    let place = read_home p c.args.self.now.nodes c.requires.net.net.parts n lt c.index.result.now c.index.ensures x c.in-Home.is in
    let at : slice_get xs n ≡ Some x = home_node p c.args.self.now.nodes c.requires.net.net.parts n x place lt in
    let box = box_read p c.args.self.now.nodes c.requires.net.net.parts n lt c.index-2.result.now c.index-2.ensures ∙ sym (home_box p c.args.self.now.nodes c.requires.net.net.parts n x place lt) in
    c.may_be_next.ensures
    ∙ (λ i. may_come p x (box i) c.args.event)
    ∙ ap (λ k. may_come p x (inbox_at ib k) c.args.event) c.node-n.ensures
    ∙ sym (enabled_is p al xs ib releases c.args.event x c.requires.net.net.parts
    (subst (λ k. is_alive al k ≡ true) c.node-n.ensures up)
    (subst (λ k. slice_get xs k ≡ Some x) c.node-n.ensures at))
