use Rattle.std.proofs.Common.{◌≡◌, ◌∙◌, slice_set, ap, sym}
use Rattle.std.proofs.lemmas.List.{map-set}
use Rattle.overlay_event.specs.Events.{event_node}
use Rattle.overlay_net.specs.Places.{away, place_view, places_view}
use Rattle.overlay_net.proofs.place.leave.Goals as goal

pub returns-clause-places : goal.returns-clause-places
returns-clause-places g c =
    let same : c.in-Home.node ≡ c.in-Home-replace.node = ap (λ q. (place_view q).node) (sym c.replace.ensures.value ∙ c.in-Home-replace.is) in
    map-set place_view c.args.places.now c.node.result c.replace.new.dest
    ∙ (λ i. slice_set (places_view c.args.places.now) (c.node.ensures i) (place_view (c.replace.ensures.after i)))
    ∙ (λ i. slice_set (places_view c.args.places.now) (event_node c.args.event) (away c.args.event ((c.of.ensures ∙ same) i) (c.of-2.ensures i)))
