use Rattle.std.proofs.Common.{◌∙◌, slice_set, ap}
use Rattle.std.proofs.lemmas.List.{map-set}
use Rattle.overlay_net.specs.Places.{at_home, place_view, places_view}
use Rattle.overlay_net.specs.declared.place.Place.TheVariants.{Home}
use Rattle.overlay_net.proofs.place.come_home.Goals as goal

pub returns-clause-places : goal.returns-clause-places
returns-clause-places g c =
    map-set place_view c.args.places.now c.node.result (Home c.args.node)
    ∙ ap (λ n. slice_set (places_view c.args.places.now) n (at_home c.args.node)) c.node.ensures
