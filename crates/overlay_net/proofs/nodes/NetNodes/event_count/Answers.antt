use mir.Val.{bool_byte}
use Rattle.std.proofs.Common.{◌≡◌, ◌∙◌, ◌+◌, ◌≤◌, ◌<◌, Bool, true, false, List, [], ◌∷◌, not, cond, length, refl, sym, ap, subst, arith}
use Rattle.overlay_event.specs.declared.event.Event.{Event}
use Rattle.overlay_event.specs.declared.event.Event.TheVariants.{Lose}
use Rattle.overlay_net.specs.Places.{events_out, nodes_in, place_view, places_view, whole_inboxes}
use Rattle.overlay_net.proofs.EventCounts.{senders_within_limit}
use Rattle.overlay_net.proofs.ReadPlaces.{box_below, box_read, claims_active, claims_doomed, count_active, home_box, home_fits, read_away, read_home}
use Rattle.overlay_net.proofs.nodes.NetNodes.event_count.Goals as goal

pub returns-in_default : goal.returns-in_default
returns-in_default g c =
    ap (λ (es : List Event). length es) (sym (read_away c.args.plan.now c.args.self.now c.requires.parts c.args.n c.requires.below c.index.result.now c.index.ensures c.in_default.field-0 (ap (λ z. (place_view z).out) c.in_default.is)))

one : (e : Event) (b : Bool) → bool_byte b ≡ length (cond {A = List Event} b (e ∷ []) [])
one e true = refl
one e false = refl

byte_is : (b : Bool) → bool_byte b ≡ cond b 1 0
byte_is true = refl
byte_is false = refl

pub returns-then-is_doomed : goal.returns-then-is_doomed
returns-then-is_doomed g c =
    let at = read_home c.args.plan.now c.args.self.now c.requires.parts c.args.n c.requires.below c.index.result.now c.index.ensures c.in-Home.node c.in-Home.is in
    let all = claims_doomed c.args.plan.now c.args.self.now c.requires.parts c.args.n c.in-Home.node at c.requires.below (sym c.if-not-is_up.false ∙ c.is_up.ensures) (sym c.is_doomed.ensures ∙ c.if-is_doomed.true) in
    c.from.ensures ∙ one (Lose c.args.n) (not c.is_received_from.result) ∙ ap (λ (es : List Event). length es) (sym (all ∙ ap (λ b. cond {A = List Event} (not b) (Lose c.args.n ∷ []) []) (sym c.is_received_from.ensures)))

pub index-requires-2 : goal.index-requires-2
index-requires-2 g c = let below : c.args.n < length c.args.self.now.inboxes.items = box_below c.args.plan.now c.args.self.now c.requires.parts c.args.n c.requires.below in omega (arith, c.args.self.now.inboxes.ok, below)

pub free_sender_count-senders-requires-clause-senders : goal.free_sender_count-senders-requires-clause-senders
free_sender_count-senders-requires-clause-senders g c κs within =
    let at = read_home c.args.plan.now c.args.self.now c.requires.parts c.args.n c.requires.below c.index.result.now c.index.ensures c.in-Home.node c.in-Home.is in
    let box = box_read c.args.plan.now c.args.self.now c.requires.parts c.args.n c.requires.below c.index-2.result.now c.index-2.ensures
    ∙ sym (home_box c.args.plan.now c.args.self.now c.requires.parts c.args.n c.in-Home.node at c.requires.below) in
    subst (λ w. length w ≤ 512) (sym box)
    (senders_within_limit c.args.plan.now c.args.self.now.alive.items (nodes_in (places_view c.args.self.now.places.items)) (whole_inboxes (places_view c.args.self.now.places.items) c.args.self.now.inboxes.items) c.args.n c.invariant.ensures c.requires.parts)

pub sample_count-requires-after_bounds : goal.sample_count-requires-after_bounds
sample_count-requires-after_bounds g c κs within =
    (home_fits c.args.plan.now c.args.self.now c.requires.parts c.args.n c.in-Home.node
    (read_home c.args.plan.now c.args.self.now c.requires.parts c.args.n c.requires.below c.index.result.now c.index.ensures c.in-Home.node c.in-Home.is) c.requires.below).1

pub returns : goal.returns
returns g c =
    let at = read_home c.args.plan.now c.args.self.now c.requires.parts c.args.n c.requires.below c.index.result.now c.index.ensures c.in-Home.node c.in-Home.is in
    let fits = (home_fits c.args.plan.now c.args.self.now c.requires.parts c.args.n c.in-Home.node at c.requires.below).1 in
    let box = box_read c.args.plan.now c.args.self.now c.requires.parts c.args.n c.requires.below c.index-2.result.now c.index-2.ensures in
    let all = claims_active c.args.plan.now c.args.self.now c.requires.parts c.args.n c.in-Home.node at c.requires.below c.index-2.result.now.waiting
    (sym c.if-not-is_up.false ∙ c.is_up.ensures) box (sym c.is_doomed.ensures ∙ c.if-is_doomed.false) in
    (λ i. c.sample_count.ensures.counted i + c.free_sender_count-senders.ensures.counted i + (c.from-2.ensures ∙ byte_is c.has_running.result ∙ ap (λ b. cond b 1 0) (c.has_running.ensures c.args.plan.now fits)) i)
    ∙ sym (ap (λ (es : List Event). length es) all ∙ count_active c.args.plan.now (events_out c.args.self.now.places.items) c.in-Home.node c.index-2.result.now.waiting)
