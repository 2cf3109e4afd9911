use Rattle.std.proofs.Common.{◌≡◌, ◌∙◌, ◌+◌, ◌<◌, List, [], ◌∷◌, not, cond, length, sym, ap, subst, arith}
use Rattle.overlay_event.specs.declared.event.Event.{Event}
use Rattle.overlay_event.specs.declared.event.Event.TheVariants.{Lose}
use Rattle.overlay_net.specs.Events.{IsNth}
use Rattle.overlay_net.specs.Places.{place_view}
use Rattle.overlay_net.proofs.ReadPlaces.{box_below, box_read, claims_active, claims_doomed, home_fits, read_away, read_home}
use Rattle.overlay_net.proofs.nodes.NetNodes.node_event.Goals as goal

pub returns-in_default : goal.returns-in_default
returns-in_default g c =
    let none = read_away c.args.plan.now c.args.self.now c.requires.parts c.args.n c.requires.below c.index.result.now c.index.ensures c.in_default.field-0 (ap (λ z. (place_view z).out) c.in_default.is) in
    subst (λ (es : List Event). c.args.i ≡ length es + c.args.i) (sym none) (omega arith)

pub index-requires-then-not-is_doomed : goal.index-requires-then-not-is_doomed
index-requires-then-not-is_doomed g c = let below : c.args.n < length c.args.self.now.inboxes.items = box_below c.args.plan.now c.args.self.now c.requires.parts c.args.n c.requires.below in omega (arith, c.args.self.now.inboxes.ok, below)

pub active_event-requires-clause-node : goal.active_event-requires-clause-node
active_event-requires-clause-node g c κs within =
    (home_fits c.args.plan.now c.args.self.now c.requires.parts c.args.n c.in-Home.node
    (read_home c.args.plan.now c.args.self.now c.requires.parts c.args.n c.requires.below c.index.result.now c.index.ensures c.in-Home.node c.in-Home.is) c.requires.below).1

pub returns-then-not-is_doomed : goal.returns-then-not-is_doomed
returns-then-not-is_doomed g c =
    let at = read_home c.args.plan.now c.args.self.now c.requires.parts c.args.n c.requires.below c.index.result.now c.index.ensures c.in-Home.node c.in-Home.is in
    let box = box_read c.args.plan.now c.args.self.now c.requires.parts c.args.n c.requires.below c.index-then-not-is_doomed.result.now c.index-then-not-is_doomed.ensures in
    subst (λ (es : List Event). IsNth es c.args.i c.active_event.result)
    (sym (claims_active c.args.plan.now c.args.self.now c.requires.parts c.args.n c.in-Home.node at c.requires.below c.index-then-not-is_doomed.result.now.waiting
    (sym c.if-not-is_up.false ∙ c.is_up.ensures) box (sym c.is_doomed.ensures ∙ c.if-not-is_doomed.true)))
    c.active_event.ensures

pub returns-then-is_received_from : goal.returns-then-is_received_from
returns-then-is_received_from g c =
    let at = read_home c.args.plan.now c.args.self.now c.requires.parts c.args.n c.requires.below c.index.result.now c.index.ensures c.in-Home.node c.in-Home.is in
    let all = claims_doomed c.args.plan.now c.args.self.now c.requires.parts c.args.n c.in-Home.node at c.requires.below (sym c.if-not-is_up.false ∙ c.is_up.ensures) (sym c.is_doomed.ensures ∙ c.if-not-is_doomed.false) in
    subst (λ (es : List Event). c.args.i ≡ length es + c.args.i) (sym (all ∙ ap (λ b. cond {A = List Event} (not b) (Lose c.args.n ∷ []) []) (sym c.is_received_from.ensures ∙ c.if-is_received_from.true))) (omega arith)

pub returns : goal.returns
returns g c =
    let at = read_home c.args.plan.now c.args.self.now c.requires.parts c.args.n c.requires.below c.index.result.now c.index.ensures c.in-Home.node c.in-Home.is in
    let all = claims_doomed c.args.plan.now c.args.self.now c.requires.parts c.args.n c.in-Home.node at c.requires.below (sym c.if-not-is_up.false ∙ c.is_up.ensures) (sym c.is_doomed.ensures ∙ c.if-not-is_doomed.false) in
    subst (λ (es : List Event). IsNth es c.args.i c.loss_event.result) (sym (all ∙ ap (λ b. cond {A = List Event} (not b) (Lose c.args.n ∷ []) []) (sym c.is_received_from.ensures ∙ c.if-is_received_from.false))) c.loss_event.ensures
