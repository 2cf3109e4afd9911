use Rattle.std.proofs.Common.{◌∙◌, ◌<◌, length, sym, ap, subst}
use Rattle.event_claims.specs.Claims.{receives_from}
use Rattle.overlay_net.specs.Places.{events_out}
use Rattle.overlay_net.proofs.ReadPlaces.{none_more, out_read, some_place}
use Rattle.overlay_net.proofs.nodes.NetNodes.is_received_from.Goals as goal

pub returns-then-is_receipt : goal.returns-then-is_receipt
returns-then-is_receipt g c =
    let k = c.loop-place.place-index in
    sym (some_place (λ j. receives_from (events_out c.args.self.now.places.items j) c.args.sender) (length c.args.self.now.places.items) k
    (subst (λ places. k < length places) c.deref-place-items.ensures.value c.loop-place-test.true)
    (ap (λ places. receives_from (events_out places k) c.args.sender) (sym c.deref-place-items.ensures.value)
    ∙ ap (λ o. receives_from o c.args.sender) (out_read c.deref-place-items.result.now k c.place-item.result c.loop-place-test.true c.place-item.is ∙ sym c.event.ensures) ∙ sym c.is_receipt.ensures ∙ c.if-is_receipt.true))

pub loop-place-preserved : goal.loop-place-preserved
loop-place-preserved g c =
    let k = c.loop-place.place-index in
    record {
      none = none_more (λ j. receives_from (events_out c.args.self.now.places.items j) c.args.sender) k c.loop-place.invariant.none
          (ap (λ places. receives_from (events_out places k) c.args.sender) (sym c.deref-place-items.ensures.value)
          ∙ ap (λ o. receives_from o c.args.sender) (out_read c.deref-place-items.result.now k c.place-item.result c.loop-place-test.true c.place-item.is ∙ sym c.event.ensures) ∙ sym c.is_receipt.ensures ∙ c.if-is_receipt.false);
    }
