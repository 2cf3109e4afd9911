use Rattle.std.proofs.Common.{◌≡◌, ◌∙◌, [], false, Some, None, refl, sym, ap, subst, slice_get, slice_set}
use Rattle.overlay_event.specs.Events.{event_node}
use Rattle.overlay_core.specs.TreeReleases.{releases_view}
use Rattle.overlay_node.specs.NodeViews.{NodeView}
use Rattle.std.specs.Vec.{with_items}
use Rattle.std.proofs.lemmas.List.{with_items_is}
use Rattle.overlay_net.specs.Events.{with_loss}
use Rattle.overlay_net.specs.Places.{at_home, away, places_view}
use Rattle.overlay_net.specs.Sends.{CanTake, IsTaken, changed}
use Rattle.overlay_net.specs.States.{IsClaimed, net_view}
use Rattle.overlay_net.proofs.Claiming.{can_be_taken, home_place}
use Rattle.overlay_net.proofs.ClaimStates.{changed_below, claim_is, claim_net, same_net, view}
use Rattle.overlay_net.proofs.state.NetState.claim.Goals as goal

pub take_frame-frame-requires : goal.take_frame-frame-requires
take_frame-frame-requires g c =
    let st = c.args.self.now in
    let h = c.requires.net in
    subst (λ boxes. CanTake boxes c.args.event) (sym c.as_mut_slice.ensures.value)
    (can_be_taken c.args.plan.now c.invariant.ensures st.nodes.alive.items (places_view st.nodes.places.items) st.nodes.inboxes.items (releases_view g.T.PrefixTree.tree st.releases.items) h.net h.frames h.inbox_count h.inboxes h.out c.args.event c.requires.may)

pub leave-node-requires-after_bounds : goal.leave-node-requires-after_bounds
leave-node-requires-after_bounds g c κs within =
    let st = c.args.self.now in
    let h = c.requires.net in
    subst (λ places. (x : NodeView) × (slice_get (places_view places) (event_node c.args.event) ≡ Some (at_home x))) (sym c.as_mut_slice-2.ensures.value)
    (home_place c.args.plan.now c.invariant.ensures st.nodes.alive.items (places_view st.nodes.places.items) st.nodes.inboxes.items (releases_view g.T.PrefixTree.tree st.releases.items) h.net h.frames h.inbox_count h.inboxes h.out c.args.event c.requires.may)

pub recount-requires-clause-net : goal.recount-requires-clause-net
recount-requires-clause-net g c κs within =
    let st = c.args.self.now in
    let h = c.requires.net in
    let p = c.args.plan.now in
    let e = c.args.event in
    let rs = releases_view g.T.PrefixTree.tree st.releases.items in
    let ps = places_view st.nodes.places.items in
    let took : IsTaken st.nodes.inboxes.items e c.take_frame-frame.result c.take_frame-frame.new.inboxes = subst (λ boxes. IsTaken boxes e c.take_frame-frame.result c.take_frame-frame.new.inboxes) c.as_mut_slice.ensures.value c.take_frame-frame.ensures.taken in
    let at : slice_get ps (event_node e) ≡ Some (at_home c.leave-node.result) = subst (λ places. slice_get (places_view places) (event_node e) ≡ Some (at_home c.leave-node.result)) c.as_mut_slice-2.ensures.value c.leave-node.ensures.node in
    let gone = slice_set ps (event_node e) (away e c.leave-node.result c.take_frame-frame.result) in
    same_net (changed p e []) p st.nodes.alive.items st.nodes.alive.items gone (places_view (with_items st.nodes.places c.leave-node.new.places).items) c.take_frame-frame.new.inboxes (with_items st.nodes.inboxes c.take_frame-frame.new.inboxes).items rs rs (with_loss e 1 st.nodes.losing) c.note_loss.new.losing st.counts st.counts
    refl
    (ap places_view (with_items_is st.nodes.places c.leave-node.new.places (c.leave-node.ensures.count ∙ c.as_mut_slice-2.ensures.len))
    ∙ c.leave-node.ensures.places ∙ ap (λ places. slice_set (places_view places) (event_node e) (away e c.leave-node.result c.take_frame-frame.result)) c.as_mut_slice-2.ensures.value)
    (with_items_is st.nodes.inboxes c.take_frame-frame.new.inboxes (c.take_frame-frame.ensures.count ∙ c.as_mut_slice.ensures.len))
    refl
    c.note_loss.ensures
    refl
    (claim_net p c.invariant.ensures st.nodes.alive.items ps st.nodes.inboxes.items rs st.nodes.losing st.counts h e c.requires.may c.take_frame-frame.result c.take_frame-frame.new.inboxes took c.leave-node.result at)

pub recount-requires-clause-below : goal.recount-requires-clause-below
recount-requires-clause-below g c κs within =
    let st = c.args.self.now in
    let h = c.requires.net in
    changed_below c.args.plan.now c.invariant.ensures st.nodes.alive.items (places_view st.nodes.places.items) st.nodes.inboxes.items (releases_view g.T.PrefixTree.tree st.releases.items) st.nodes.losing st.counts h c.args.event c.requires.may

pub returns-clause-claimed : goal.returns-clause-claimed
returns-clause-claimed g c =
    let st = c.args.self.now in
    let h = c.requires.net in
    let p = c.args.plan.now in
    let e = c.args.event in
    let rs = releases_view g.T.PrefixTree.tree st.releases.items in
    let ps = places_view st.nodes.places.items in
    let f = c.take_frame-frame.result in
    let x = c.leave-node.result in
    let boxes = c.take_frame-frame.new.inboxes in
    let took : IsTaken st.nodes.inboxes.items e f boxes = subst (λ b. IsTaken b e f boxes) c.as_mut_slice.ensures.value c.take_frame-frame.ensures.taken in
    let at : slice_get ps (event_node e) ≡ Some (at_home x) = subst (λ places. slice_get (places_view places) (event_node e) ≡ Some (at_home x)) c.as_mut_slice-2.ensures.value c.leave-node.ensures.node in
    let v = net_view g.T.PrefixTree.tree p st false in
    let places_are : places_view (with_items st.nodes.places c.leave-node.new.places).items ≡ slice_set ps (event_node e) (away e x f) =
    ap places_view (with_items_is st.nodes.places c.leave-node.new.places (c.leave-node.ensures.count ∙ c.as_mut_slice-2.ensures.len))
    ∙ c.leave-node.ensures.places ∙ ap (λ places. slice_set (places_view places) (event_node e) (away e x f)) c.as_mut_slice-2.ensures.value in
    let boxes_are : (with_items st.nodes.inboxes boxes).items ≡ boxes = with_items_is st.nodes.inboxes boxes (c.take_frame-frame.ensures.count ∙ c.as_mut_slice.ensures.len) in
    subst (λ w. IsClaimed e c.new.result v w) (sym c.recount.ensures.same)
    (subst (λ k. IsClaimed e k v (view p st.nodes.alive.items rs (places_view (with_items st.nodes.places c.leave-node.new.places).items) (with_items st.nodes.inboxes boxes).items v.room)) (sym c.new.ensures)
    (subst (λ qs. IsClaimed e (record { event = e; node = x; frame = f; left = None }) v (view p st.nodes.alive.items rs qs (with_items st.nodes.inboxes boxes).items v.room)) (sym places_are)
    (subst (λ bs. IsClaimed e (record { event = e; node = x; frame = f; left = None }) v (view p st.nodes.alive.items rs (slice_set ps (event_node e) (away e x f)) bs v.room)) (sym boxes_are)
    (claim_is p c.invariant.ensures st.nodes.alive.items ps st.nodes.inboxes.items rs st.nodes.losing st.counts h e c.requires.may f boxes took x at v.room v.room))))
