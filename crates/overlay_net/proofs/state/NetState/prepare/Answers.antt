use Rattle.std.proofs.Common.{◌≡◌, ◌∙◌, ◌-◌, [], false, refl, sym, ap, subst, length, arith}
use Rattle.std.specs.Vec.{vec_capacity, vec_len, with_items}
use Rattle.std.proofs.lemmas.List.{with_items_is, length-map}
use Rattle.overlay_event.specs.Events.{event_node}
use Rattle.overlay_core.specs.TreeReleases.{release_view, releases_view}
use Rattle.overlay_node.specs.Outputs.{Output}
use Rattle.node_inbox.specs.Sends.{GoBelow, HaveRoom, inbox_at}
use Rattle.overlay_net.specs.Places.{places_view, whole_inboxes}
use Rattle.overlay_net.specs.States.{IsNetOf, IsSameNet, net_view}
use Rattle.overlay_net.proofs.ClaimStates.{view}
use Rattle.overlay_net.proofs.CommitStates.{sends_below}
use Rattle.overlay_net.proofs.Refitted.{as_many}
use Rattle.overlay_net.proofs.Seen.{room_net, room_seen, same_view}
use Rattle.overlay_net.proofs.WholeEvents.{ok_then}
use Rattle.overlay_net.proofs.state.NetState.prepare.Goals as goal

pub make_rooms-requires : goal.make_rooms-requires
make_rooms-requires g c =
    let st = c.args.self.now in
    let h = c.requires.net in
    let k = c.args.claim.now in
    let left = c.requires.worked.left in
    let sends_are : c.as_slice.result.now ≡ left.sends = c.as_slice.ensures.value ∙ ap (λ (o : Output). o.sends) c.effects.view_is ∙ (c.effects-effects.ensures left c.requires.worked.is).0 in
    subst (λ s. GoBelow (length c.as_mut_slice.result.now) s) (sym sends_are)
    (subst (λ n. GoBelow n left.sends) (sym (ap length c.as_mut_slice.ensures.value ∙ h.inbox_count))
    (sends_below c.args.plan.now c.invariant.ensures st.nodes.alive.items (places_view st.nodes.places.items) st.nodes.inboxes.items (releases_view g.T.PrefixTree.tree st.releases.items) st.nodes.losing st.counts h k c.requires.fits.out c.requires.fits.moved c.requires.fits.worked left c.requires.worked.leaves))

pub returns-in_err-make_rooms-clause-net : goal.returns-in_err-make_rooms-clause-net
returns-in_err-make_rooms-clause-net g c =
    let st = c.args.self.now in
    let rs = releases_view g.T.PrefixTree.tree st.releases.items in
    let was = c.as_mut_slice.ensures.value in
    let boxes_are = with_items_is st.nodes.inboxes c.make_rooms.new.inboxes (c.in_err-make_rooms.ensures.count ∙ c.as_mut_slice.ensures.len) in
    subst (λ b. IsNetOf [] c.args.plan.now st.nodes.alive.items (places_view st.nodes.places.items) b rs st.nodes.losing st.counts) (sym boxes_are)
    (room_net [] c.args.plan.now st.nodes.alive.items (places_view st.nodes.places.items) st.nodes.inboxes.items c.make_rooms.new.inboxes rs st.nodes.losing st.counts c.requires.net
    (c.in_err-make_rooms.ensures.count ∙ ap length was) (λ b. c.in_err-make_rooms.ensures.same b ∙ ap (λ l. inbox_at l b) was))

pub returns-in_err-make_rooms-clause-same : goal.returns-in_err-make_rooms-clause-same
returns-in_err-make_rooms-clause-same g c =
    let st = c.args.self.now in
    let tree = g.T.PrefixTree.tree in
    let p = c.args.plan.now in
    let rs = releases_view tree st.releases.items in
    let was = c.as_mut_slice.ensures.value in
    let v = net_view tree p st false in
    let boxes_are = with_items_is st.nodes.inboxes c.make_rooms.new.inboxes (c.in_err-make_rooms.ensures.count ∙ c.as_mut_slice.ensures.len) in
    subst (λ b. IsSameNet v (view p st.nodes.alive.items rs (places_view st.nodes.places.items) b v.room)) (sym boxes_are)
    (same_view [] p st.nodes.alive.items (places_view st.nodes.places.items) st.nodes.inboxes.items c.make_rooms.new.inboxes rs rs st.nodes.losing st.counts c.requires.net
    (c.in_err-make_rooms.ensures.count ∙ ap length was) (λ b. c.in_err-make_rooms.ensures.same b ∙ ap (λ l. inbox_at l b) was) refl v.room v.room)

pub returns-clause-net : goal.returns-clause-net
returns-clause-net g c =
    let st = c.args.self.now in
    let tree = g.T.PrefixTree.tree in
    let rs = releases_view tree st.releases.items in
    let was = c.as_mut_slice.ensures.value in
    let boxes_are = with_items_is st.nodes.inboxes c.make_rooms.new.inboxes (c.in_ok-make_rooms.ensures.count ∙ c.as_mut_slice.ensures.len) in
    subst (λ r. IsNetOf [] c.args.plan.now st.nodes.alive.items (places_view st.nodes.places.items) (with_items st.nodes.inboxes c.make_rooms.new.inboxes).items r st.nodes.losing st.counts) (sym (ap (releases_view tree) c.reserve.ensures.items))
    (subst (λ b. IsNetOf [] c.args.plan.now st.nodes.alive.items (places_view st.nodes.places.items) b rs st.nodes.losing st.counts) (sym boxes_are)
    (room_net [] c.args.plan.now st.nodes.alive.items (places_view st.nodes.places.items) st.nodes.inboxes.items c.make_rooms.new.inboxes rs st.nodes.losing st.counts c.requires.net
    (c.in_ok-make_rooms.ensures.count ∙ ap length was) (λ b. c.in_ok-make_rooms.ensures.same b ∙ ap (λ l. inbox_at l b) was)))

pub returns-clause-same : goal.returns-clause-same
returns-clause-same g c =
    let st = c.args.self.now in
    let tree = g.T.PrefixTree.tree in
    let p = c.args.plan.now in
    let rs = releases_view tree st.releases.items in
    let was = c.as_mut_slice.ensures.value in
    let v = net_view tree p st false in
    let boxes_are = with_items_is st.nodes.inboxes c.make_rooms.new.inboxes (c.in_ok-make_rooms.ensures.count ∙ c.as_mut_slice.ensures.len) in
    subst (λ b. IsSameNet v (view p st.nodes.alive.items (releases_view tree c.reserve.new.self.items) (places_view st.nodes.places.items) b (vec_capacity c.reserve.new.self - vec_len c.reserve.new.self))) (sym boxes_are)
    (same_view [] p st.nodes.alive.items (places_view st.nodes.places.items) st.nodes.inboxes.items c.make_rooms.new.inboxes rs (releases_view tree c.reserve.new.self.items) st.nodes.losing st.counts c.requires.net
    (c.in_ok-make_rooms.ensures.count ∙ ap length was) (λ b. c.in_ok-make_rooms.ensures.same b ∙ ap (λ l. inbox_at l b) was) (ap (releases_view tree) c.reserve.ensures.items) v.room (vec_capacity c.reserve.new.self - vec_len c.reserve.new.self))

pub returns-clause-prepared : goal.returns-clause-prepared
returns-clause-prepared g c =
    let st = c.args.self.now in
    let h = c.requires.net in
    let tree = g.T.PrefixTree.tree in
    let p = c.args.plan.now in
    let rs = releases_view tree st.releases.items in
    let left = c.requires.worked.left in
    let k = c.args.claim.now in
    let ps = places_view st.nodes.places.items in
    let boxes_are = with_items_is st.nodes.inboxes c.make_rooms.new.inboxes (c.in_ok-make_rooms.ensures.count ∙ c.as_mut_slice.ensures.len) in
    let sends_are : c.as_slice.result.now ≡ left.sends = c.as_slice.ensures.value ∙ ap (λ (o : Output). o.sends) c.effects.view_is ∙ (c.effects-effects.ensures left c.requires.worked.is).0 in
    let releases_are : releases_view tree c.effects.inside.releases.items ≡ left.releases = ap (λ (o : Output). o.releases) c.effects.view_is ∙ (c.effects-effects.ensures left c.requires.worked.is).1 in
    let count : length c.as_slice-2.result.now ≡ length left.releases = ap length c.as_slice-2.ensures.value ∙ sym (length-map c.effects.inside.releases.items (release_view tree)) ∙ ap length releases_are in
    let from : c.node.result ≡ event_node k.event = c.node.ensures ∙ ap event_node c.event.ensures in
    let room : HaveRoom (event_node k.event) left.sends c.make_rooms.new.inboxes = subst (λ s. HaveRoom (event_node k.event) s c.make_rooms.new.inboxes) sends_are (subst (λ n. HaveRoom n c.as_slice.result.now c.make_rooms.new.inboxes) from c.in_ok-make_rooms.ensures.room) in
    let many : length ps ≡ length c.make_rooms.new.inboxes = as_many p st.nodes.alive.items ps st.nodes.inboxes.items rs h.net h.frames h.inbox_count h.inboxes ∙ sym (c.in_ok-make_rooms.ensures.count ∙ ap length c.as_mut_slice.ensures.value) in
    ok_then c.reserve.result c.reserve.ensures.ok
    (λ spare. record {
      left = left;
      is = c.requires.worked.is;
      sends = subst (λ b. HaveRoom (event_node k.event) left.sends (whole_inboxes ps b)) (sym boxes_are) (room_seen ps c.make_rooms.new.inboxes (event_node k.event) left.sends many room);
      releases = omega (arith, spare, count);
    })
