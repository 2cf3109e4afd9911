use Rattle.std.proofs.Common.{◌≡◌, ◌∙◌, ◌++◌, ◌-◌, false, Some, sym, ap, subst, length, map, slice_set}
use Rattle.std.specs.Vec.{vec_capacity, vec_len, with_items}
use Rattle.std.proofs.lemmas.List.{with_items_is, map-append}
use Rattle.overlay_event.specs.Events.{event_node}
use Rattle.overlay_core.specs.TreeReleases.{release_view, releases_view}
use Rattle.overlay_node.specs.Outputs.{Output}
use Rattle.node_inbox.specs.Sends.{AreSent, GoBelow, HaveRoom}
use Rattle.overlay_net.specs.Claims.{Left}
use Rattle.overlay_net.specs.Events.{without_lost}
use Rattle.overlay_net.specs.Losses.{AreCutBy}
use Rattle.overlay_net.specs.Places.{at_home, places_view}
use Rattle.overlay_net.specs.Sends.{changed}
use Rattle.overlay_net.specs.States.{IsCommitted, IsNetOf, net_view}
use Rattle.overlay_net.proofs.ClaimStates.{view}
use Rattle.overlay_net.proofs.CommitStates.{changed_to, commit_to, committed_to, leaves_are, room_is, room_stays, sends_below}
use Rattle.overlay_net.proofs.Refitted.{as_many}
use Rattle.overlay_net.proofs.state.NetState.commit.Goals as goal

pub deliver-requires-clause-below : goal.deliver-requires-clause-below
deliver-requires-clause-below g c =
    let st = c.args.self.now in
    let h = c.requires.net in
    let k = c.args.claim in
    let tree = g.T.PrefixTree.tree in
    let left : Left = record { node = c.into_parts-event.result.1; sends = c.effects.inside.sends.items; releases = releases_view tree c.effects.inside.releases.items } in
    let is_left : k.left ≡ Some left = c.into_parts-event.ensures.left ∙ ap (λ (o : Output). Some (record { node = c.into_parts-event.result.1; sends = o.sends; releases = o.releases })) (sym c.effects.view_is) in
    let below = sends_below c.args.plan.now c.invariant.ensures st.nodes.alive.items (places_view st.nodes.places.items) st.nodes.inboxes.items (releases_view tree st.releases.items) st.nodes.losing st.counts h k c.requires.fits.out c.requires.fits.moved c.requires.fits.worked left (leaves_are c.args.plan.now k left c.requires.worked is_left) in
    let count : length c.cut_links.new.inboxes ≡ length st.nodes.inboxes.items = c.cut_links.ensures.count ∙ ap length c.as_mut_slice-2.ensures.value in
    let same : c.as_mut_slice-3.result.now ≡ c.cut_links.new.inboxes = c.as_mut_slice-3.ensures.value ∙ with_items_is st.nodes.inboxes c.cut_links.new.inboxes (c.cut_links.ensures.count ∙ c.as_mut_slice-2.ensures.len) in
    subst (λ n. GoBelow n c.effects.inside.sends.items) (sym (ap length same ∙ count ∙ h.inbox_count)) below

pub deliver-requires-clause-room : goal.deliver-requires-clause-room
deliver-requires-clause-room g c =
    let st = c.args.self.now in
    let h = c.requires.net in
    let k = c.args.claim in
    let p = c.args.plan.now in
    let tree = g.T.PrefixTree.tree in
    let left : Left = record { node = c.into_parts-event.result.1; sends = c.effects.inside.sends.items; releases = releases_view tree c.effects.inside.releases.items } in
    let is_left : k.left ≡ Some left = c.into_parts-event.ensures.left ∙ ap (λ (o : Output). Some (record { node = c.into_parts-event.result.1; sends = o.sends; releases = o.releases })) (sym c.effects.view_is) in
    let room = room_is (net_view tree p st false) k left c.requires.prepared is_left in
    let same : c.as_mut_slice-3.result.now ≡ c.cut_links.new.inboxes = c.as_mut_slice-3.ensures.value ∙ with_items_is st.nodes.inboxes c.cut_links.new.inboxes (c.cut_links.ensures.count ∙ c.as_mut_slice-2.ensures.len) in
    let cut : AreCutBy p c.into_parts-event.result.0 st.nodes.inboxes.items c.cut_links.new.inboxes = subst (λ b. AreCutBy p c.into_parts-event.result.0 b c.cut_links.new.inboxes) c.as_mut_slice-2.ensures.value c.cut_links.ensures.cut in
    subst (λ b. HaveRoom c.node-n.result c.effects.inside.sends.items b) (sym same)
    (subst (λ n. HaveRoom n c.effects.inside.sends.items c.cut_links.new.inboxes) (sym (c.node-n.ensures ∙ ap event_node c.into_parts-event.ensures.event))
    (room_stays p c.into_parts-event.result.0 (places_view st.nodes.places.items) st.nodes.inboxes.items c.cut_links.new.inboxes (event_node k.event) left.sends
    (as_many p st.nodes.alive.items (places_view st.nodes.places.items) st.nodes.inboxes.items (releases_view tree st.releases.items) h.net h.frames h.inbox_count h.inboxes) cut room.0))

pub recount-requires-clause-net : goal.recount-requires-clause-net
recount-requires-clause-net g c κs within =
    let st = c.args.self.now in
    let h = c.requires.net in
    let k = c.args.claim in
    let p = c.args.plan.now in
    let tree = g.T.PrefixTree.tree in
    let e = c.into_parts-event.result.0 in
    let left : Left = record { node = c.into_parts-event.result.1; sends = c.effects.inside.sends.items; releases = releases_view tree c.effects.inside.releases.items } in
    let is_left : k.left ≡ Some left = c.into_parts-event.ensures.left ∙ ap (λ (o : Output). Some (record { node = c.into_parts-event.result.1; sends = o.sends; releases = o.releases })) (sym c.effects.view_is) in
    let cut : AreCutBy p e st.nodes.inboxes.items c.cut_links.new.inboxes = subst (λ b. AreCutBy p e b c.cut_links.new.inboxes) c.as_mut_slice-2.ensures.value c.cut_links.ensures.cut in
    let was : c.as_mut_slice-3.result.now ≡ c.cut_links.new.inboxes = c.as_mut_slice-3.ensures.value ∙ with_items_is st.nodes.inboxes c.cut_links.new.inboxes (c.cut_links.ensures.count ∙ c.as_mut_slice-2.ensures.len) in
    let sent : AreSent st.nodes.alive.items (event_node e) left.sends c.cut_links.new.inboxes c.deliver.new.inboxes =
    subst (λ al. AreSent al (event_node e) left.sends c.cut_links.new.inboxes c.deliver.new.inboxes) c.as_slice.ensures.value
    (subst (λ n. AreSent c.as_slice.result.now n left.sends c.cut_links.new.inboxes c.deliver.new.inboxes) c.node-n.ensures
    (subst (λ b. AreSent c.as_slice.result.now c.node-n.result left.sends b c.deliver.new.inboxes) was c.deliver.ensures.sent)) in
    let new_are : (with_items (with_items st.nodes.inboxes c.cut_links.new.inboxes) c.deliver.new.inboxes).items ≡ c.deliver.new.inboxes = with_items_is (with_items st.nodes.inboxes c.cut_links.new.inboxes) c.deliver.new.inboxes (c.deliver.ensures.sent.inbox_count ∙ c.as_mut_slice-3.ensures.len) in
    let live : (with_items st.nodes.alive c.note_death.new.alive).items ≡ without_lost e st.nodes.alive.items = with_items_is st.nodes.alive c.note_death.new.alive (c.note_death.ensures.count ∙ c.as_mut_slice-4.ensures.len) ∙ c.note_death.ensures.alive ∙ ap (without_lost e) c.as_mut_slice-4.ensures.value in
    let home : places_view (with_items st.nodes.places c.come_home.new.places).items ≡ slice_set (places_view st.nodes.places.items) (event_node e) (at_home left.node) =
    ap places_view (with_items_is st.nodes.places c.come_home.new.places (c.come_home.ensures.count ∙ c.as_mut_slice.ensures.len))
    ∙ c.come_home.ensures.places ∙ ap (λ places. slice_set (places_view places) (event_node e) (at_home left.node)) c.as_mut_slice.ensures.value in
    let more : releases_view tree c.append.new.self.items ≡ releases_view tree st.releases.items ++ left.releases = ap (releases_view tree) c.in-Ok.ensures.items ∙ map-append (release_view tree) st.releases.items c.effects.inside.releases.items in
    subst (λ b. IsNetOf (changed p e c.as_slice-2.result.now) p (with_items st.nodes.alive c.note_death.new.alive).items (places_view (with_items st.nodes.places c.come_home.new.places).items) b (releases_view tree c.append.new.self.items) c.note_loss.new.losing st.counts) (sym new_are)
    (commit_to p c.invariant.ensures st.nodes.alive.items (places_view st.nodes.places.items) st.nodes.inboxes.items (releases_view tree st.releases.items) st.nodes.losing st.counts h k c.requires.fits.out c.requires.fits.moved c.requires.fits.worked left (leaves_are p k left c.requires.worked is_left)
    e c.into_parts-event.ensures.event c.cut_links.new.inboxes c.deliver.new.inboxes (with_items st.nodes.alive c.note_death.new.alive).items (places_view (with_items st.nodes.places c.come_home.new.places).items) (releases_view tree c.append.new.self.items) c.note_loss.new.losing c.as_slice-2.result.now
    cut sent live home more c.note_loss.ensures
    (c.as_slice-2.ensures.value ∙ c.into_parts-event.ensures.receivers ∙ ap (λ (o : Output). map (λ v. v.0) o.sends) (sym c.effects.view_is)))

pub recount-requires-clause-below : goal.recount-requires-clause-below
recount-requires-clause-below g c κs within =
    let st = c.args.self.now in
    let k = c.args.claim in
    let tree = g.T.PrefixTree.tree in
    let left : Left = record { node = c.into_parts-event.result.1; sends = c.effects.inside.sends.items; releases = releases_view tree c.effects.inside.releases.items } in
    let is_left : k.left ≡ Some left = c.into_parts-event.ensures.left ∙ ap (λ (o : Output). Some (record { node = c.into_parts-event.result.1; sends = o.sends; releases = o.releases })) (sym c.effects.view_is) in
    changed_to c.args.plan.now c.invariant.ensures st.nodes.alive.items (places_view st.nodes.places.items) st.nodes.inboxes.items (releases_view tree st.releases.items) st.nodes.losing st.counts c.requires.net k c.requires.fits.out c.requires.fits.moved c.requires.fits.worked left (leaves_are c.args.plan.now k left c.requires.worked is_left)
    c.into_parts-event.result.0 c.into_parts-event.ensures.event c.as_slice-2.result.now
    (c.as_slice-2.ensures.value ∙ c.into_parts-event.ensures.receivers ∙ ap (λ (o : Output). map (λ v. v.0) o.sends) (sym c.effects.view_is))

pub returns-clause-committed : goal.returns-clause-committed
returns-clause-committed g c =
    let st = c.args.self.now in
    let h = c.requires.net in
    let k = c.args.claim in
    let p = c.args.plan.now in
    let tree = g.T.PrefixTree.tree in
    let e = c.into_parts-event.result.0 in
    let left : Left = record { node = c.into_parts-event.result.1; sends = c.effects.inside.sends.items; releases = releases_view tree c.effects.inside.releases.items } in
    let is_left : k.left ≡ Some left = c.into_parts-event.ensures.left ∙ ap (λ (o : Output). Some (record { node = c.into_parts-event.result.1; sends = o.sends; releases = o.releases })) (sym c.effects.view_is) in
    let cut : AreCutBy p e st.nodes.inboxes.items c.cut_links.new.inboxes = subst (λ b. AreCutBy p e b c.cut_links.new.inboxes) c.as_mut_slice-2.ensures.value c.cut_links.ensures.cut in
    let was : c.as_mut_slice-3.result.now ≡ c.cut_links.new.inboxes = c.as_mut_slice-3.ensures.value ∙ with_items_is st.nodes.inboxes c.cut_links.new.inboxes (c.cut_links.ensures.count ∙ c.as_mut_slice-2.ensures.len) in
    let sent : AreSent st.nodes.alive.items (event_node e) left.sends c.cut_links.new.inboxes c.deliver.new.inboxes =
    subst (λ al. AreSent al (event_node e) left.sends c.cut_links.new.inboxes c.deliver.new.inboxes) c.as_slice.ensures.value
    (subst (λ n. AreSent c.as_slice.result.now n left.sends c.cut_links.new.inboxes c.deliver.new.inboxes) c.node-n.ensures
    (subst (λ b. AreSent c.as_slice.result.now c.node-n.result left.sends b c.deliver.new.inboxes) was c.deliver.ensures.sent)) in
    let new_are : (with_items (with_items st.nodes.inboxes c.cut_links.new.inboxes) c.deliver.new.inboxes).items ≡ c.deliver.new.inboxes = with_items_is (with_items st.nodes.inboxes c.cut_links.new.inboxes) c.deliver.new.inboxes (c.deliver.ensures.sent.inbox_count ∙ c.as_mut_slice-3.ensures.len) in
    let live : (with_items st.nodes.alive c.note_death.new.alive).items ≡ without_lost e st.nodes.alive.items = with_items_is st.nodes.alive c.note_death.new.alive (c.note_death.ensures.count ∙ c.as_mut_slice-4.ensures.len) ∙ c.note_death.ensures.alive ∙ ap (without_lost e) c.as_mut_slice-4.ensures.value in
    let home : places_view (with_items st.nodes.places c.come_home.new.places).items ≡ slice_set (places_view st.nodes.places.items) (event_node e) (at_home left.node) =
    ap places_view (with_items_is st.nodes.places c.come_home.new.places (c.come_home.ensures.count ∙ c.as_mut_slice.ensures.len))
    ∙ c.come_home.ensures.places ∙ ap (λ places. slice_set (places_view places) (event_node e) (at_home left.node)) c.as_mut_slice.ensures.value in
    let more : releases_view tree c.append.new.self.items ≡ releases_view tree st.releases.items ++ left.releases = ap (releases_view tree) c.in-Ok.ensures.items ∙ map-append (release_view tree) st.releases.items c.effects.inside.releases.items in
    let v = net_view tree p st false in
    subst (λ w. IsCommitted k.event v w) (sym c.recount.ensures.same)
    (subst (λ b. IsCommitted k.event v (view p (with_items st.nodes.alive c.note_death.new.alive).items (releases_view tree c.append.new.self.items) (places_view (with_items st.nodes.places c.come_home.new.places).items) b (vec_capacity c.append.new.self - vec_len c.append.new.self))) (sym new_are)
    (committed_to p c.invariant.ensures st.nodes.alive.items (places_view st.nodes.places.items) st.nodes.inboxes.items (releases_view tree st.releases.items) st.nodes.losing st.counts h k c.requires.fits.out c.requires.fits.moved c.requires.fits.worked left (leaves_are p k left c.requires.worked is_left)
    e c.into_parts-event.ensures.event c.cut_links.new.inboxes c.deliver.new.inboxes (with_items st.nodes.alive c.note_death.new.alive).items (places_view (with_items st.nodes.places c.come_home.new.places).items) (releases_view tree c.append.new.self.items) v.room (vec_capacity c.append.new.self - vec_len c.append.new.self)
    cut sent live home more))
