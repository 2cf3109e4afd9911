-- The first frame on a link, where no node is out.
use Rattle.std.proofs.Common.{◌≡◌, ◌∙◌, ◌∷◌, ℕ, List, [], Some, None, false, length, map, slice_get, refl, sym, ap}
use Rattle.std.specs.List.{AllByRecursion}
use Rattle.std.specs.Prelude.{option_map}
use Rattle.prefix_tree.specs.Tree.{Tree}
use Rattle.stat_plan.specs.Plans.{Plan}
use Rattle.overlay_core.specs.TreeReleases.{releases_view}
use Rattle.overlay_node.specs.Frames.{IsFrame, packet_of}
use Rattle.node_inbox.specs.Inboxes.{queue_of}
use Rattle.node_inbox.specs.Sends.{inbox_at}
use Rattle.overlay_net.specs.Frames.{frame_bytes}
use Rattle.overlay_net.specs.Inboxes.{FrameInbox}
use Rattle.overlay_net.specs.Nets.{AllHome}
use Rattle.overlay_net.specs.Places.{PlaceView, out_at, outs_in, places_view, whole_inboxes, with_frame}
use Rattle.overlay_net.specs.States.{IsNetState, net_view, state_at}
use Rattle.overlay_net.specs.declared.state.NetState.{NetState}
use Rattle.overlay_net.proofs.Refitted.{as_many}
use Rattle.overlay_net.proofs.Whole.{frame_at, whole_view}

-- the inbox of a node that is at home, or of no node, is whole
whole_at_home : (ps : List PlaceView) (boxes : List FrameInbox) (n : ℕ) → length ps ≡ length boxes → out_at (outs_in ps) n ≡ None → inbox_at (whole_inboxes ps boxes) n ≡ inbox_at boxes n
whole_at_home ps boxes n len home = whole_view ps boxes n len ∙ ap (λ o. with_frame o (frame_at ps n) (inbox_at boxes n)) home

-- the first of a plan's frames is that of its packet
first_frame : (p : Plan) (frames : List (List ℕ)) → AllByRecursion (IsFrame p) frames → slice_get frames 0 ≡ option_map (frame_bytes p) (slice_get (map packet_of frames) 0)
first_frame p [] are = refl
first_frame p (f ∷ fs) are = ap Some are.0.spelled

-- the first frame that waits is that of the first packet on the machine's link
pub first_on_link : {X : Type 0} (tree : X → Tree) (p : Plan) (st : NetState X) (n m : ℕ) → IsNetState tree p st → AllHome (net_view tree p st false)
    → slice_get (queue_of (inbox_at st.nodes.inboxes.items n) m) 0 ≡ option_map (frame_bytes p) (slice_get ((state_at tree p st).link m n) 0)
first_on_link tree p st n m net home =
    let ps = places_view st.nodes.places.items in
    let boxes = st.nodes.inboxes.items in
    let len : length ps ≡ length boxes = as_many p st.nodes.alive.items ps boxes (releases_view tree st.releases.items) net.net net.frames net.inbox_count net.inboxes in
    ap (λ w. slice_get (queue_of w m) 0) (sym (whole_at_home ps boxes n len (home n)))
    ∙ first_frame p (queue_of (inbox_at (whole_inboxes ps boxes) n) m) (net.net.parts.packets m n)
