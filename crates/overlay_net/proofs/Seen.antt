-- A net as its view, with who is out and with its room.
use Rattle.std.proofs.Common.{◌≡◌, ◌∙◌, ◌≤◌, ℕ, Bool, false, cond, List, [], map, filter, length, slice_get, Some, None, refl, sym, ap, subst}
use Rattle.std.specs.List.{AllByRecursion}
use Rattle.prefix_tree.specs.Tree.{Tree}
use Rattle.stat_plan.specs.Plans.{Plan}
use Rattle.overlay_event.specs.declared.event.Event.{Event}
use Rattle.overlay_core.specs.Machine.{State}
use Rattle.overlay_core.specs.TreeReleases.{TreeRelease}
use Rattle.event_claims.specs.Claims.{MayBeOut, is_free, is_home}
use Rattle.overlay_node.specs.Frames.{IsFrame, packet_of}
use Rattle.node_inbox.specs.Inboxes.{IsInbox, queue_of, room_for}
use Rattle.node_inbox.specs.Sends.{HaveRoom, inbox_at, is_alive, packets_to}
use Rattle.overlay_net.specs.Inboxes.{FrameInbox}
use Rattle.overlay_net.specs.Events.{IsNet}
use Rattle.overlay_net.specs.Nets.{net_view_of, node_events, state_with}
use Rattle.overlay_net.specs.Places.{PlaceView, nodes_in, out_at, outs_in, whole_inboxes, with_frame}
use Rattle.overlay_net.specs.States.{IsNetOf, IsNetState, IsSameNet, net_view}
use Rattle.overlay_net.specs.declared.state.NetState.{NetState}
use Rattle.overlay_net.proofs.ClaimStates.{view}
use Rattle.overlay_net.proofs.LostCommit.{full_whole}
use Rattle.overlay_net.proofs.Refits.{parts_like, reached_like, state_like}
use Rattle.overlay_net.proofs.Refitted.{as_many}
use Rattle.overlay_net.proofs.Whole.{frame_at, length_whole, whole_view}

-- the net of a state
pub seen_net : {X : Type 0} (tree : X → Tree) (p : Plan) (st : NetState X) → IsNetState tree p st → IsNet (net_view tree p st false)
seen_net tree p st h = record {
  journal = h.net.journal;
  reached = record { legal = h.net.reached.legal; state = h.net.reached.state; numbered = h.net.reached.numbered; trees = h.net.reached.trees };
  parts = h.net.parts;
  front = h.net.front;
}

-- ---- inboxes in which the same waits, with other rooms

module _ (rest : List ℕ) (p : Plan) (al : List Bool) (ps : List PlaceView) (old new : List FrameInbox) (rs : List TreeRelease) (losing counts : List ℕ) (h : IsNetOf rest p al ps old rs losing counts) (count : length new ≡ length old) (same : (b : ℕ) → inbox_at new b ≡ inbox_at old b) where
  many : length ps ≡ length old
  many = as_many p al ps old rs h.net h.frames h.inbox_count h.inboxes

  pub seen_same : (b : ℕ) → inbox_at (whole_inboxes ps new) b ≡ inbox_at (whole_inboxes ps old) b
  seen_same b = whole_view ps new b (many ∙ sym count) ∙ ap (with_frame (out_at (outs_in ps) b) (frame_at ps b)) (same b) ∙ sym (whole_view ps old b many)

  pub state_same : ◌≡◌ {A = State} (state_with p al (nodes_in ps) (whole_inboxes ps new) rs) (state_with p al (nodes_in ps) (whole_inboxes ps old) rs)
  state_same = state_like p al (nodes_in ps) (nodes_in ps) (whole_inboxes ps old) (whole_inboxes ps new) rs (λ n. refl) (λ b a. ap (λ w. map packet_of (queue_of w a)) (seen_same b))

  pub room_net : IsNetOf rest p al ps new rs losing counts
  room_net = record {
    net = record {
      journal = h.net.journal;
      reached = reached_like (net_view_of p al (nodes_in ps) (whole_inboxes ps old) rs false) (net_view_of p al (nodes_in ps) (whole_inboxes ps new) rs false) h.net.journal refl state_same refl h.net.reached;
      parts = parts_like p al (nodes_in ps) (nodes_in ps) (whole_inboxes ps old) (whole_inboxes ps new) h.net.parts refl
          (length_whole ps new (many ∙ sym count) ∙ count ∙ sym (length_whole ps old many)) h.net.parts.node
          (λ b a. ap (λ w. map packet_of (queue_of w a)) (seen_same b))
          (λ b a. subst (λ w. AllByRecursion (IsFrame p) (queue_of w a)) (sym (seen_same b)) (h.net.parts.packets a b))
          (λ b. subst IsInbox (sym (seen_same b)) (record { sent = h.net.parts.sent b; increasing = h.net.parts.increasing b }));
      front = h.net.front;
    };
    out = subst (λ s. MayBeOut p s (out_at (outs_in ps))) (sym state_same) h.out;
    frames = h.frames;
    inbox_count = count ∙ h.inbox_count;
    inboxes = λ b. subst IsInbox (sym (same b)) (h.inboxes b);
    losing = h.losing;
    counted = record {
      place_count = h.counted.place_count;
      things = λ b lt other.
          h.counted.things b lt other
          ∙ (λ i. Some (length (cond (is_home (out_at (outs_in ps) b)) (filter (is_free p (out_at (outs_in ps))) (elim (slice_get (nodes_in ps) b) as (λ _. List Event) [ None ↦ [] | (Some x) ↦ node_events p (is_alive al b) x (sym (seen_same b) i) ])) [])));
    };
  }

-- the rooms of whole inboxes are those of the inboxes
pub room_seen : (ps : List PlaceView) (boxes : List FrameInbox) (n : ℕ) (sends : List (ℕ × List ℕ)) → length ps ≡ length boxes → HaveRoom n sends boxes → HaveRoom n sends (whole_inboxes ps boxes)
room_seen ps boxes n sends len room b = subst (λ k. length (packets_to b sends) ≤ k) (sym (ap (λ (w : FrameInbox). room_for w n) (full_whole ps boxes b len))) (room b)

-- a net in which the same waits is the same
pub same_view : (rest : List ℕ) (p : Plan) (al : List Bool) (ps : List PlaceView) (old new : List FrameInbox) (rs ts : List TreeRelease) (losing counts : List ℕ) → IsNetOf rest p al ps old rs losing counts → length new ≡ length old → ((b : ℕ) → inbox_at new b ≡ inbox_at old b) → ts ≡ rs → (room after : ℕ)
    → IsSameNet (view p al rs ps old room) (view p al ts ps new after)
same_view rest p al ps old new rs ts losing counts h count same more room after =
    subst (λ r. IsSameNet (view p al rs ps old room) (view p al r ps new after)) (sym more)
    (record { plan = refl; state = state_same rest p al ps old new rs losing counts h count same; releases = refl; outs = refl })
