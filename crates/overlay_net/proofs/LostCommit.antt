-- The loss of a node is committed: its links are cut, and its notices go where they go.
use Rattle.std.proofs.Common.{◌≡◌, ◌∙◌, ◌<◌, ℕ, zero, suc, Bool, true, false, ◌==◌, nat_lt, cond, List, [], ◌∷◌, ◌++◌, take, length, slice_get, slice_set, Option, Some, None, refl, sym, ap, subst, inl, inr, eqb-true, arith}
use Rattle.std.proofs.lemmas.Bool.{cases_Bool, eqb-false, ltb-true, ltb-false}
use Rattle.std.proofs.lemmas.List.{length-set}
use Rattle.stat_plan.specs.Invariants.{IsPlan}
use Rattle.stat_plan.specs.Plans.{Plan, fault, nodes}
use Rattle.overlay_event.specs.declared.event.Event.{Event}
use Rattle.overlay_event.specs.declared.event.Event.TheVariants.{Sample, Recv, Tick, Lose}
use Rattle.overlay_event.specs.Events.{event_node}
use Rattle.overlay_core.specs.Machine.{State, is_enabled}
use Rattle.stat_plan.specs.Machine.Overlays.{keep_of}
use Rattle.overlay_core.specs.TreeReleases.{TreeRelease}
use Rattle.event_claims.specs.Claims.{MayBeOut}
use Rattle.node_inbox.specs.Inboxes.{IsInbox, queue_of}
use Rattle.node_inbox.specs.Sends.{AreSent, inbox_at}
use Rattle.overlay_net.specs.Inboxes.{FrameInbox}
use Rattle.overlay_net.specs.Claims.{ClaimView, IsMovedOut, LeavesNotices, Left, MayBeWorked}
use Rattle.overlay_net.specs.Events.{IsNet}
use Rattle.overlay_net.specs.Handled.{ExtendsBy}
use Rattle.node_inbox.specs.Cuts.{AreCut, IsCut, full_inbox_at}
use Rattle.overlay_net.specs.Losses.{AreLost}
use Rattle.overlay_net.specs.Nets.{net_view_of, state_with}
use Rattle.overlay_net.specs.Places.{HaveFrames, PlaceView, at_home, away, nodes_in, out_at, outs_in, whole_inbox, whole_inboxes, with_frame}
use Rattle.overlay_net.proofs.Committed.{whole_sent}
use Rattle.overlay_net.proofs.Cuts.{cut_and_told}
use Rattle.overlay_net.proofs.Fronts.{in_hand, whole_is_inbox, whole_queue}
use Rattle.overlay_net.proofs.LostStates.{loss_extends, net_lost}
use Rattle.overlay_net.proofs.Refits.{nodes_set, whole_set}
use Rattle.overlay_net.proofs.Refitted.{as_many, below, net_refits, state_refits}
use Rattle.overlay_net.proofs.Whole.{frame_at, length_whole, out_at_place, out_else, out_here}

-- ---- the links are cut, also those to nodes that are out

-- what is left of an inbox
pub full_whole : (ps : List PlaceView) (boxes : List FrameInbox) (b : ℕ) → length ps ≡ length boxes → full_inbox_at (whole_inboxes ps boxes) b ≡ record { waiting = with_frame (out_at (outs_in ps) b) (frame_at ps b) (inbox_at boxes b); rooms = (full_inbox_at boxes b).rooms }
full_whole [] boxes zero len = refl
full_whole [] boxes (suc b) len = refl
full_whole (x ∷ xs) [] b len = absurd (omega (arith, len))
full_whole (x ∷ xs) (box ∷ boxes) zero len = refl
full_whole (x ∷ xs) (box ∷ boxes) (suc b) len = full_whole xs boxes b (omega (arith, len))

-- where nobody has a frame of n in its hands, and n is at home
pub whole_cut : (p : Plan) (n : ℕ) (ps : List PlaceView) (old new : List FrameInbox) → length ps ≡ length old → length old ≡ nodes p → ((b : ℕ) → IsInbox (inbox_at old b)) → out_at (outs_in ps) n ≡ None
    → ((b : ℕ) → (b == n) ≡ false → in_hand (out_at (outs_in ps) b) (frame_at ps b) n ≡ [])
    → AreCut n (keep_of (fault p n)) (nodes p) old new → AreCut n (keep_of (fault p n)) (nodes p) (whole_inboxes ps old) (whole_inboxes ps new)
whole_cut p n ps old new len all are home free cut = record {
  inbox_count = length_whole ps new many ∙ cut.inbox_count ∙ sym (length_whole ps old len);
  done = λ b lt. subst (λ w. IsCut n (keep_of (fault p n)) b w (full_inbox_at (whole_inboxes ps new) b)) (sym (full_whole ps old b len)) (subst (IsCut n (keep_of (fault p n)) b (seen old b)) (sym (full_whole ps new b many)) (each b (cut.done b lt)));
  rest = λ b le. full_whole ps new b many ∙ ap (λ (w : FrameInbox). record { waiting = with_frame (out_at (outs_in ps) b) (frame_at ps b) w.waiting; rooms = w.rooms }) (cut.rest b le) ∙ sym (full_whole ps old b len);
}
  where
    many : length ps ≡ length new
    many = len ∙ sym cut.inbox_count

    seen : List FrameInbox → ℕ → FrameInbox
    seen boxes b = record { waiting = with_frame (out_at (outs_in ps) b) (frame_at ps b) (inbox_at boxes b); rooms = (full_inbox_at boxes b).rooms }

    each : (b : ℕ) → IsCut n (keep_of (fault p n)) b (full_inbox_at old b) (full_inbox_at new b) → IsCut n (keep_of (fault p n)) b (seen old b) (seen new b)
    each b h = record {
      own = λ t. (λ i. with_frame ((ap (out_at (outs_in ps)) (eqb-true b n t) ∙ home) i) (frame_at ps b) (inbox_at new b)) ∙ h.own t;
      cut = λ f.
          whole_queue (out_at (outs_in ps) b) (frame_at ps b) (inbox_at new b) n h.inbox
          ∙ (λ i. free b f i ++ h.cut f i)
          ∙ ap (take (keep_of (fault p n))) (sym (whole_queue (out_at (outs_in ps) b) (frame_at ps b) (inbox_at old b) n (are b) ∙ ap (λ l. l ++ queue_of (inbox_at old b) n) (free b f)));
      others = λ f a u.
          whole_queue (out_at (outs_in ps) b) (frame_at ps b) (inbox_at new b) a h.inbox
          ∙ ap (λ l. in_hand (out_at (outs_in ps) b) (frame_at ps b) a ++ l) (h.others f a u)
          ∙ sym (whole_queue (out_at (outs_in ps) b) (frame_at ps b) (inbox_at old b) a (are b));
      grows = h.grows;
      inbox = whole_is_inbox (out_at (outs_in ps) b) (frame_at ps b) (inbox_at new b) h.inbox;
    }

module _ (p : Plan) (plan : IsPlan p) (al : List Bool) (ps : List PlaceView) (boxes : List FrameInbox) (rs : List TreeRelease)
    (net : IsNet (net_view_of p al (nodes_in ps) (whole_inboxes ps boxes) rs false))
    (frames : HaveFrames ps) (count : length boxes ≡ nodes p) (inboxes : (n : ℕ) → IsInbox (inbox_at boxes n))
    (are_out : MayBeOut p (state_with p al (nodes_in ps) (whole_inboxes ps boxes) rs) (out_at (outs_in ps)))
    (c : ClaimView) (old : PlaceView) (at : slice_get ps (event_node c.event) ≡ Some old) (out : old.out ≡ Some c.event)
    (moved : IsMovedOut p (state_with p al (nodes_in ps) (whole_inboxes ps boxes) rs) c) (worked : MayBeWorked p c)
    (n : ℕ) (is : c.event ≡ Lose n) (left : Left) (leaves : LeavesNotices p n c.node left) where
  abbrev gone : List PlaceView
  gone = slice_set ps (event_node c.event) (away c.event c.node c.frame)

  abbrev come : List PlaceView
  come = slice_set ps (event_node c.event) (at_home left.node)

  here : event_node c.event ≡ n
  here = ap event_node is

  many : length ps ≡ length boxes
  many = as_many p al ps boxes rs net frames count inboxes

  lt : event_node c.event < length ps
  lt = below p al ps boxes rs net frames count inboxes c old at out moved worked

  come_many : length come ≡ length boxes
  come_many = length-set ps (event_node c.event) (at_home left.node) ∙ many

  -- the lost node is home
  home : out_at (outs_in come) n ≡ None
  home = ap (out_at (outs_in come)) (sym here) ∙ out_here ps (event_node c.event) (at_home left.node) lt

  lost_out : out_at (outs_in ps) n ≡ Some (Lose n)
  lost_out = ap (out_at (outs_in ps)) (sym here) ∙ out_at_place ps (event_node c.event) old at ∙ out ∙ ap Some is

  -- nobody has a frame of it in its hands
  free : (b : ℕ) → (b == n) ≡ false → in_hand (out_at (outs_in come) b) (frame_at come b) n ≡ []
  free b f = go (out_at (outs_in come) b) (frame_at come b) (out_else ps (event_node c.event) b (at_home left.node) (λ e. eqb-false b n f (e ∙ here)))
    where
      go : (o : Option Event) (g : Option (List ℕ)) → o ≡ out_at (outs_in ps) b → in_hand o g n ≡ []
      go None g e = refl
      go (Some (Sample k s w)) g e = refl
      go (Some (Recv k m)) None e = refl
      go (Some (Recv k m)) (Some h) e = elim (cases_Bool (m == n)) [
        | inl t ↦
            let from : m ≡ n = eqb-true m n t in
            let own : k ≡ b = are_out.own b (Recv k m) (sym e) in
            absurd (are_out.senders_stay b n (sym e ∙ (λ i. Some (Recv (own i) (from i)))) lost_out)
        | inr u ↦ ap (λ t. cond t (h ∷ []) []) u
      ]
      go (Some (Tick k)) g e = refl
      go (Some (Lose k)) g e = refl

  alike : whole_inboxes come boxes ≡ whole_inboxes gone boxes
  alike = whole_set ps boxes (event_node c.event) (at_home left.node) (away c.event c.node c.frame) (λ box. (λ i. whole_inbox (away (sym is i) c.node c.frame) box))

  nodes_alike : nodes_in come ≡ nodes_in gone
  nodes_alike =
      nodes_set ps (event_node c.event) (at_home left.node)
      ∙ ap (slice_set (nodes_in ps) (event_node c.event)) leaves.node
      ∙ sym (nodes_set ps (event_node c.event) (away c.event c.node c.frame))

  whole : IsNet (net_view_of p al (nodes_in gone) (whole_inboxes gone boxes) rs false)
  whole = net_refits p al ps boxes rs net frames count inboxes c old at out moved worked

  enabled : is_enabled p (state_with p al (nodes_in gone) (whole_inboxes gone boxes) rs) (Lose n) ≡ true
  enabled =
      ap (λ (s : State). is_enabled p s (Lose n)) (state_refits p al ps boxes rs net frames count inboxes c old at out moved worked)
      ∙ subst (λ e. is_enabled p (state_with p al (nodes_in ps) (whole_inboxes ps boxes) rs) e ≡ true) is moved.enabled

  module _ (cut new : List FrameInbox) (is_cut : AreCut n (keep_of (fault p n)) (nodes p) boxes cut) (sent : AreSent al n left.sends cut new) where
    cut_inboxes : (b : ℕ) → IsInbox (inbox_at cut b)
    cut_inboxes b = elim (cases_Bool (nat_lt b (nodes p))) [
      | inl t ↦ (is_cut.done b (ltb-true b (nodes p) t)).inbox
      | inr f ↦ subst IsInbox (sym (ap (λ (w : FrameInbox). w.waiting) (is_cut.rest b (ltb-false b (nodes p) f)))) (inboxes b)
    ]

    cut_many : length come ≡ length cut
    cut_many = come_many ∙ sym is_cut.inbox_count

    all_inboxes : (b : ℕ) → IsInbox (inbox_at (whole_inboxes gone boxes) b)
    all_inboxes b = record { sent = whole.parts.sent b; increasing = whole.parts.increasing b }

    -- the loss was done to the whole inboxes
    lost : AreLost p al n (nodes p) (whole_inboxes gone boxes) (whole_inboxes come new)
    lost = cut_and_told p al n (whole_inboxes gone boxes) (whole_inboxes come cut) (whole_inboxes come new) left.sends
        (subst (λ w. AreCut n (keep_of (fault p n)) (nodes p) w (whole_inboxes come cut)) alike (whole_cut p n come boxes cut come_many count inboxes home free is_cut))
        (whole_sent al n left.sends come cut new cut_many cut_inboxes sent) leaves.sent leaves.frames all_inboxes

    pub lost_inboxes : (b : ℕ) → IsInbox (inbox_at new b)
    lost_inboxes = sent.inboxes cut_inboxes

    -- the journal with the loss leads to the net with the node at home
    pub extends_lost : ExtendsBy (Lose n) (net_view_of p al (nodes_in gone) (whole_inboxes gone boxes) rs false) (net_view_of p (slice_set al n false) (nodes_in come) (whole_inboxes come new) rs false)
    extends_lost = subst (λ xs. ExtendsBy (Lose n) (net_view_of p al (nodes_in gone) (whole_inboxes gone boxes) rs false) (net_view_of p (slice_set al n false) xs (whole_inboxes come new) rs false)) (sym nodes_alike)
        (loss_extends p al (nodes_in gone) (whole_inboxes gone boxes) (whole_inboxes come new) n rs whole enabled lost)

    pub net_lost_then : IsNet (net_view_of p (slice_set al n false) (nodes_in come) (whole_inboxes come new) rs false)
    net_lost_then = subst (λ xs. IsNet (net_view_of p (slice_set al n false) xs (whole_inboxes come new) rs false)) (sym nodes_alike)
        (net_lost p al (nodes_in gone) (whole_inboxes gone boxes) (whole_inboxes come new) n rs whole enabled lost)
