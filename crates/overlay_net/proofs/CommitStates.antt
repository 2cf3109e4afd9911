-- The invariant of a net, where a claim is committed.
use Rattle.std.proofs.Common.{◌≡◌, ◌≢◌, ◌∙◌, ◌<◌, ◌≤◌, nat_lt, ℕ, zero, suc, Bool, true, false, ◌==◌, ◌&&◌, not, cond, List, [], ◌∷◌, ◌++◌, map, filter, length, slice_get, slice_set, Option, Some, None, refl, sym, ap, subst, inl, inr, eqb-true, append-nil, arith}
use Rattle.std.proofs.lemmas.Bool.{and_parts, cases_Bool, cond_both, eqb-false, true≢false, ltb-true, ltb-false}
use Rattle.std.proofs.lemmas.Option.{none-some, slice_get_within}
use Rattle.std.specs.List.{AllByRecursion}
use Rattle.overlay_setup.specs.NodeSets.{member, up_to}
use Rattle.stat_plan.specs.Invariants.{IsPlan}
use Rattle.stat_plan.specs.Plans.{Plan, fault, is_related, nodes, AreNodes}
use Rattle.overlay_event.specs.declared.event.Event.{Event}
use Rattle.overlay_event.specs.declared.event.Event.TheVariants.{Sample, Recv, Tick, Lose}
use Rattle.overlay_event.specs.Events.{event_node}
use Rattle.overlay_core.specs.Nodes.{Packet, Down}
use Rattle.overlay_core.specs.Machine.{State, is_active, is_enabled, step}
use Rattle.stat_plan.specs.Machine.Overlays.{is_pending}
use Rattle.stat_plan.proofs.InLists.{all_below}
use Rattle.count_tree.proofs.Counted.{set_else, set_here}
use Rattle.overlay_core.specs.Runs.{after}
use Rattle.overlay_core.specs.TreeReleases.{TreeRelease}
use Rattle.overlay_core.proofs.Journals.{after_more}
use Rattle.event_claims.specs.Claims.{MayBeOut, Outs, come_home, is_loss_of}
use Rattle.event_claims.proofs.Claims.{commit_less}
use Rattle.overlay_node.specs.Frames.{packet_of}
use Rattle.overlay_node.specs.Outputs.{packets_of}
use Rattle.node_inbox.specs.Inboxes.{IsInbox, room_for}
use Rattle.node_inbox.specs.Sends.{AreSent, GoBelow, HaveRoom, inbox_at, is_alive, room_at}
use Rattle.overlay_net.specs.Inboxes.{FrameInbox}
use Rattle.overlay_net.specs.Claims.{ClaimView, IsMovedOut, IsPrepared, Leaves, Left, MayBeWorked, WasWorked, notices}
use Rattle.overlay_net.specs.Events.{AreCountedBut, AreLosing, IsNet, IsOrdinary, with_loss, without_lost}
use Rattle.overlay_net.specs.Handled.{ExtendsBy}
use Rattle.overlay_net.specs.Losses.{AreCutBy}
use Rattle.overlay_net.specs.Nets.{IsReachedBy, NetView, net_view_of, state_of, state_with}
use Rattle.overlay_net.specs.Places.{HasFrame, HaveFrames, PlaceView, at_home, away, nodes_in, out_at, outs_in, whole_inboxes, with_frame}
use Rattle.overlay_net.specs.Sends.{changed}
use Rattle.overlay_net.specs.States.{IsCommitted, IsNetOf}
use Rattle.overlay_net.proofs.ClaimCounts.{DifferAt, IsOutOrHome, counts_stay, first_below, losses_stay, nothing_counted}
use Rattle.overlay_net.proofs.ClaimStates.{same_net, view}
use Rattle.overlay_net.proofs.Committed.{extends, net_then, they_are_below}
use Rattle.overlay_net.proofs.LosingCounts.{losing_same, losing_set}
use Rattle.overlay_net.proofs.LostCommit.{extends_lost, full_whole, lost_inboxes, net_lost_then}
use Rattle.overlay_net.proofs.PartsInvariant.{receiver_is_member, receivers_below, waits_where_some}
use Rattle.overlay_net.proofs.Refits.{nodes_set, reached_like}
use Rattle.overlay_net.proofs.Refitted.{as_many, place_count, state_refits}
use Rattle.overlay_net.proofs.Whole.{frame_at, out_else, out_here, whole_else, whole_view}

-- the place of a node that is out
pub place_out : (ps : List PlaceView) (n : ℕ) (e : Event) → out_at (outs_in ps) n ≡ Some e → (x : PlaceView) × (slice_get ps n ≡ Some x) × (x.out ≡ Some e)
place_out [] zero e is = absurd (none-some e is)
place_out [] (suc n) e is = absurd (none-some e is)
place_out (x ∷ xs) zero e is = (x, refl, is)
place_out (x ∷ xs) (suc n) e is = place_out xs n e is

-- ---- the notices of a loss go to nodes of the plan

all_filtered : {X : Type 0} (R : X → Type 0) (f : X → Bool) (xs : List X) → AllByRecursion R xs → AllByRecursion R (filter f xs)
all_filtered R f [] h = tt
all_filtered R f (x ∷ xs) h = go (f x) (all_filtered R f xs h.1)
  where
    go : (t : Bool) → AllByRecursion R (filter f xs) → AllByRecursion R (cond t (x ∷ filter f xs) (filter f xs))
    go true rest = (h.0, rest)
    go false rest = rest

receivers_are : (sends : List (ℕ × List ℕ)) → map (λ (v : ℕ × Packet). v.0) (packets_of sends) ≡ map (λ (v : ℕ × List ℕ). v.0) sends
receivers_are [] = refl
receivers_are (v ∷ vs) = ap (λ l. v.0 ∷ l) (receivers_are vs)

told_are : (bs : List ℕ) → map (λ (v : ℕ × Packet). v.0) (map (λ b. (b, Down)) bs) ≡ bs
told_are [] = refl
told_are (b ∷ bs) = ap (λ l. b ∷ l) (told_are bs)

go_below : (count : ℕ) (sends : List (ℕ × List ℕ)) → AllByRecursion (λ n. n < count) (map (λ (v : ℕ × List ℕ). v.0) sends) → GoBelow count sends
go_below count [] h = tt
go_below count (v ∷ vs) h = (h.0, go_below count vs h.1)

notices_below : (p : Plan) (n : ℕ) (sends : List (ℕ × List ℕ)) → packets_of sends ≡ notices p n → GoBelow (nodes p) sends
notices_below p n sends is =
    let told = filter (λ b. not (b == n) && is_related p n b) (up_to (nodes p)) in
    let same : map (λ (v : ℕ × List ℕ). v.0) sends ≡ told = sym (receivers_are sends) ∙ ap (map (λ (v : ℕ × Packet). v.0)) is ∙ told_are told in
    go_below (nodes p) sends (subst (AllByRecursion (λ k. k < nodes p)) (sym same) (all_filtered (λ k. k < nodes p) (λ b. not (b == n) && is_related p n b) (up_to (nodes p)) (all_below (nodes p))))

-- an event that is no loss leaves who lives
all_live : (e : Event) (al : List Bool) → IsOrdinary e → without_lost e al ≡ al
all_live (Sample n s w) al ord = refl
all_live (Recv n m) al ord = refl
all_live (Tick n) al ord = refl
all_live (Lose n) al ord = absurd ord

module _ (p : Plan) (plan : IsPlan p) (al : List Bool) (ps : List PlaceView) (boxes : List FrameInbox) (rs : List TreeRelease) (losing counts : List ℕ)
    (h : IsNetOf [] p al ps boxes rs losing counts) (c : ClaimView) (out : out_at (outs_in ps) (event_node c.event) ≡ Some c.event)
    (moved : IsMovedOut p (state_with p al (nodes_in ps) (whole_inboxes ps boxes) rs) c) (worked : MayBeWorked p c)
    (left : Left) (leaves : Leaves p c.node c.event c.frame left) where
  abbrev n : ℕ
  n = event_node c.event

  abbrev st : State
  st = state_with p al (nodes_in ps) (whole_inboxes ps boxes) rs

  abbrev gone : List PlaceView
  gone = slice_set ps (event_node c.event) (away c.event c.node c.frame)

  abbrev pub come : List PlaceView
  come = slice_set ps (event_node c.event) (at_home left.node)

  abbrev pub receivers : List ℕ
  receivers = map (λ v. v.0) left.sends

  old : (x : PlaceView) × (slice_get ps n ≡ Some x) × (x.out ≡ Some c.event)
  old = place_out ps n c.event out

  lt : n < length ps
  lt = slice_get_within ps n old.0 old.1

  many : length ps ≡ length boxes
  many = as_many p al ps boxes rs h.net h.frames h.inbox_count h.inboxes

  pub node_below : n < nodes p
  node_below = let k = lt in let len = place_count p al ps boxes rs h.net h.frames h.inbox_count h.inboxes in omega (arith, k, len)

  -- the node is home, and the others are out as before
  pub outs_then : ◌≡◌ {A = Outs} (out_at (outs_in come)) (come_home (out_at (outs_in ps)) c.event)
  outs_then = λ i k. each k i
    where
      each : (k : ℕ) → out_at (outs_in come) k ≡ come_home (out_at (outs_in ps)) c.event k
      each k = cond_both {A = Option Event} (k == n) None (out_at (outs_in ps) k) (λ o. out_at (outs_in come) k ≡ o)
          (λ t. ap (out_at (outs_in come)) (eqb-true k n t) ∙ out_here ps n (at_home left.node) lt)
          (λ u. out_else ps n k (at_home left.node) (eqb-false k n u))

  differ : DifferAt c.event (out_at (outs_in ps)) (out_at (outs_in come))
  differ = record {
    was = subst (λ o. IsOutOrHome c.event o) (sym out) refl;
    is = subst (λ o. IsOutOrHome c.event o) (sym (out_here ps n (at_home left.node) lt)) tt;
    others = λ k ne. out_else ps n k (at_home left.node) ne;
  }

  -- who is out with a frame has it
  frames_then : HaveFrames come
  frames_then k y is = elim (cases_Bool (k == n)) [
    | inl t ↦
        let same : at_home left.node ≡ y = once (slice_get come n) (at_home left.node) y (set_here ps n (at_home left.node) lt) (ap (slice_get come) (sym (eqb-true k n t)) ∙ is) in
        subst (λ z. HasFrame z.out z.frame) same refl
    | inr u ↦ h.frames k y (sym (set_else ps n k (at_home left.node) (eqb-false k n u)) ∙ is)
  ]
    where
      once : (o : Option PlaceView) (y z : PlaceView) → o ≡ Some y → o ≡ Some z → y ≡ z
      once o y z e f = cc

  losing_is : (g : Event) → g ≡ c.event → AreLosing p (out_at (outs_in come)) (with_loss g 0 losing)
  losing_is (Sample k s w) is = losing_same p (out_at (outs_in ps)) (out_at (outs_in come)) losing (λ j. losses_stay c.event (out_at (outs_in ps)) (out_at (outs_in come)) (subst IsOrdinary is tt) differ j j) h.losing
  losing_is (Recv k m) is = losing_same p (out_at (outs_in ps)) (out_at (outs_in come)) losing (λ j. losses_stay c.event (out_at (outs_in ps)) (out_at (outs_in come)) (subst IsOrdinary is tt) differ j j) h.losing
  losing_is (Tick k) is = losing_same p (out_at (outs_in ps)) (out_at (outs_in come)) losing (λ j. losses_stay c.event (out_at (outs_in ps)) (out_at (outs_in come)) (subst IsOrdinary is tt) differ j j) h.losing
  losing_is (Lose k) is =
      let here : k ≡ n = ap event_node is in
      let none : out_at (outs_in come) k ≡ None = ap (out_at (outs_in come)) here ∙ out_here ps n (at_home left.node) lt in
      losing_set p (out_at (outs_in ps)) (out_at (outs_in come)) losing k 0 (subst (λ j. j < nodes p) (sym here) node_below) h.losing
      (sym (ap (λ o. cond (is_loss_of o k) 1 0) none)) (λ j ne. differ.others j (λ t. ne (t ∙ sym here)))

  -- what is sent goes to nodes of the plan
  pub sends_below : GoBelow (nodes p) left.sends
  sends_below = go c.event refl leaves
    where
      ordinary : (g : Event) → g ≡ c.event → IsOrdinary g → GoBelow (nodes p) left.sends
      ordinary g is ord = they_are_below p plan al ps boxes rs h.net h.frames h.inbox_count h.inboxes c old.0 old.1 old.2 moved worked left (subst IsOrdinary is ord) leaves

      go : (g : Event) → g ≡ c.event → Leaves p c.node g c.frame left → GoBelow (nodes p) left.sends
      go (Sample k s w) is l = ordinary (Sample k s w) is tt
      go (Recv k m) is l = ordinary (Recv k m) is tt
      go (Tick k) is l = ordinary (Tick k) is tt
      go (Lose k) is l = notices_below p k left.sends l.sent

  -- if a journal leads to the net, that journal leads to it with the claim's node and frame
  refits : (journal : List Event) → IsReachedBy (net_view_of p al (nodes_in ps) (whole_inboxes ps boxes) rs false) journal → IsReachedBy (net_view_of p al (nodes_in gone) (whole_inboxes gone boxes) rs false) journal
  refits journal r = reached_like (net_view_of p al (nodes_in ps) (whole_inboxes ps boxes) rs false) (net_view_of p al (nodes_in gone) (whole_inboxes gone boxes) rs false) journal refl
      (state_refits p al ps boxes rs h.net h.frames h.inbox_count h.inboxes c old.0 old.1 old.2 moved worked) refl r

  module _ (cut new : List FrameInbox) (is_cut : AreCutBy p c.event boxes cut) (sent : AreSent al n left.sends cut new) where
    abbrev pub then : NetView
    then = net_view_of p (without_lost c.event al) (nodes_in come) (whole_inboxes come new) (rs ++ left.releases) false

    -- the whole result, by the kind of the event
    abbrev Result : Event → Type 0
    Result g = ExtendsBy g (net_view_of p al (nodes_in gone) (whole_inboxes gone boxes) rs false) (net_view_of p (without_lost g al) (nodes_in come) (whole_inboxes come new) (rs ++ left.releases) false)
        × IsNet (net_view_of p (without_lost g al) (nodes_in come) (whole_inboxes come new) (rs ++ left.releases) false)
        × ((b : ℕ) → IsInbox (inbox_at new b))
        × (length new ≡ nodes p)
        × AreCountedBut (changed p g receivers) p (without_lost g al) (nodes_in come) (whole_inboxes come new) (out_at (outs_in come)) counts

    other_node : (b : ℕ) → b ≢ n → slice_get (nodes_in come) b ≡ slice_get (nodes_in ps) b
    other_node b ne = ap (λ xs. slice_get xs b) (nodes_set ps n (at_home left.node)) ∙ set_else (nodes_in ps) n b left.node ne

    ordinary : (g : Event) → g ≡ c.event → IsOrdinary g → cut ≡ boxes → Result g
    ordinary g is ord same = subst Result (sym is) all
      where
        own : IsOrdinary c.event
        own = subst IsOrdinary is ord

        to_boxes : AreSent al n left.sends boxes new
        to_boxes = subst (λ b. AreSent al n left.sends b new) same sent

        other_inbox : (b : ℕ) → b ≢ n → member b receivers ≡ false → inbox_at (whole_inboxes come new) b ≡ inbox_at (whole_inboxes ps boxes) b
        other_inbox b ne none =
            whole_else ps new n b (at_home left.node) ne
            ∙ whole_view ps new b (many ∙ sym to_boxes.inbox_count)
            ∙ ap (with_frame (out_at (outs_in ps) b) (frame_at ps b)) (to_boxes.others b (ap (λ t. t && is_alive al b) (sym (receiver_is_member b left.sends) ∙ none)))
            ∙ sym (whole_view ps boxes b many)

        all : Result c.event
        all = subst (λ am. ExtendsBy c.event (net_view_of p al (nodes_in gone) (whole_inboxes gone boxes) rs false) (net_view_of p am (nodes_in come) (whole_inboxes come new) (rs ++ left.releases) false)
            × IsNet (net_view_of p am (nodes_in come) (whole_inboxes come new) (rs ++ left.releases) false)
            × ((b : ℕ) → IsInbox (inbox_at new b))
            × (length new ≡ nodes p)
            × AreCountedBut (changed p c.event receivers) p am (nodes_in come) (whole_inboxes come new) (out_at (outs_in come)) counts)
            (sym (all_live c.event al own)) (
              extends p plan al ps boxes rs h.net h.frames h.inbox_count h.inboxes c old.0 old.1 old.2 moved worked left own leaves new to_boxes,
              net_then p plan al ps boxes rs h.net h.frames h.inbox_count h.inboxes c old.0 old.1 old.2 moved worked left own leaves new to_boxes,
              to_boxes.inboxes h.inboxes,
              to_boxes.inbox_count ∙ h.inbox_count,
              counts_stay p al (nodes_in ps) (nodes_in come) (whole_inboxes ps boxes) (whole_inboxes come new) c.event (out_at (outs_in ps)) (out_at (outs_in come)) h.net.parts own differ receivers counts other_node other_inbox h.counted,
            )

    by_kind : (g : Event) → g ≡ c.event → AreCutBy p g boxes cut → Leaves p c.node g c.frame left → Result g
    by_kind (Sample k s w) is uncut l = ordinary (Sample k s w) is tt uncut
    by_kind (Recv k m) is uncut l = ordinary (Recv k m) is tt uncut
    by_kind (Tick k) is uncut l = ordinary (Tick k) is tt uncut
    by_kind (Lose k) is was_cut l =
        let here : k ≡ n = ap event_node is in
        let to_cut : AreSent al k left.sends cut new = subst (λ j. AreSent al j left.sends cut new) (sym here) sent in
        let same : rs ++ left.releases ≡ rs = ap (λ l. rs ++ l) l.silent ∙ append-nil rs in (
          subst (λ r. ExtendsBy (Lose k) (net_view_of p al (nodes_in gone) (whole_inboxes gone boxes) rs false) (net_view_of p (slice_set al k false) (nodes_in come) (whole_inboxes come new) r false)) (sym same)
              (extends_lost p plan al ps boxes rs h.net h.frames h.inbox_count h.inboxes h.out c old.0 old.1 old.2 moved worked k (sym is) left l cut new was_cut to_cut),
          subst (λ r. IsNet (net_view_of p (slice_set al k false) (nodes_in come) (whole_inboxes come new) r false)) (sym same)
              (net_lost_then p plan al ps boxes rs h.net h.frames h.inbox_count h.inboxes h.out c old.0 old.1 old.2 moved worked k (sym is) left l cut new was_cut to_cut),
          lost_inboxes p plan al ps boxes rs h.net h.frames h.inbox_count h.inboxes h.out c old.0 old.1 old.2 moved worked k (sym is) left l cut new was_cut to_cut,
          sent.inbox_count ∙ was_cut.inbox_count ∙ h.inbox_count,
          nothing_counted p (slice_set al k false) (nodes_in come) (whole_inboxes come new) (out_at (outs_in come)) counts h.counted.place_count,
        )

    result : Result c.event
    result = by_kind c.event refl is_cut leaves

    -- if a journal led to the net, that journal with the event leads to it now
    pub extends_all : ExtendsBy c.event (net_view_of p al (nodes_in ps) (whole_inboxes ps boxes) rs false) then
    extends_all journal r = result.0 journal (refits journal r)

    state_then : ◌≡◌ {A = State} (state_of then) (step p st c.event)
    state_then = (extends_all h.net.journal h.net.reached).state ∙ after_more p h.net.journal c.event ∙ ap (λ (s : State). step p s c.event) (sym h.net.reached.state)

    -- the net, with the node at home
    pub commit_net : IsNetOf (changed p c.event receivers) p (without_lost c.event al) come new (rs ++ left.releases) (with_loss c.event 0 losing) counts
    commit_net = record {
      net = result.1;
      out = subst (λ s. MayBeOut p s (out_at (outs_in come))) (sym state_then) (subst (MayBeOut p (step p st c.event)) (sym outs_then) (commit_less p st (out_at (outs_in ps)) c.event h.out out));
      frames = frames_then;
      inbox_count = result.3;
      inboxes = result.2;
      losing = losing_is c.event refl;
      counted = result.4;
    }

  -- the nodes that are to be counted anew
  pub changed_all : AreNodes p (changed p c.event receivers)
  changed_all = go c.event refl
    where
      told : AreNodes p receivers
      told = receivers_below (nodes p) left.sends sends_below

      sender : (k m : ℕ) → Recv k m ≡ c.event → m < nodes p
      sender k m is =
          let pending : is_pending (st.link m k) ≡ true = (and_parts (is_active p st k) (is_pending (st.link m k)) (subst (λ g. is_enabled p st g ≡ true) (sym is) moved.enabled)).1 in
          h.net.parts.senders m k (waits_where_some (inbox_at (whole_inboxes ps boxes) k) m (λ none. true≢false (sym pending ∙ ap (λ l. is_pending (map packet_of l)) none)))

      go : (g : Event) → g ≡ c.event → AreNodes p (changed p g receivers)
      go (Sample k s w) is = let lt : k < nodes p = subst (λ j. j < nodes p) (sym (ap event_node is)) node_below in (lt, told)
      go (Recv k m) is = (subst (λ j. j < nodes p) (sym (ap event_node is)) node_below, first_below p (fault p m) m receivers (sender k m is) told)
      go (Tick k) is = let lt : k < nodes p = subst (λ j. j < nodes p) (sym (ap event_node is)) node_below in (lt, told)
      go (Lose k) is = all_below (nodes p)

  -- ---- for lists that are equal to these

  at_event : (e : Event) → e ≡ c.event → (cut : List FrameInbox) → AreCutBy p e boxes cut → AreCutBy p c.event boxes cut
  at_event e is cut a = subst (λ g. AreCutBy p g boxes cut) is a

  at_node : (e : Event) → e ≡ c.event → (cut new : List FrameInbox) → AreSent al (event_node e) left.sends cut new → AreSent al (event_node c.event) left.sends cut new
  at_node e is cut new b = subst (λ g. AreSent al (event_node g) left.sends cut new) is b

  pub commit_to : (e : Event) → e ≡ c.event → (cut new : List FrameInbox) (am : List Bool) (qs : List PlaceView) (ts : List TreeRelease) (lost told : List ℕ)
      → AreCutBy p e boxes cut → AreSent al (event_node e) left.sends cut new → am ≡ without_lost e al → qs ≡ slice_set ps (event_node e) (at_home left.node) → ts ≡ rs ++ left.releases → lost ≡ with_loss e 0 losing → told ≡ receivers
      → IsNetOf (changed p e told) p am qs new ts lost counts
  commit_to e is cut new am qs ts lost told a b live home more out who =
      subst (λ g. IsNetOf (changed p g told) p am qs new ts lost counts) (sym is)
      (subst (λ w. IsNetOf (changed p c.event w) p am qs new ts lost counts) (sym who)
      (same_net (changed p c.event receivers) p (without_lost c.event al) am come qs new new (rs ++ left.releases) ts (with_loss c.event 0 losing) lost counts counts
      (live ∙ ap (λ g. without_lost g al) is) (home ∙ ap (λ g. slice_set ps (event_node g) (at_home left.node)) is) refl more (out ∙ ap (λ g. with_loss g 0 losing) is) refl
      (commit_net cut new (at_event e is cut a) (at_node e is cut new b))))

  pub changed_to : (e : Event) → e ≡ c.event → (told : List ℕ) → told ≡ receivers → AreNodes p (changed p e told)
  changed_to e is told who = subst (λ g. AreNodes p (changed p g told)) (sym is) (subst (λ w. AreNodes p (changed p c.event w)) (sym who) changed_all)

  pub committed_to : (e : Event) → e ≡ c.event → (cut new : List FrameInbox) (am : List Bool) (qs : List PlaceView) (ts : List TreeRelease) (room after : ℕ)
      → AreCutBy p e boxes cut → AreSent al (event_node e) left.sends cut new → am ≡ without_lost e al → qs ≡ slice_set ps (event_node e) (at_home left.node) → ts ≡ rs ++ left.releases
      → IsCommitted c.event (view p al rs ps boxes room) (view p am ts qs new after)
  committed_to e is cut new am qs ts room after a b live home more =
      subst (λ l. IsCommitted c.event (view p al rs ps boxes room) (view p l ts qs new after)) (sym (live ∙ ap (λ g. without_lost g al) is))
      (subst (λ l. IsCommitted c.event (view p al rs ps boxes room) (view p (without_lost c.event al) ts l new after)) (sym (home ∙ ap (λ g. slice_set ps (event_node g) (at_home left.node)) is))
      (subst (λ l. IsCommitted c.event (view p al rs ps boxes room) (view p (without_lost c.event al) l come new after)) (sym more)
      (record {
        plan = refl;
        reached = λ journal r.
            reached_like (net_view_of p (without_lost c.event al) (nodes_in come) (whole_inboxes come new) (rs ++ left.releases) false) (view p (without_lost c.event al) (rs ++ left.releases) come new after) (journal ++ c.event ∷ []) refl refl refl
            (extends_all cut new (at_event e is cut a) (at_node e is cut new b) journal
            (reached_like (view p al rs ps boxes room) (net_view_of p al (nodes_in ps) (whole_inboxes ps boxes) rs false) journal refl refl refl r));
        outs = outs_then;
      })))

-- what a claim left, by what it was taken apart into
pub leaves_are : (p : Plan) (c : ClaimView) (left : Left) → WasWorked p c → c.left ≡ Some left → Leaves p c.node c.event c.frame left
leaves_are p c left worked is = subst (Leaves p c.node c.event c.frame) (once c.left worked.left left worked.is is) worked.leaves
  where
    once : (o : Option Left) (y z : Left) → o ≡ Some y → o ≡ Some z → y ≡ z
    once o y z e f = cc

-- the room for it
pub room_is : (v : NetView) (c : ClaimView) (left : Left) → IsPrepared v c → c.left ≡ Some left → HaveRoom (event_node c.event) left.sends v.inboxes × (length left.releases ≤ v.room)
room_is v c left room is = subst (λ l. HaveRoom (event_node c.event) l.sends v.inboxes × (length l.releases ≤ v.room)) (once c.left room.left left room.is is) (room.sends, room.releases)
  where
    once : (o : Option Left) (y z : Left) → o ≡ Some y → o ≡ Some z → y ≡ z
    once o y z e f = cc

-- room that is seen in the whole inboxes is room in the inboxes that were cut
pub room_stays : (p : Plan) (e : Event) (ps : List PlaceView) (old new : List FrameInbox) (n : ℕ) (sends : List (ℕ × List ℕ)) → length ps ≡ length old → AreCutBy p e old new → HaveRoom n sends (whole_inboxes ps old) → HaveRoom n sends new
room_stays p e ps old new n sends len cut room b = let a = room b in let k = same b in let g = grows e cut b in omega (arith, a, k, g)
  where
    same : (b : ℕ) → room_at (whole_inboxes ps old) b n ≡ room_at old b n
    same b = ap (λ (w : FrameInbox). room_for w n) (full_whole ps old b len)

    grows : (g : Event) → AreCutBy p g old new → (b : ℕ) → room_at old b n ≤ room_at new b n
    grows (Sample k s w) is b = let q : room_at new b n ≡ room_at old b n = ap (λ l. room_at l b n) is in omega (arith, q)
    grows (Recv k m) is b = let q : room_at new b n ≡ room_at old b n = ap (λ l. room_at l b n) is in omega (arith, q)
    grows (Tick k) is b = let q : room_at new b n ≡ room_at old b n = ap (λ l. room_at l b n) is in omega (arith, q)
    grows (Lose k) is b = elim (cases_Bool (nat_lt b (nodes p))) [
      | inl t ↦ (is.done b (ltb-true b (nodes p) t)).grows n
      | inr f ↦ let q : room_at new b n ≡ room_at old b n = ap (λ (w : FrameInbox). room_for w n) (is.rest b (ltb-false b (nodes p) f)) in omega (arith, q)
    ]
