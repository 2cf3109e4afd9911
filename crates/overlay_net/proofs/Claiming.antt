-- An event is claimed: its node goes out with the frame that the event receives, and the net is seen as before.
use Rattle.std.proofs.Common.{◌≡◌, ◌≢◌, ◌∙◌, ◌<◌, ◌^◌, ℕ, zero, suc, Bool, true, false, ◌==◌, cond, List, [], ◌∷◌, map, length, slice_get, slice_set, Option, Some, None, refl, sym, ap, subst, inl, inr, eqb-true, arith}
use Rattle.std.proofs.lemmas.Bool.{and_parts, cases_Bool, cond_both, eqb-false, true≢false}
use Rattle.std.proofs.lemmas.List.{length-set}
use Rattle.std.proofs.lemmas.Option.{none-some}
use Rattle.std.specs.List.{AllByRecursion}
use Rattle.stat_plan.specs.Invariants.{IsPlan}
use Rattle.stat_plan.specs.Plans.{Plan, nodes}
use Rattle.overlay_event.specs.declared.event.Event.{Event}
use Rattle.overlay_event.specs.declared.event.Event.TheVariants.{Sample, Recv, Tick, Lose}
use Rattle.overlay_event.specs.Events.{event_node}
use Rattle.overlay_core.specs.Independent.{first_from, taken}
use Rattle.overlay_core.specs.LinkInvariant.{LinkInvariant}
use Rattle.overlay_core.specs.Machine.{State, is_enabled}
use Rattle.stat_plan.specs.Machine.Overlays.{is_pending}
use Rattle.overlay_core.specs.Nodes.{Node}
use Rattle.overlay_core.specs.Runs.{after}
use Rattle.overlay_core.specs.TreeReleases.{TreeRelease}
use Rattle.stat_plan.proofs.PlanFacts.{plan_facts}
use Rattle.count_tree.proofs.Counted.{set_else, set_here}
use Rattle.overlay_core.proofs.Steps.{legal_sound}
use Rattle.event_claims.specs.Claims.{MayBeClaimed, MayBeOut, Outs, claimed}
use Rattle.event_claims.proofs.Claims.{claim_more}
use Rattle.overlay_node.specs.Frames.{IsFrame, packet_of}
use Rattle.overlay_node.specs.NodeViews.{NodeView, node_of, received_with}
use Rattle.node_inbox.specs.Inboxes.{IsInbox, queue_of}
use Rattle.node_inbox.specs.Sends.{inbox_at}
use Rattle.overlay_net.specs.Inboxes.{FrameInbox}
use Rattle.overlay_net.specs.Claims.{ClaimView, IsMovedOut, MayBeHandled, MayBeWorked}
use Rattle.overlay_net.specs.Events.{FrontCounts, IsNet}
use Rattle.overlay_net.specs.Nets.{net_view_of, node_at, state_with}
use Rattle.overlay_net.specs.Places.{HasFrame, HaveFrames, PlaceView, at_home, away, nodes_in, out_at, outs_in, whole_inboxes, with_frame}
use Rattle.overlay_net.specs.Sends.{CanTake, IsTaken}
use Rattle.overlay_net.proofs.Fronts.{put_queue, whole_is_inbox}
use Rattle.overlay_net.proofs.NextEvents.{can_take, event_below, may_handle}
use Rattle.overlay_net.proofs.Offers.{node_there}
use Rattle.overlay_net.proofs.PartsInvariant.{taken_all, taken_kept, waits_where_some}
use Rattle.overlay_net.proofs.Refits.{AreLike, nodes_set, parts_like, reached_like, set_same, state_like}
use Rattle.overlay_net.proofs.Refitted.{as_many, place_count}
use Rattle.overlay_net.proofs.SmallCounts.{small_count}
use Rattle.overlay_net.proofs.Whole.{length_whole, node_at_place, out_at_place, out_else, out_here, whole_at, whole_else, whole_here, whole_view, frame_at}

-- what is taken from a node's inbox, which is at home, is taken from the whole one
whole_taken : (ps : List PlaceView) (e : Event) (f : Option (List ℕ)) (old new : List FrameInbox) → length ps ≡ length old → out_at (outs_in ps) (event_node e) ≡ None → ((b : ℕ) → IsInbox (inbox_at old b))
    → IsTaken old e f new → IsTaken (whole_inboxes ps old) e f (whole_inboxes ps new)
whole_taken ps (Sample k s w) f old new len home are taken = (taken.0, ap (whole_inboxes ps) taken.1)
whole_taken ps (Recv k m) None old new len home are taken = taken
whole_taken ps (Recv k m) (Some q) old new len home are taken = record {
  first = ap (λ w. queue_of w m) old_is ∙ taken.first ∙ ap (λ w. q ∷ queue_of w m) (sym new_is);
  rest = λ a f. ap (λ w. queue_of w a) new_is ∙ taken.rest a f ∙ ap (λ w. queue_of w a) (sym old_is);
  others = λ b f. whole_view ps new b many ∙ ap (with_frame (out_at (outs_in ps) b) (frame_at ps b)) (taken.others b f) ∙ sym (whole_view ps old b len);
  inbox_count = length_whole ps new many ∙ taken.inbox_count ∙ sym (length_whole ps old len);
  inboxes = λ h b. subst IsInbox (sym (whole_view ps new b many)) (whole_is_inbox (out_at (outs_in ps) b) (frame_at ps b) (inbox_at new b) (taken.inboxes are b));
}
  where
    many : length ps ≡ length new
    many = len ∙ sym taken.inbox_count

    old_is : inbox_at (whole_inboxes ps old) k ≡ inbox_at old k
    old_is = whole_view ps old k len ∙ ap (λ o. with_frame o (frame_at ps k) (inbox_at old k)) home

    new_is : inbox_at (whole_inboxes ps new) k ≡ inbox_at new k
    new_is = whole_view ps new k many ∙ ap (λ o. with_frame o (frame_at ps k) (inbox_at new k)) home
whole_taken ps (Tick k) f old new len home are taken = (taken.0, ap (whole_inboxes ps) taken.1)
whole_taken ps (Lose k) f old new len home are taken = (taken.0, ap (whole_inboxes ps) taken.1)

-- the packet that was taken is the machine's
packet_taken : (p : Plan) (al : List Bool) (xs : List NodeView) (rs : List TreeRelease) (e : Event) (f : Option (List ℕ)) (ib ic : List FrameInbox) → IsTaken ib e f ic → received_with e f ≡ taken (state_with p al xs ib rs) e
packet_taken p al xs rs (Sample k s w) f ib ic h = refl
packet_taken p al xs rs (Recv k m) None ib ic h = absurd h
packet_taken p al xs rs (Recv k m) (Some q) ib ic h = sym (ap (λ l. first_from m (map packet_of l)) h.first)
packet_taken p al xs rs (Tick k) f ib ic h = refl
packet_taken p al xs rs (Lose k) f ib ic h = refl

-- a node that goes out has its frame
has_taken : (e : Event) (f : Option (List ℕ)) (ib ic : List FrameInbox) → IsTaken ib e f ic → HasFrame (Some e) f
has_taken (Sample k s w) f ib ic h = h.0
has_taken (Recv k m) None ib ic h = absurd h
has_taken (Recv k m) (Some q) ib ic h = (q, refl)
has_taken (Tick k) f ib ic h = h.0
has_taken (Lose k) f ib ic h = h.0

module _ (p : Plan) (plan : IsPlan p) (al : List Bool) (ps : List PlaceView) (boxes : List FrameInbox) (rs : List TreeRelease)
    (net : IsNet (net_view_of p al (nodes_in ps) (whole_inboxes ps boxes) rs false))
    (frames : HaveFrames ps) (count : length boxes ≡ nodes p) (inboxes : (n : ℕ) → IsInbox (inbox_at boxes n))
    (out : MayBeOut p (state_with p al (nodes_in ps) (whole_inboxes ps boxes) rs) (out_at (outs_in ps)))
    (e : Event) (may : MayBeClaimed p (state_with p al (nodes_in ps) (whole_inboxes ps boxes) rs) (out_at (outs_in ps)) e) where
  abbrev st : State
  st = state_with p al (nodes_in ps) (whole_inboxes ps boxes) rs

  abbrev n : ℕ
  n = event_node e

  many : length ps ≡ length boxes
  many = as_many p al ps boxes rs net frames count inboxes

  pub sound : LinkInvariant p st
  sound = subst (LinkInvariant p) (sym net.reached.state) (legal_sound p net.journal (plan_facts p plan) net.reached.legal)

  -- its node is one of the plan
  pub claim_below : n < nodes p
  claim_below = event_below p plan al (nodes_in ps) (whole_inboxes ps boxes) rs net.parts sound e may.enabled

  pub claim_within : n < length ps
  claim_within = let lt = claim_below in let len = place_count p al ps boxes rs net frames count inboxes in omega (arith, lt, len)

  box_within : n < length boxes
  box_within = let lt = claim_below in omega (arith, lt, count)

  -- the place of the node, which is at home
  pub home_place : (x : NodeView) × (slice_get ps n ≡ Some (at_home x))
  home_place = go (slice_get ps n) refl
    where
      go : (o : Option PlaceView) → slice_get ps n ≡ o → (x : NodeView) × (slice_get ps n ≡ Some (at_home x))
      go None at = absurd (past ps n claim_within at)
        where
          past : (qs : List PlaceView) (k : ℕ) → k < length qs → slice_get qs k ≡ None → ⊥
          past [] k lt is = omega (arith, lt)
          past (y ∷ ys) zero lt is = none-some y (sym is)
          past (y ∷ ys) (suc k) lt is = past ys k (omega (arith, lt)) is
      go (Some y) at =
          let home : y.out ≡ None = sym (out_at_place ps n y at) ∙ may.home in
          let none : y.frame ≡ None = subst (λ o. HasFrame o y.frame) home (frames n y at) in
          (y.node, at ∙ ap Some (λ i. record { node = y.node; out = home i; frame = none i }))

  -- what it receives waits
  pub can_be_taken : CanTake boxes e
  can_be_taken = go e refl (can_take p plan al (nodes_in ps) (whole_inboxes ps boxes) rs net.parts sound e may.enabled)
    where
      go : (g : Event) → g ≡ e → CanTake (whole_inboxes ps boxes) g → CanTake boxes g
      go (Sample k s w) is can = tt
      go (Recv k m) is can =
          let here : k ≡ n = ap event_node is in
          let lt : k < length boxes = let l = box_within in omega (arith, l, here) in
          let home : out_at (outs_in ps) k ≡ None = ap (out_at (outs_in ps)) here ∙ may.home in
          let same : inbox_at (whole_inboxes ps boxes) k ≡ inbox_at boxes k = whole_view ps boxes k many ∙ ap (λ o. with_frame o (frame_at ps k) (inbox_at boxes k)) home in
          (lt, λ none. can.1 (ap (λ w. queue_of w m) same ∙ none))
      go (Tick k) is can = tt
      go (Lose k) is can = tt

  -- the sender of what it receives is a node of the plan
  pub sender_below : (k m : ℕ) → Recv k m ≡ e → m < nodes p
  sender_below k m is =
      let pending : is_pending (st.link m k) ≡ true = (and_parts _ _ (subst (λ g. is_enabled p st g ≡ true) (sym is) may.enabled)).1 in
      net.parts.senders m k (waits_where_some (inbox_at (whole_inboxes ps boxes) k) m (λ none. true≢false (sym pending ∙ ap (λ l. is_pending (map packet_of l)) none)))

  module _ (f : Option (List ℕ)) (new : List FrameInbox) (took : IsTaken boxes e f new) (x : NodeView) (at : slice_get ps n ≡ Some (at_home x)) where
    -- the places, with the node out
    abbrev pub gone : List PlaceView
    gone = slice_set ps (event_node e) (away e x f)

    took_whole : IsTaken (whole_inboxes ps boxes) e f (whole_inboxes ps new)
    took_whole = whole_taken ps e f boxes new many may.home inboxes took

    pub new_count : length new ≡ nodes p
    new_count = taken_all boxes new e f took ∙ count

    pub new_inboxes : (b : ℕ) → IsInbox (inbox_at new b)
    new_inboxes = taken_kept boxes new e f took inboxes

    new_many : length ps ≡ length new
    new_many = many ∙ sym (taken_all boxes new e f took)

    -- the nodes are seen as before
    pub nodes_stay : nodes_in gone ≡ nodes_in ps
    nodes_stay = nodes_set ps n (away e x f) ∙ set_same (nodes_in ps) n x (node_at_place ps n (at_home x) at)

    queues_at : (g : Event) (h : Option (List ℕ)) → g ≡ e → h ≡ f → IsTaken boxes g h new → (a : ℕ) → queue_of (with_frame (Some g) h (inbox_at new (event_node g))) a ≡ queue_of (inbox_at boxes (event_node g)) a
    queues_at (Sample k s w) h is same t a = ap (λ l. queue_of (inbox_at l k) a) t.1
    queues_at (Recv k m) None is same t a = absurd t
    queues_at (Recv k m) (Some q) is same t a = put_queue m q (inbox_at new k) a (new_inboxes k).increasing ∙ go (m == a) refl
      where
        go : (u : Bool) → (m == a) ≡ u → cond u (q ∷ queue_of (inbox_at new k) a) (queue_of (inbox_at new k) a) ≡ queue_of (inbox_at boxes k) a
        go true u = subst (λ j. q ∷ queue_of (inbox_at new k) j ≡ queue_of (inbox_at boxes k) j) (eqb-true m a u) (sym t.first)
        go false u = t.rest a (turned (a == m) refl)
          where
            turned : (v : Bool) → (a == m) ≡ v → v ≡ false
            turned true v = absurd (eqb-false m a u (sym (eqb-true a m v)))
            turned false v = refl
    queues_at (Tick k) h is same t a = ap (λ l. queue_of (inbox_at l k) a) t.1
    queues_at (Lose k) h is same t a = ap (λ l. queue_of (inbox_at l k) a) t.1

    -- other inboxes are the same
    others_at : (b : ℕ) → (b == n) ≡ false → inbox_at new b ≡ inbox_at boxes b
    others_at b f' = go e f took f'
      where
        go : (g : Event) (h : Option (List ℕ)) → IsTaken boxes g h new → (b == event_node g) ≡ false → inbox_at new b ≡ inbox_at boxes b
        go (Sample k s w) h t u = ap (λ l. inbox_at l b) t.1
        go (Recv k m) None t u = absurd t
        go (Recv k m) (Some q) t u = t.others b u
        go (Tick k) h t u = ap (λ l. inbox_at l b) t.1
        go (Lose k) h t u = ap (λ l. inbox_at l b) t.1

    pub queues_stay : (b a : ℕ) → queue_of (inbox_at (whole_inboxes gone new) b) a ≡ queue_of (inbox_at (whole_inboxes ps boxes) b) a
    queues_stay b a = elim (cases_Bool (b == n)) [
      | inl t ↦ subst (λ k. queue_of (inbox_at (whole_inboxes gone new) k) a ≡ queue_of (inbox_at (whole_inboxes ps boxes) k) a) (sym (eqb-true b n t))
          (ap (λ w. queue_of w a) (whole_here ps new n (away e x f) claim_within (let l = claim_within in omega (arith, l, new_many)))
          ∙ queues_at e f refl refl took a
          ∙ ap (λ w. queue_of w a) (sym (whole_at ps boxes n (at_home x) at box_within)))
      | inr u ↦
          ap (λ w. queue_of w a) (whole_else ps new n b (away e x f) (eqb-false b n u)
          ∙ whole_view ps new b new_many ∙ ap (with_frame (out_at (outs_in ps) b) (frame_at ps b)) (others_at b u) ∙ sym (whole_view ps boxes b many))
    ]

    -- the inbox of another node is the same
    pub inbox_stays : (b : ℕ) → b ≢ n → inbox_at (whole_inboxes gone new) b ≡ inbox_at (whole_inboxes ps boxes) b
    inbox_stays b ne =
        whole_else ps new n b (away e x f) ne
        ∙ whole_view ps new b new_many ∙ ap (with_frame (out_at (outs_in ps) b) (frame_at ps b)) (others_at b (apart (b == n) refl)) ∙ sym (whole_view ps boxes b many)
      where
        apart : (t : Bool) → (b == n) ≡ t → t ≡ false
        apart true t = absurd (ne (eqb-true b n t))
        apart false t = refl

    gone_many : length gone ≡ length new
    gone_many = length-set ps n (away e x f) ∙ new_many

    are_inboxes : (b : ℕ) → IsInbox (inbox_at (whole_inboxes gone new) b)
    are_inboxes b = subst IsInbox (sym (whole_view gone new b gone_many)) (whole_is_inbox (out_at (outs_in gone) b) (frame_at gone b) (inbox_at new b) (new_inboxes b))

    like : AreLike (whole_inboxes ps boxes) (whole_inboxes gone new)
    like b a = ap (map packet_of) (queues_stay b a)

    -- the state is the same
    pub state_stays : ◌≡◌ {A = State} (state_with p al (nodes_in gone) (whole_inboxes gone new) rs) st
    state_stays = state_like p al (nodes_in ps) (nodes_in gone) (whole_inboxes ps boxes) (whole_inboxes gone new) rs (λ k. ap (λ xs. node_at p xs k) nodes_stay) like

    -- it is a net
    pub net_stays : IsNet (net_view_of p al (nodes_in gone) (whole_inboxes gone new) rs false)
    net_stays = record {
      journal = net.journal;
      reached = reached_like (net_view_of p al (nodes_in ps) (whole_inboxes ps boxes) rs false) (net_view_of p al (nodes_in gone) (whole_inboxes gone new) rs false) net.journal refl state_stays refl net.reached;
      parts = parts_like p al (nodes_in ps) (nodes_in gone) (whole_inboxes ps boxes) (whole_inboxes gone new) net.parts (ap length nodes_stay)
          (length_whole gone new gone_many ∙ taken_all boxes new e f took ∙ sym (length_whole ps boxes many))
          (λ k y is. net.parts.node k y (ap (λ xs. slice_get xs k) (sym nodes_stay) ∙ is)) like
          (λ b a. subst (AllByRecursion (IsFrame p)) (sym (queues_stay b a)) (net.parts.packets a b)) are_inboxes;
      front = subst (λ xs. FrontCounts p xs rs) (sym nodes_stay) net.front;
    }

    -- who is out with a frame has it
    pub frames_stay : HaveFrames gone
    frames_stay k y is = elim (cases_Bool (k == n)) [
      | inl t ↦
          let same : away e x f ≡ y = once (slice_get gone n) (away e x f) y (set_here ps n (away e x f) claim_within) (ap (slice_get gone) (sym (eqb-true k n t)) ∙ is) in
          subst (λ z. HasFrame z.out z.frame) same (has_taken e f boxes new took)
      | inr u ↦ frames k y (sym (set_else ps n k (away e x f) (eqb-false k n u)) ∙ is)
    ]
      where
        once : (o : Option PlaceView) (y z : PlaceView) → o ≡ Some y → o ≡ Some z → y ≡ z
        once o y z e f = cc

    -- the node is out with the event, and the others as before
    pub outs_are : ◌≡◌ {A = Outs} (out_at (outs_in gone)) (claimed (out_at (outs_in ps)) e)
    outs_are = λ i k. each k i
      where
        each : (k : ℕ) → out_at (outs_in gone) k ≡ claimed (out_at (outs_in ps)) e k
        each k = cond_both {A = Option Event} (k == n) (Some e) (out_at (outs_in ps) k) (λ o. out_at (outs_in gone) k ≡ o)
            (λ t. ap (out_at (outs_in gone)) (eqb-true k n t) ∙ out_here ps n (away e x f) claim_within)
            (λ u. out_else ps n k (away e x f) (eqb-false k n u))

    pub out_then : MayBeOut p (state_with p al (nodes_in gone) (whole_inboxes gone new) rs) (out_at (outs_in gone))
    out_then =
        subst (λ s. MayBeOut p s (out_at (outs_in gone))) (sym state_stays)
        (subst (MayBeOut p st) (sym outs_are) (claim_more p st (out_at (outs_in ps)) e out may))

    -- what was moved out is what the state has, and may be worked on
    abbrev claim : ClaimView
    claim = record { event = e; node = x; frame = f; left = None }

    number : x.number ≡ n
    number = (net.parts.node n x (node_at_place ps n (at_home x) at)).0

    few : x.count < 2 ^ 62
    few =
        let there : st.node n ≡ node_of x = node_there p (nodes_in ps) n x (node_at_place ps n (at_home x) at) in
        let same : (after p net.journal).node n ≡ node_of x = ap (λ (s : State). s.node n) (sym net.reached.state) ∙ there in
        subst (λ (y : Node). y.count < 2 ^ 62) same (small_count p net.journal e n plan net.reached.legal (subst (λ (s : State). is_enabled p s e ≡ true) net.reached.state may.enabled))

    handle : (g : Event) (h : Option (List ℕ)) → g ≡ e → h ≡ f → IsTaken (whole_inboxes ps boxes) g h (whole_inboxes ps new) → MayBeHandled p x g h
    handle (Sample k s w) h is same t = may_handle p plan al (nodes_in ps) (whole_inboxes ps boxes) rs net.parts sound (whole_inboxes ps new) (Sample k s w) x h (subst (λ e'. is_enabled p st e' ≡ true) (sym is) may.enabled) tt t (subst (λ e'. slice_get (nodes_in ps) (event_node e') ≡ Some x) (sym is) (node_at_place ps n (at_home x) at))
    handle (Recv k m) h is same t = may_handle p plan al (nodes_in ps) (whole_inboxes ps boxes) rs net.parts sound (whole_inboxes ps new) (Recv k m) x h (subst (λ e'. is_enabled p st e' ≡ true) (sym is) may.enabled) tt t (subst (λ e'. slice_get (nodes_in ps) (event_node e') ≡ Some x) (sym is) (node_at_place ps n (at_home x) at))
    handle (Tick k) h is same t = may_handle p plan al (nodes_in ps) (whole_inboxes ps boxes) rs net.parts sound (whole_inboxes ps new) (Tick k) x h (subst (λ e'. is_enabled p st e' ≡ true) (sym is) may.enabled) tt t (subst (λ e'. slice_get (nodes_in ps) (event_node e') ≡ Some x) (sym is) (node_at_place ps n (at_home x) at))
    handle (Lose k) h is same t = (t.0, subst (λ e'. event_node e' < nodes p) (sym is) claim_below)

    pub claim_worked : MayBeWorked p claim
    claim_worked = record {
      number = number;
      fits = (net.parts.node n x (node_at_place ps n (at_home x) at)).1;
      handle = handle e f refl refl took_whole;
      within_limit = few;
    }

    pub claim_moved : IsMovedOut p st claim
    claim_moved = record {
      enabled = may.enabled;
      node = sym (node_there p (nodes_in ps) n x (node_at_place ps n (at_home x) at));
      packet = packet_taken p al (nodes_in ps) rs e f (whole_inboxes ps boxes) (whole_inboxes ps new) took_whole;
      counts = λ top. net.front x (ap (slice_get (nodes_in ps)) (sym top) ∙ node_at_place ps n (at_home x) at);
    }
