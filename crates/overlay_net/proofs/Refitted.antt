-- A claim that fits its net: the net is reached as well with the node and the frame of the claim in place of those that were seen there.
use Rattle.std.proofs.Common.{◌≡◌, ◌≢◌, ◌∙◌, ◌<◌, ℕ, Bool, true, false, ◌==◌, cond, List, [], ◌∷◌, ◌++◌, map, length, slice_get, slice_set, Option, Some, None, refl, sym, ap, subst, inl, inr, eqb-true, eq-eqb, arith}
use Rattle.std.proofs.lemmas.Bool.{cases_Bool, eqb-false}
use Rattle.std.proofs.lemmas.List.{length-map, length-set, map-append}
use Rattle.std.proofs.lemmas.Option.{slice_get_within}
use Rattle.std.specs.List.{AllByRecursion}
use Rattle.stat_plan.specs.Plans.{Plan, nodes, front}
use Rattle.count_tree.proofs.Counted.{set_else, set_here}
use Rattle.overlay_event.specs.declared.event.Event.{Event}
use Rattle.overlay_event.specs.declared.event.Event.TheVariants.{Sample, Recv, Tick, Lose}
use Rattle.overlay_event.specs.Events.{event_node}
use Rattle.overlay_core.specs.Independent.{first_from, taken}
use Rattle.overlay_core.specs.Machine.{State, start_node}
use Rattle.overlay_core.specs.Nodes.{Packet}
use Rattle.overlay_core.specs.TreeReleases.{TreeRelease, bare_releases}
use Rattle.overlay_node.specs.Frames.{IsFrame, packet_of}
use Rattle.overlay_node.specs.NodeViews.{Counts, IsNodeOf, NodeView, node_of, received_with}
use Rattle.node_inbox.specs.Inboxes.{IsInbox, queue_of}
use Rattle.node_inbox.specs.Sends.{inbox_at}
use Rattle.overlay_net.specs.Inboxes.{FrameInbox}
use Rattle.overlay_net.specs.Claims.{ClaimView, IsMovedOut, MayBeHandled, MayBeWorked}
use Rattle.overlay_net.specs.Events.{FrontCounts, IsNet}
use Rattle.overlay_net.specs.Nets.{net_view_of, node_at, state_with}
use Rattle.overlay_net.specs.Places.{HasFrame, HaveFrames, PlaceView, away, nodes_in, whole_inboxes, with_frame}
use Rattle.overlay_net.proofs.Fronts.{in_hand, whole_is_inbox, whole_queue}
use Rattle.overlay_net.proofs.PartsInvariant.{all_append}
use Rattle.overlay_net.proofs.Refits.{AreLike, AreNodesLike, nodes_set, parts_like, reached_like, state_like}
use Rattle.overlay_net.proofs.Whole.{length_whole, node_at_place, whole_at, whole_else, whole_here}

-- what is true of two lists together is true of the second
pub all_behind : {X : Type 0} (R : X → Type 0) (xs ys : List X) → AllByRecursion R (xs ++ ys) → AllByRecursion R ys
all_behind R [] ys h = h
all_behind R (x ∷ xs) ys h = all_behind R xs ys h.1

-- a packet with its sender
abbrev packet_from : ℕ → Packet → Option (ℕ × Packet)
packet_from m q = Some (m, q)

some_pair : (m : ℕ) (q r : Packet) → packet_from m q ≡ packet_from m r → q ≡ r
some_pair m q r e = ap (λ (o : Option (ℕ × Packet)). elim o as (λ _. Packet) [ None ↦ q | (Some v) ↦ v.1 ]) e

no_pair : (m : ℕ) (r : Packet) (o : Option (ℕ × Packet)) → o ≡ None → o ≡ packet_from m r → ⊥
no_pair m r o none e = cc

-- frames that bring the same packet are seen as the same in a node's hands
hands_like : (e : Event) (f g : Option (List ℕ)) (a : ℕ) → HasFrame (Some e) g → received_with e f ≡ received_with e g → map packet_of (in_hand (Some e) f a) ≡ map packet_of (in_hand (Some e) g a)
hands_like (Sample n s w) f g a has same = refl
hands_like (Recv n m) None g a has same = absurd (no_pair m (packet_of has.0) None refl (same ∙ ap (received_with (Recv n m)) has.1))
hands_like (Recv n m) (Some f) g a has same =
    let one : packet_of f ≡ packet_of has.0 = some_pair m (packet_of f) (packet_of has.0) (same ∙ ap (received_with (Recv n m)) has.1) in
    go (m == a) one ∙ ap (λ o. map packet_of (in_hand (Some (Recv n m)) o a)) (sym has.1)
  where
    go : (t : Bool) → packet_of f ≡ packet_of has.0 → map packet_of (cond t (f ∷ []) []) ≡ map packet_of (cond t (has.0 ∷ []) [])
    go true one = ap (λ q. q ∷ []) one
    go false one = refl
hands_like (Tick n) f g a has same = refl
hands_like (Lose n) f g a has same = refl

-- the frame that a node took along is the first on its link
taken_out : (p : Plan) (st : State) (e : Event) (g : Option (List ℕ)) (rest : ℕ → List (List ℕ)) → HasFrame (Some e) g
    → ((m : ℕ) → st.link m (event_node e) ≡ map packet_of (in_hand (Some e) g m ++ rest m)) → received_with e g ≡ taken st e
taken_out p st (Sample n s w) g rest has links = refl
taken_out p st (Recv n m) g rest has links =
    ap (received_with (Recv n m)) has.1
    ∙ ap (λ t. first_from m (map packet_of (cond t (has.0 ∷ []) [] ++ rest m))) (sym (eq-eqb m m refl))
    ∙ ap (λ o. first_from m (map packet_of (in_hand (Some (Recv n m)) o m ++ rest m))) (sym has.1)
    ∙ ap (first_from m) (sym (links m))
taken_out p st (Tick n) g rest has links = refl
taken_out p st (Lose n) g rest has links = refl

-- a frame that may be handled is one of the plan
handled_frame : (p : Plan) (x : NodeView) (e : Event) (f : Option (List ℕ)) (a : ℕ) → MayBeHandled p x e f → AllByRecursion (IsFrame p) (in_hand (Some e) f a)
handled_frame p x (Sample n s w) f a may = tt
handled_frame p x (Recv n m) None a may = tt
handled_frame p x (Recv n m) (Some f) a may = go (m == a)
  where
    go : (t : Bool) → AllByRecursion (IsFrame p) (cond t (f ∷ []) [])
    go true = (may.1, tt)
    go false = tt
handled_frame p x (Tick n) f a may = tt
handled_frame p x (Lose n) f a may = tt

module _ (p : Plan) (al : List Bool) (ps : List PlaceView) (boxes : List FrameInbox) (rs : List TreeRelease)
    (net : IsNet (net_view_of p al (nodes_in ps) (whole_inboxes ps boxes) rs false))
    (frames : HaveFrames ps) (count : length boxes ≡ nodes p) (inboxes : (n : ℕ) → IsInbox (inbox_at boxes n)) where
  abbrev pub st : State
  st = state_with p al (nodes_in ps) (whole_inboxes ps boxes) rs

  -- there are as many places as inboxes
  pub place_count : length ps ≡ nodes p
  place_count = sym (length-map ps (λ x. x.node)) ∙ net.parts.node_count

  pub as_many : length ps ≡ length boxes
  as_many = place_count ∙ sym count

  -- a claim's place, its node and its frame
  module _ (c : ClaimView) (old : PlaceView) (at : slice_get ps (event_node c.event) ≡ Some old) (out : old.out ≡ Some c.event) (moved : IsMovedOut p st c) (worked : MayBeWorked p c) where
    abbrev n : ℕ
    n = event_node c.event

    -- the places, with the claim's node and frame
    abbrev pub refitted : List PlaceView
    refitted = slice_set ps (event_node c.event) (away c.event c.node c.frame)

    pub below : n < length ps
    below = slice_get_within ps n old at

    pub box_below : n < length boxes
    box_below = let lt = below in let len = as_many in omega (arith, lt, len)

    -- the frame that is seen at its place
    has : HasFrame (Some c.event) old.frame
    has = subst (λ o. HasFrame o old.frame) out (frames n old at)

    was_queue : (a : ℕ) → queue_of (inbox_at (whole_inboxes ps boxes) n) a ≡ in_hand (Some c.event) old.frame a ++ queue_of (inbox_at boxes n) a
    was_queue a =
        ap (λ w. queue_of w a) (whole_at ps boxes n old at box_below ∙ ap (λ o. with_frame o old.frame (inbox_at boxes n)) out)
        ∙ whole_queue (Some c.event) old.frame (inbox_at boxes n) a (inboxes n)

    now_queue : (a : ℕ) → queue_of (inbox_at (whole_inboxes refitted boxes) n) a ≡ in_hand (Some c.event) c.frame a ++ queue_of (inbox_at boxes n) a
    now_queue a =
        ap (λ w. queue_of w a) (whole_here ps boxes n (away c.event c.node c.frame) below box_below)
        ∙ whole_queue (Some c.event) c.frame (inbox_at boxes n) a (inboxes n)

    -- both frames bring the same packet
    same_packet : received_with c.event c.frame ≡ received_with c.event old.frame
    same_packet = moved.packet ∙ sym (taken_out p st c.event old.frame (queue_of (inbox_at boxes n)) has (λ m. ap (map packet_of) (was_queue m)))

    queues_here : (a : ℕ) → map packet_of (queue_of (inbox_at (whole_inboxes refitted boxes) n) a) ≡ map packet_of (queue_of (inbox_at (whole_inboxes ps boxes) n) a)
    queues_here a =
        ap (map packet_of) (now_queue a)
        ∙ map-append packet_of (in_hand (Some c.event) c.frame a) (queue_of (inbox_at boxes n) a)
        ∙ ap (λ l. l ++ map packet_of (queue_of (inbox_at boxes n) a)) (hands_like c.event c.frame old.frame a has same_packet)
        ∙ sym (map-append packet_of (in_hand (Some c.event) old.frame a) (queue_of (inbox_at boxes n) a))
        ∙ sym (ap (map packet_of) (was_queue a))

    -- a fact on each inbox, by the one of the claim's node and the others
    by_inbox : (P : ℕ → Type 0) → P n → ((b : ℕ) → b ≢ n → P b) → (b : ℕ) → P b
    by_inbox P here else b = elim (cases_Bool (b == n)) [
      | inl t ↦ subst P (sym (eqb-true b n t)) here
      | inr f ↦ else b (eqb-false b n f)
    ]

    else_same : (b : ℕ) → b ≢ n → inbox_at (whole_inboxes refitted boxes) b ≡ inbox_at (whole_inboxes ps boxes) b
    else_same b ne = whole_else ps boxes n b (away c.event c.node c.frame) ne

    pub queues_like : AreLike (whole_inboxes ps boxes) (whole_inboxes refitted boxes)
    queues_like = by_inbox (λ b. (a : ℕ) → map packet_of (queue_of (inbox_at (whole_inboxes refitted boxes) b) a) ≡ map packet_of (queue_of (inbox_at (whole_inboxes ps boxes) b) a))
        queues_here (λ b ne a. ap (λ w. map packet_of (queue_of w a)) (else_same b ne))

    queues_fit : (b a : ℕ) → AllByRecursion (IsFrame p) (queue_of (inbox_at (whole_inboxes refitted boxes) b) a)
    queues_fit = by_inbox (λ b. (a : ℕ) → AllByRecursion (IsFrame p) (queue_of (inbox_at (whole_inboxes refitted boxes) b) a))
        (λ a. subst (AllByRecursion (IsFrame p)) (sym (now_queue a)) (all_append (IsFrame p) (in_hand (Some c.event) c.frame a) (queue_of (inbox_at boxes n) a) (handled_frame p c.node c.event c.frame a worked.handle)
        (all_behind (IsFrame p) (in_hand (Some c.event) old.frame a) (queue_of (inbox_at boxes n) a) (subst (AllByRecursion (IsFrame p)) (was_queue a) (net.parts.packets a n)))))
        (λ b ne a. subst (λ w. AllByRecursion (IsFrame p) (queue_of w a)) (sym (else_same b ne)) (net.parts.packets a b))

    are_inboxes : (b : ℕ) → IsInbox (inbox_at (whole_inboxes refitted boxes) b)
    are_inboxes = by_inbox (λ b. IsInbox (inbox_at (whole_inboxes refitted boxes) b))
        (subst IsInbox (sym (whole_here ps boxes n (away c.event c.node c.frame) below box_below)) (whole_is_inbox (Some c.event) c.frame (inbox_at boxes n) (inboxes n)))
        (λ b ne. subst IsInbox (sym (else_same b ne)) (record { sent = net.parts.sent b; increasing = net.parts.increasing b }))

    nodes_are : nodes_in refitted ≡ slice_set (nodes_in ps) n c.node
    nodes_are = nodes_set ps n (away c.event c.node c.frame)

    node_below : n < length (nodes_in ps)
    node_below = slice_get_within (nodes_in ps) n old.node (node_at_place ps n old at)

    pub nodes_like : AreNodesLike p (nodes_in ps) (nodes_in refitted)
    nodes_like = by_inbox (λ b. node_at p (nodes_in refitted) b ≡ node_at p (nodes_in ps) b)
        (ap (λ xs. node_at p xs n) nodes_are ∙ ap (λ (o : Option NodeView). elim o [ None ↦ start_node p n | Some x ↦ node_of x ]) (set_here (nodes_in ps) n c.node node_below) ∙ moved.node)
        (λ b ne. ap (λ xs. node_at p xs b) nodes_are ∙ ap (λ (o : Option NodeView). elim o [ None ↦ start_node p b | Some x ↦ node_of x ]) (set_else (nodes_in ps) n b c.node ne))

    -- what is read at a place of a claim
    pub node_is : slice_get (nodes_in refitted) n ≡ Some c.node
    node_is = ap (λ xs. slice_get xs n) nodes_are ∙ set_here (nodes_in ps) n c.node node_below

    each : (b : ℕ) (y : NodeView) → slice_get (nodes_in refitted) b ≡ Some y → (y.number ≡ b) × IsNodeOf p y
    each = by_inbox (λ b. (y : NodeView) → slice_get (nodes_in refitted) b ≡ Some y → (y.number ≡ b) × IsNodeOf p y)
        (λ y is. let same : c.node ≡ y = once (slice_get (nodes_in refitted) n) c.node y node_is is in subst (λ z. (z.number ≡ n) × IsNodeOf p z) same (worked.number, worked.fits))
        (λ b ne y is. net.parts.node b y (sym (ap (λ xs. slice_get xs b) nodes_are ∙ set_else (nodes_in ps) n b c.node ne) ∙ is))
      where
        once : (o : Option NodeView) (y z : NodeView) → o ≡ Some y → o ≡ Some z → y ≡ z
        once o y z e f = cc

    pub state_refits : ◌≡◌ {A = State} (state_with p al (nodes_in refitted) (whole_inboxes refitted boxes) rs) st
    state_refits = state_like p al (nodes_in ps) (nodes_in refitted) (whole_inboxes ps boxes) (whole_inboxes refitted boxes) rs nodes_like queues_like

    lengths : length refitted ≡ length ps
    lengths = length-set ps n (away c.event c.node c.frame)

    fronts : FrontCounts p (nodes_in refitted) rs
    fronts y is = elim (cases_Bool (front p == n)) [
      | inl t ↦
          let top : n ≡ front p = sym (eqb-true (front p) n t) in
          let same : c.node ≡ y = once (slice_get (nodes_in refitted) n) c.node y node_is (ap (slice_get (nodes_in refitted)) top ∙ is) in
          subst (λ z. Counts z.held (bare_releases rs)) same (moved.counts top)
      | inr f ↦ net.front y (sym (ap (λ xs. slice_get xs (front p)) nodes_are ∙ set_else (nodes_in ps) n (front p) c.node (eqb-false (front p) n f)) ∙ is)
    ]
      where
        once : (o : Option NodeView) (y z : NodeView) → o ≡ Some y → o ≡ Some z → y ≡ z
        once o y z e f = cc

    -- it is a net
    pub net_refits : IsNet (net_view_of p al (nodes_in refitted) (whole_inboxes refitted boxes) rs false)
    net_refits = record {
      journal = net.journal;
      reached = reached_like (net_view_of p al (nodes_in ps) (whole_inboxes ps boxes) rs false) (net_view_of p al (nodes_in refitted) (whole_inboxes refitted boxes) rs false) net.journal refl state_refits refl net.reached;
      parts = parts_like p al (nodes_in ps) (nodes_in refitted) (whole_inboxes ps boxes) (whole_inboxes refitted boxes) net.parts
          (ap length nodes_are ∙ length-set (nodes_in ps) n c.node)
          (length_whole refitted boxes (lengths ∙ as_many) ∙ sym (length_whole ps boxes as_many))
          each queues_like queues_fit are_inboxes;
      front = fronts;
    }
