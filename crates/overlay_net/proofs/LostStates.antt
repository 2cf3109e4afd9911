-- The loss of a node, as a whole.
use Rattle.std.proofs.Common.{◌≡◌, ◌≢◌, ◌∙◌, ◌<◌, ◌≤◌, ℕ, zero, suc, Bool, true, false, ◌==◌, ◌&&◌, cond, nat_lt, List, [], ◌∷◌, ◌++◌, map, take, length, slice_set, refl, sym, ap, subst, inl, inr, eqb-true, arith}
use Rattle.std.proofs.lemmas.Bool.{cases_Bool, eqb-false, true≢false, ltb-true, ltb-false, and_parts}
use Rattle.std.proofs.lemmas.List.{length-set, get_or-set_same, get_or-set_other}
use Rattle.std.specs.List.{AllByRecursion}
use Rattle.std.specs.List.Sorted.{IsStrictlySortedBy}
use Rattle.stat_plan.specs.Plans.{Plan, fault, is_related, nodes}
use Rattle.stat_plan.specs.Machine.Waves.{put_at}
use Rattle.overlay_event.specs.declared.event.Event.TheVariants.{Lose}
use Rattle.overlay_core.specs.Machine.{State, is_enabled, lose, step}
use Rattle.stat_plan.specs.Machine.Overlays.{keep_of}
use Rattle.overlay_core.specs.Nodes.{Packet, Down}
use Rattle.overlay_core.specs.TreeReleases.{TreeRelease, bare_releases}
use Rattle.overlay_core.proofs.Journals.{after_more, legal_more}
use Rattle.overlay_node.specs.Frames.{IsFrame, packet_of}
use Rattle.overlay_node.specs.NodeViews.{NodeView}
use Rattle.node_inbox.specs.Inboxes.{IsInbox, is_waiting, queue_of}
use Rattle.overlay_net.specs.Inboxes.{FrameInbox, WaitingFrames}
use Rattle.node_inbox.specs.Sends.{inbox_at, is_alive}
use Rattle.overlay_net.specs.Nets.{net_view_of, node_at, state_with}
use Rattle.overlay_net.specs.Events.{AreParts, IsNet}
use Rattle.overlay_net.specs.Handled.{ExtendsBy}
use Rattle.overlay_net.specs.Losses.{AreLost, IsCutAndTold, IsLost}
use Rattle.overlay_net.proofs.Offers.{alive_past, living_below}
use Rattle.overlay_net.proofs.PartsInvariant.{none_where_quiet, some_where_waiting}

-- of nothing, nothing is kept
take_none : {X : Type 0} (k : ℕ) → take {A = X} k [] ≡ []
take_none zero = refl
take_none (suc k) = refl

-- nothing waits beyond the inboxes
inbox_past : (ib : List FrameInbox) (n : ℕ) → length ib ≤ n → inbox_at ib n ≡ []
inbox_past [] zero past = refl
inbox_past [] (suc n) past = refl
inbox_past (w ∷ ib) zero past = absurd (omega arith)
inbox_past (w ∷ ib) (suc n) past = inbox_past ib n (omega arith)

module _ (p : Plan) (al : List Bool) (xs : List NodeView) (ib ic : List FrameInbox) (n : ℕ) (parts : AreParts p al xs ib) (lt : n < nodes p) (lost : AreLost p al n (nodes p) ib ic) where
  -- what holds of each inbox afterwards
  each : (P : WaitingFrames → Type 0) (b : ℕ) → P [] → ((b == n) ≡ false → IsCutAndTold p al n b (inbox_at ib b) (inbox_at ic b) → P (inbox_at ic b)) → P (inbox_at ic b)
  each P b none cut = elim (cases_Bool (nat_lt b (nodes p))) [
    | (inl t) ↦ let one = lost.done b (ltb-true b (nodes p) t) in elim (cases_Bool (b == n)) [
      | (inl s) ↦ subst P (sym (one.own s)) none
      | (inr f) ↦ cut f (one.else f)
    ]
    | (inr f) ↦ subst P (sym (beyond b (ltb-false b (nodes p) f))) none
  ]
    where
      beyond : (b : ℕ) → nodes p ≤ b → inbox_at ic b ≡ []
      beyond b le = lost.rest b le ∙ inbox_past ib b (let c = parts.inbox_count in omega (arith, c, le))

  no_sender : IsInbox {X = List ℕ} []
  unfolding IsStrictlySortedBy
  no_sender = record { sent = tt; increasing = tt }

  inboxes_after : (b : ℕ) → IsInbox (inbox_at ic b)
  inboxes_after b = each IsInbox b no_sender (λ f cut. cut.inbox)

  -- the parts are those of the plan
  pub parts_after : AreParts p (slice_set al n false) xs ic
  parts_after = record {
    node_count = parts.node_count;
    inbox_count = lost.inbox_count ∙ parts.inbox_count;
    alive_count = length-set al n false ∙ parts.alive_count;
    node = parts.node;
    packets = λ m b. each (λ w. AllByRecursion (IsFrame p) (queue_of w m)) b tt (λ f cut. packets m b cut (m == n) refl);
    senders = λ m b. each (λ w. is_waiting w m ≡ true → m < nodes p) b (λ w. absurd (true≢false (sym w))) (λ f cut w. senders m b cut (some_where_waiting (inbox_at ic b) m cut.inbox.sent w) (m == n) refl);
    sent = λ b. (inboxes_after b).sent;
    increasing = λ b. (inboxes_after b).increasing;
  }
    where
      packets : (m b : ℕ) → IsCutAndTold p al n b (inbox_at ib b) (inbox_at ic b) → (t : Bool) → (m == n) ≡ t → AllByRecursion (IsFrame p) (queue_of (inbox_at ic b) m)
      packets m b cut true e = subst (λ k. AllByRecursion (IsFrame p) (queue_of (inbox_at ic b) k)) (sym (eqb-true m n e)) (cut.frames (parts.packets n b))
      packets m b cut false e = subst (AllByRecursion (IsFrame p)) (sym (cut.others m e)) (parts.packets m b)

      senders : (m b : ℕ) → IsCutAndTold p al n b (inbox_at ib b) (inbox_at ic b) → queue_of (inbox_at ic b) m ≢ [] → (t : Bool) → (m == n) ≡ t → m < nodes p
      senders m b cut some true e = subst (λ k. k < nodes p) (sym (eqb-true m n e)) lt
      senders m b cut some false e = elim (cases_Bool (is_waiting (inbox_at ib b) m)) [
        | inl w ↦ parts.senders m b w
        | inr f ↦ absurd (some (cut.others m e ∙ none_where_quiet (inbox_at ib b) m f))
      ]

  -- who lives afterwards
  alive_after : (a : ℕ) → put_at (is_alive al) n false a ≡ is_alive (slice_set al n false) a
  alive_after a = go (a == n) refl
    where
      go : (t : Bool) → (a == n) ≡ t → cond t false (is_alive al a) ≡ is_alive (slice_set al n false) a
      go true e = sym (ap (is_alive (slice_set al n false)) (eqb-true a n e) ∙ get_or-set_same al n false false (let c = parts.alive_count in omega (arith, c, lt)))
      go false e = sym (get_or-set_other al n a false false (eqb-false a n e))

  -- what is on the way afterwards
  links_after : (a b : ℕ)
      → cond (b == n) [] (cond (a == n) (take (keep_of (fault p n)) (map packet_of (queue_of (inbox_at ib b) a)) ++ cond (is_alive al b && is_related p n b) (Down ∷ []) []) (map packet_of (queue_of (inbox_at ib b) a)))
      ≡ map packet_of (queue_of (inbox_at ic b) a)
  links_after a b = elim (cases_Bool (nat_lt b (nodes p))) [
    | (inl t) ↦ within (lost.done b (ltb-true b (nodes p) t)) (b == n) (a == n) refl refl
    | (inr f) ↦ let le = ltb-false b (nodes p) f in
        let none = inbox_past ib b (let c = parts.inbox_count in omega (arith, c, le)) in
        let dead = alive_past al b (let c = parts.alive_count in omega (arith, c, le)) in
        (λ i. cond (b == n) [] (cond (a == n) (take (keep_of (fault p n)) (map packet_of (queue_of (none i) a)) ++ cond (dead i && is_related p n b) (Down ∷ []) []) (map packet_of (queue_of (none i) a))))
        ∙ nothing (b == n) (a == n)
        ∙ ap (λ w. map packet_of (queue_of w a)) (sym (lost.rest b le ∙ none))
  ]
    where
      nothing : (t u : Bool) → cond t [] (cond {A = List Packet} u (take (keep_of (fault p n)) [] ++ []) []) ≡ []
      nothing true u = refl
      nothing false true = ap (λ l. l ++ []) (take_none (keep_of (fault p n)))
      nothing false false = refl

      within : IsLost p al n b (inbox_at ib b) (inbox_at ic b) → (t u : Bool) → (b == n) ≡ t → (a == n) ≡ u
          → cond t [] (cond u (take (keep_of (fault p n)) (map packet_of (queue_of (inbox_at ib b) a)) ++ cond (is_alive al b && is_related p n b) (Down ∷ []) []) (map packet_of (queue_of (inbox_at ib b) a)))
          ≡ map packet_of (queue_of (inbox_at ic b) a)
      within one true u et eu = ap (λ w. map packet_of (queue_of w a)) (sym (one.own et))
      within one false true et eu =
          let ea : a ≡ n = eqb-true a n eu in
          subst (λ k. take (keep_of (fault p n)) (map packet_of (queue_of (inbox_at ib b) k)) ++ cond (is_alive al b && is_related p n b) (Down ∷ []) [] ≡ map packet_of (queue_of (inbox_at ic b) k)) (sym ea) (sym (one.else et).cut)
      within one false false et eu = ap (map packet_of) (sym ((one.else et).others a eu))

  -- the state afterwards is the machine's
  pub state_after : (rs : List TreeRelease) → ◌≡◌ {A = State} (lose p (state_with p al xs ib rs) n) (state_with p (slice_set al n false) xs ic rs)
  unfolding lose
  state_after rs = λ i. record {
    alive = λ a. alive_after a i;
    node = node_at p xs;
    link = λ a b. links_after a b i;
    releases = bare_releases rs;
  }

module _ (p : Plan) (al : List Bool) (xs : List NodeView) (ib ic : List FrameInbox) (n : ℕ) (rs : List TreeRelease) (net : IsNet (net_view_of p al xs ib rs false)) (en : is_enabled p (state_with p al xs ib rs) (Lose n) ≡ true) where
  -- it is a node of the plan
  lost_below : n < nodes p
  lost_below = living_below p al xs ib n net.parts (and_parts _ _ en).0

  module _ (lost : AreLost p al n (nodes p) ib ic) where
    pub parts_lost : AreParts p (slice_set al n false) xs ic
    parts_lost = parts_after p al xs ib ic n net.parts lost_below lost

    -- if a journal led to the net, that journal with the loss appended leads to it now
    pub loss_extends : ExtendsBy (Lose n) (net_view_of p al xs ib rs false) (net_view_of p (slice_set al n false) xs ic rs false)
    loss_extends journal h = record {
      legal = legal_more p journal (Lose n) h.legal (subst (λ (s : State). is_enabled p s (Lose n) ≡ true) h.state en);
      state = sym (state_after p al xs ib ic n net.parts lost_below lost rs) ∙ ap (λ (s : State). step p s (Lose n)) h.state ∙ sym (after_more p journal (Lose n));
      numbered = h.numbered;
      trees = h.trees;
    }

    -- then it is a net again
    pub net_lost : IsNet (net_view_of p (slice_set al n false) xs ic rs false)
    net_lost = record {
      journal = net.journal ++ Lose n ∷ [];
      reached = loss_extends net.journal net.reached;
      parts = parts_lost;
      front = net.front;
    }
