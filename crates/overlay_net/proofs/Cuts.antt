-- The links of a lost node that are cut, and then its notices delivered: together what a loss does to the links.
use Rattle.std.proofs.Common.{◌≡◌, ◌≢◌, ◌∙◌, ◌<◌, ◌≤◌, ℕ, zero, suc, Bool, true, false, ◌==◌, ◌&&◌, ◌||◌, not, cond, List, [], ◌∷◌, ◌++◌, map, filter, take, refl, sym, ap, subst, inl, inr, eqb-true, eq-eqb, arith, append-nil}
use Rattle.std.proofs.lemmas.Bool.{cases_Bool, cases_lt, eqb-false}
use Rattle.std.proofs.lemmas.List.{map-append, take-map}
use Rattle.std.proofs.lemmas.List.Elements.{filter-append}
use Rattle.std.specs.List.{AllByRecursion}
use Rattle.overlay_setup.specs.NodeSets.{up_to}
use Rattle.stat_plan.specs.Plans.{Plan, fault, is_related, nodes}
use Rattle.stat_plan.specs.Machine.Overlays.{keep_of, to}
use Rattle.stat_plan.proofs.Elements.{all_append}
use Rattle.overlay_core.specs.Nodes.{Packet, Down}
use Rattle.overlay_node.specs.Frames.{IsFrame, packet_of}
use Rattle.overlay_node.specs.Outputs.{packets_of}
use Rattle.node_inbox.specs.Inboxes.{IsInbox, queue_of}
use Rattle.node_inbox.specs.Sends.{AreSent, inbox_at, is_alive, is_receiver, packets_to}
use Rattle.overlay_net.specs.Claims.{notices}
use Rattle.overlay_net.specs.Inboxes.{FrameInbox}
use Rattle.node_inbox.specs.Cuts.{AreCut}
use Rattle.overlay_net.specs.Losses.{AreLost, IsCutAndTold}
use Rattle.overlay_net.proofs.States.{bare_to}

-- ---- who gets a notice

to_append : (b : ℕ) (xs ys : List (ℕ × Packet)) → to b (xs ++ ys) ≡ to b xs ++ to b ys
to_append b [] ys = refl
to_append b (v ∷ vs) ys = go (v.0 == b) (to_append b vs ys)
  where
    go : (t : Bool) → to b (vs ++ ys) ≡ to b vs ++ to b ys → cond t (v.1 ∷ to b (vs ++ ys)) (to b (vs ++ ys)) ≡ cond t (v.1 ∷ to b vs) (to b vs) ++ to b ys
    go true rest = ap (λ l. v.1 ∷ l) rest
    go false rest = rest

module _ (f : ℕ → Bool) (b : ℕ) where
  abbrev told : ℕ → List (ℕ × Packet)
  told k = map {A = ℕ} {B = ℕ × Packet} (λ a. (a, Down)) (filter f (up_to k))

  abbrev last : ℕ → List Packet
  last k = to b (map {A = ℕ} {B = ℕ × Packet} (λ a. (a, Down)) (cond (f k) (k ∷ []) []))

  one_more : (k : ℕ) → to b (told (suc k)) ≡ to b (told k) ++ last k
  one_more k =
      ap (λ l. to b (map {A = ℕ} {B = ℕ × Packet} (λ a. (a, Down)) l)) (filter-append f (up_to k) (k ∷ []))
      ∙ ap (to b) (map-append {A = ℕ} {B = ℕ × Packet} (λ a. (a, Down)) (filter f (up_to k)) (cond (f k) (k ∷ []) []))
      ∙ to_append b (told k) (map {A = ℕ} {B = ℕ × Packet} (λ a. (a, Down)) (cond (f k) (k ∷ []) []))

  last_other : (k : ℕ) → (k == b) ≡ false → last k ≡ []
  last_other k other = go (f k)
    where
      go : (t : Bool) → to b (map {A = ℕ} {B = ℕ × Packet} (λ a. (a, Down)) (cond t (k ∷ []) [])) ≡ []
      go true = ap (λ u. cond {A = List Packet} u (Down ∷ []) []) other
      go false = refl

  last_same : (k : ℕ) → k ≡ b → last k ≡ cond (f b) (Down ∷ []) []
  last_same k same = go (f k) ∙ ap (λ a. cond {A = List Packet} (f a) (Down ∷ []) []) same
    where
      go : (t : Bool) → to b (map {A = ℕ} {B = ℕ × Packet} (λ a. (a, Down)) (cond t (k ∷ []) [])) ≡ cond t (Down ∷ []) []
      go true = ap (λ u. cond {A = List Packet} u (Down ∷ []) []) (eq-eqb k b same)
      go false = refl

  unequal : (k : ℕ) → k ≢ b → (k == b) ≡ false
  unequal k other = elim (cases_Bool (k == b)) [ inl t ↦ absurd (other (eqb-true k b t)) | inr t ↦ t ]

  -- none past the numbers
  to_past : (k : ℕ) → k ≤ b → to b (told k) ≡ []
  to_past zero le = refl
  to_past (suc k) le = one_more k ∙ (λ i. to_past k (omega (arith, le)) i ++ last_other k (unequal k (λ e. omega (arith, le, e))) i)

  -- and one of them, if it passes the test
  to_within : (k : ℕ) → b < k → to b (told k) ≡ cond (f b) (Down ∷ []) []
  to_within zero lt = absurd (omega (arith, lt))
  to_within (suc k) lt = elim (cases_Bool (k == b)) [
    | inl t ↦ let e : k ≡ b = eqb-true k b t in one_more k ∙ (λ i. to_past k (omega (arith, e)) i ++ last_same k e i)
    | inr t ↦ let ne : k ≢ b = eqb-false k b t in one_more k ∙ (λ i. to_within k (omega (arith, lt, ne)) i ++ last_other k t i) ∙ append-nil (cond (f b) (Down ∷ []) [])
  ]

-- ---- the links

no_items : {X Y : Type 0} (f : X → Y) (xs : List X) → map f xs ≡ [] → xs ≡ []
no_items f [] is = refl
no_items f (x ∷ xs) is = absurd (cc)

-- what is sent to nobody has no receiver
no_receiver : (sends : List (ℕ × List ℕ)) (b : ℕ) → packets_to b sends ≡ [] → is_receiver sends b ≡ false
no_receiver [] b none = refl
no_receiver (v ∷ vs) b none = go (v.0 == b) none (no_receiver vs b)
  where
    go : (t : Bool) → cond t (v.1 ∷ packets_to b vs) (packets_to b vs) ≡ [] → (packets_to b vs ≡ [] → is_receiver vs b ≡ false) → (t || is_receiver vs b) ≡ false
    go true empty rest = absurd (cc)
    go false empty rest = rest empty

all_if : {X : Type 0} (R : X → Type 0) (t : Bool) (xs ys : List X) → AllByRecursion R xs → AllByRecursion R ys → AllByRecursion R (cond t xs ys)
all_if R true xs ys h k = h
all_if R false xs ys h k = k

-- what is sent are frames
all_to : (p : Plan) (b : ℕ) (sends : List (ℕ × List ℕ)) → AllByRecursion (λ v. IsFrame p v.1) sends → AllByRecursion (IsFrame p) (packets_to b sends)
all_to p b [] h = tt
all_to p b (v ∷ vs) h = all_if (IsFrame p) (v.0 == b) (v.1 ∷ packets_to b vs) (packets_to b vs) (h.0, all_to p b vs h.1) (all_to p b vs h.1)

all_take : {X : Type 0} (R : X → Type 0) (k : ℕ) (xs : List X) → AllByRecursion R xs → AllByRecursion R (take k xs)
all_take R zero xs h = tt
all_take R (suc k) [] h = tt
all_take R (suc k) (x ∷ xs) h = (h.0, all_take R k xs h.1)

module _ (p : Plan) (al : List Bool) (n : ℕ) (old cut new : List FrameInbox) (sends : List (ℕ × List ℕ))
    (h : AreCut n (keep_of (fault p n)) (nodes p) old cut) (sent : AreSent al n sends cut new) (told_is : packets_of sends ≡ notices p n) (frames : AllByRecursion (λ v. IsFrame p v.1) sends)
    (boxes : (b : ℕ) → IsInbox (inbox_at old b)) where
  abbrev test : ℕ → Bool
  test b = not (b == n) && is_related p n b

  -- the notices to b
  told_to : (b : ℕ) → map packet_of (packets_to b sends) ≡ to b (notices p n)
  told_to b = bare_to b sends ∙ ap (to b) told_is

  none_past : (b : ℕ) → nodes p ≤ b → packets_to b sends ≡ []
  none_past b le = no_items packet_of (packets_to b sends) (told_to b ∙ to_past test b (nodes p) le)

  none_own : (b : ℕ) → (b == n) ≡ true → packets_to b sends ≡ []
  none_own b own = no_items packet_of (packets_to b sends) (told_to b ∙ elim (cases_lt b (nodes p)) [
    | inl lt ↦ to_within test b (nodes p) lt ∙ ap (λ t. cond {A = List Packet} (not t && is_related p n b) (Down ∷ []) []) own
    | inr le ↦ to_past test b (nodes p) le
  ])

  -- an inbox to which nothing is sent
  unsent : (b : ℕ) → packets_to b sends ≡ [] → inbox_at new b ≡ inbox_at cut b
  unsent b none = sent.others b (ap (λ t. t && is_alive al b) (no_receiver sends b none))

  cut_boxes : (b : ℕ) → IsInbox (inbox_at cut b)
  cut_boxes b = elim (cases_lt b (nodes p)) [
    | inl lt ↦ (h.done b lt).inbox
    | inr le ↦ subst IsInbox (sym (ap (λ (w : FrameInbox). w.waiting) (h.rest b le))) (boxes b)
  ]

  module _ (b : ℕ) (lt : b < nodes p) (other : (b == n) ≡ false) where
    first : queue_of (inbox_at new b) n ≡ cond (is_alive al b) (queue_of (inbox_at cut b) n ++ packets_to b sends) (queue_of (inbox_at cut b) n)
    first = sent.queues n b ∙ ap (λ t. cond (t && is_alive al b) (queue_of (inbox_at cut b) n ++ packets_to b sends) (queue_of (inbox_at cut b) n)) (eq-eqb n n refl)

    kept : queue_of (inbox_at cut b) n ≡ take (keep_of (fault p n)) (queue_of (inbox_at old b) n)
    kept = (h.done b lt).cut other

    bare_kept : map packet_of (queue_of (inbox_at cut b) n) ≡ take (keep_of (fault p n)) (map packet_of (queue_of (inbox_at old b) n))
    bare_kept = ap (map packet_of) kept ∙ sym (take-map packet_of (keep_of (fault p n)) (queue_of (inbox_at old b) n))

    notice : map packet_of (packets_to b sends) ≡ cond (is_related p n b) (Down ∷ []) []
    notice = told_to b ∙ to_within test b (nodes p) lt ∙ ap (λ t. cond {A = List Packet} (not t && is_related p n b) (Down ∷ []) []) other

    behind : (t : Bool) → map packet_of (cond t (queue_of (inbox_at cut b) n ++ packets_to b sends) (queue_of (inbox_at cut b) n)) ≡ take (keep_of (fault p n)) (map packet_of (queue_of (inbox_at old b) n)) ++ cond (t && is_related p n b) (Down ∷ []) []
    behind true = map-append packet_of (queue_of (inbox_at cut b) n) (packets_to b sends) ∙ (λ i. bare_kept i ++ notice i)
    behind false = bare_kept ∙ sym (append-nil (take (keep_of (fault p n)) (map packet_of (queue_of (inbox_at old b) n))))

    cut_one : IsCutAndTold p al n b (inbox_at old b) (inbox_at new b)
    cut_one = record {
      cut = ap (map packet_of) first ∙ behind (is_alive al b);
      others = λ a ne. sent.queues a b ∙ ap (λ t. cond (t && is_alive al b) (queue_of (inbox_at cut b) a ++ packets_to b sends) (queue_of (inbox_at cut b) a)) ne ∙ (h.done b lt).others other a ne;
      frames = λ all.
          let few = subst (AllByRecursion (IsFrame p)) (sym kept) (all_take (IsFrame p) (keep_of (fault p n)) (queue_of (inbox_at old b) n) all) in
          subst (AllByRecursion (IsFrame p)) (sym first) (all_if (IsFrame p) (is_alive al b) _ _ (all_append (IsFrame p) (queue_of (inbox_at cut b) n) (packets_to b sends) few (all_to p b sends frames)) few);
      inbox = sent.inboxes cut_boxes b;
    }

  -- a cut of the links, and then the delivery of the notices
  pub cut_and_told : AreLost p al n (nodes p) old new
  cut_and_told = record {
    inbox_count = sent.inbox_count ∙ h.inbox_count;
    done = λ b lt. record {
      own = λ own. unsent b (none_own b own) ∙ (h.done b lt).own own;
      else = λ other. cut_one b lt other;
    };
    rest = λ b le. unsent b (none_past b le) ∙ ap (λ (w : FrameInbox). w.waiting) (h.rest b le);
  }
