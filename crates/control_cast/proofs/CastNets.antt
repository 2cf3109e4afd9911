-- The state of a net after an event of a node is the machine's.
use Rattle.std.proofs.Common.{append-nil, ◌≡◌, ◌≤◌, ◌<◌, ◌-◌, inl, inr, ℕ, zero, suc, Bool, true, false, ◌==◌, ◌&&◌, cond, List, [], ◌∷◌, ◌++◌, map, take, length, slice_set, refl, sym, ap, subst, ◌∙◌, arith, eqb-true, Option, Some, None, nat_lt, ltb-true}
use Rattle.std.specs.Prelude.{slice_index_or}
use Rattle.std.specs.List.{AllByRecursion}
use Rattle.std.proofs.lemmas.Bool.{cases_Bool, cond_both, cond-true, cond-false, and_from, eqb-false, true≢false, ltb-false}
use Rattle.std.proofs.lemmas.List.{length-set, get_or-set_same, get_or-set_other, get_or_past}
use Rattle.std.proofs.lemmas.Option.{slice_get-get_or, get_or_from_slice_get, slice_get_within}
use Rattle.overlay_setup.specs.NodeSets.{with_number}
use Rattle.stat_plan.specs.Plans.{Plan, nodes, front, fault, is_related, ancestors}
use Rattle.stat_plan.specs.Machine.Waves.{put_at}
use Rattle.stat_plan.specs.Machine.Kin.{Kin, is_parent, with_parent, without_child, after_loss}
use Rattle.stat_plan.proofs.KinLemmas.{nearest_in}
use Rattle.stat_plan.proofs.PlanFacts.{HasPlanFacts}
use Rattle.loss_adoption.specs.NodeKins.{IsKinOf}
use Rattle.node_inbox.specs.Inboxes.{InboxView, queue_of}
use Rattle.node_inbox.specs.Cuts.{AreCut}
use Rattle.node_inbox.proofs.Cutting.{queues_cut}
use Rattle.node_inbox.specs.Sends.{AreSent, inbox_at, is_alive, packets_to, GoBelow}
use Rattle.control_cast.specs.declared.event.CastEvent.TheVariants.{Issue, Recv, Lose}
use Rattle.stat_plan.specs.Machine.Overlays.{to, to_parent, keep_of}
use Rattle.control_cast.specs.Machine.{Packet, Cmd, Attach, Down, State, Outcome, numbers_after, obey, received, commit, receive, step}
use Rattle.control_cast.specs.CastNodes.{NodeView, node_kin, obeyed_of, MayReceive}
use Rattle.stat_plan.proofs.Relatives.{related_from_test}
use Rattle.stat_plan.proofs.Overlays.{ne_false}
use Rattle.control_cast.proofs.CastNodes.{length_numbers}
use Rattle.control_cast.specs.CastNets.{node_at, start_view, state_with, AreParts, HasChanged, IsFirst, notices_below}

-- two words for what goes to one node
pub to_is : (b : ℕ) (sends : List (ℕ × Packet)) → packets_to b sends ≡ to b sends
to_is b [] = refl
to_is b (v ∷ vs) = ap (λ l. cond (v.0 == b) (v.1 ∷ l) l) (to_is b vs)

-- states are known by their parts
pub state_by : (alive : ℕ → Bool) (k k' : ℕ → Kin) (c c' : ℕ → ℕ) (l l' : ℕ → ℕ → List Packet) (o o' : ℕ → List ℕ)
    → ((a : ℕ) → k a ≡ k' a) → ((a : ℕ) → c a ≡ c' a) → ((a b : ℕ) → l a b ≡ l' a b) → ((a : ℕ) → o a ≡ o' a)
    → ◌≡◌ {A = State} (record { net = record { alive = alive; kin = k; count = c; link = l }; obeyed = o }) (record { net = record { alive = alive; kin = k'; count = c'; link = l' }; obeyed = o' })
state_by alive k k' c c' l l' o o' ek ec el eo = λ i. record { net = record { alive = alive; kin = λ a. ek a i; count = λ a. ec a i; link = λ a b. el a b i }; obeyed = λ a. eo a i }

-- ---- the nodes

changed_here : (p : Plan) (n : ℕ) (xs new : List NodeView) (x : NodeView) → n < length xs → new ≡ slice_set xs n x → node_at p new n ≡ x
changed_here p n xs new x lt e = ap (λ l. slice_index_or l n (start_view p n)) e ∙ get_or-set_same xs n x (start_view p n) lt

pub changed_else : (p : Plan) (n a : ℕ) (xs new : List NodeView) (x : NodeView) → (a ≡ n → ⊥) → new ≡ slice_set xs n x → node_at p new a ≡ node_at p xs a
changed_else p n a xs new x ne e = ap (λ l. slice_index_or l a (start_view p a)) e ∙ get_or-set_other xs n a x (start_view p a) ne

-- a part of each node, where that of n is y now
changed_at : {Y : Type 0} (f : NodeView → Y) (p : Plan) (n : ℕ) (xs new : List NodeView) (x : NodeView) (y : Y) → n < length xs → new ≡ slice_set xs n x → f x ≡ y → (a : ℕ) → f (node_at p new a) ≡ put_at (λ a. f (node_at p xs a)) n y a
changed_at f p n xs new x y lt e ey a = elim (cases_Bool (a == n)) [
  | inl t ↦ ap (λ b. f (node_at p new b)) (eqb-true a n t) ∙ ap f (changed_here p n xs new x lt e) ∙ ey ∙ sym (cond-true (a == n) y (f (node_at p xs a)) t)
  | inr t ↦ ap f (changed_else p n a xs new x (eqb-false a n t) e) ∙ sym (cond-false (a == n) y (f (node_at p xs a)) t)
]

-- the state after an event of n with this outcome, whose packets were sent behind these links
pub event_state : (p : Plan) (alive : List Bool) (xs new : List NodeView) (boxes : List (InboxView Packet)) (n : ℕ) (o : Outcome) (sends : List (ℕ × Packet)) (link : ℕ → ℕ → List Packet) → n < length xs → HasChanged p n xs new o sends
    → ((a b : ℕ) → queue_of (inbox_at boxes b) a ≡ cond ((a == n) && is_alive alive b) (link a b ++ packets_to b sends) (link a b))
    → state_with p alive new boxes ≡ commit (record { net = record { alive = is_alive alive; kin = λ a. (node_at p xs a).kin; count = λ a. (node_at p xs a).count; link = link }; obeyed = λ a. obeyed_of (node_at p xs a) }) n o
event_state p alive xs new boxes n o sends link lt h links =
    state_by (is_alive alive) _ _ _ _ _ _ _ _
    (changed_at (λ x. x.kin) p n xs new h.node o.kin lt h.all (ap (λ (y : Outcome). y.kin) h.outcome))
    (changed_at (λ x. x.count) p n xs new h.node (suc (node_at p xs n).count) lt h.all h.count)
    (λ a b. links a b ∙ ap (λ l. cond ((a == n) && is_alive alive b) (link a b ++ l) (link a b)) (to_is b sends ∙ ap (to b) (ap (λ (y : Outcome). y.sends) h.outcome)))
    (changed_at obeyed_of p n xs new h.node o.obeyed lt h.all (ap (λ (y : Outcome). y.obeyed) h.outcome))

-- ---- the parts

pub part_at : (p : Plan) (alive : List Bool) (xs : List NodeView) (boxes : List (InboxView Packet)) (n : ℕ) → AreParts p alive xs boxes → n < nodes p → ((node_at p xs n).number ≡ n) × IsKinOf p (node_kin (node_at p xs n))
part_at p alive xs boxes n h lt = let c = h.node_count in h.numbers n (node_at p xs n) (slice_get-get_or xs n (start_view p n) (omega arith))

pub parts_after : (p : Plan) (alive : List Bool) (xs new : List NodeView) (boxes more : List (InboxView Packet)) (n : ℕ) (o : Outcome) (sends : List (ℕ × Packet)) → AreParts p alive xs boxes → n < nodes p → HasChanged p n xs new o sends → length more ≡ length boxes → AreParts p alive new more
parts_after p alive xs new boxes more n o sends h lt c same = record {
  alive_count = h.alive_count;
  node_count = ap length c.all ∙ length-set xs n c.node ∙ h.node_count;
  inbox_count = same ∙ h.inbox_count;
  numbers = λ m x e. elim (cases_Bool (m == n)) [
    | inl t ↦
        let em : m ≡ n = eqb-true m n t in
        let i : x ≡ c.node = sym (get_or_from_slice_get new m x (start_view p m) e) ∙ ap (node_at p new) em ∙ changed_here p n xs new c.node (let k = h.node_count in omega arith) c.all in
        (ap (λ (y : NodeView). y.number) i ∙ c.number ∙ sym em, subst (λ (y : NodeView). IsKinOf p (node_kin y)) (sym i) c.kin)
    | inr t ↦
        let ne : m ≡ n → ⊥ = eqb-false m n t in
        let len : length new ≡ length xs = ap length c.all ∙ length-set xs n c.node in
        let lm : m < length new = slice_get_within new m x e in
        let i : node_at p xs m ≡ x = sym (changed_else p n m xs new c.node ne c.all) ∙ get_or_from_slice_get new m x (start_view p m) e in
        h.numbers m x (slice_get-get_or xs m (start_view p m) (omega arith) ∙ ap Some i)
  ];
}

-- ---- what is sent goes to nodes

below_each : (n i : ℕ) (xs : List ℕ) → AllByRecursion (λ c. c < n) xs → GoBelow n (map (λ c. (c, Cmd i)) xs)
below_each n i [] h = tt
below_each n i (x ∷ xs) h = (h.0, below_each n i xs h.1)

below_one : (n m : ℕ) (is : List ℕ) → m < n → GoBelow n (map (λ i. (m, Cmd i)) is)
below_one n m [] lt = tt
below_one n m (i ∷ is) lt = (lt, below_one n m is lt)

below_parent : (p : Plan) (n : ℕ) (o : Option ℕ) (q : Packet) → ((m : ℕ) → o ≡ Some m → m < nodes p) → GoBelow (nodes p) (to_parent o q)
below_parent p n None q h = tt
below_parent p n (Some m) q h = (h m refl, tt)

pub obeyed_below : (p : Plan) (x : NodeView) (l : List ℕ) (i : ℕ) → IsKinOf p (node_kin x) → GoBelow (nodes p) (obey x.kin l i).sends
obeyed_below p x l i h = below_each (nodes p) i x.kin.children h.children

pub received_below : (p : Plan) (n : ℕ) (x : NodeView) (l : List ℕ) (m : ℕ) (q : Packet) → HasPlanFacts p → x.number ≡ n → IsKinOf p (node_kin x) → MayReceive p n m q → GoBelow (nodes p) (received p n x.kin l m q).sends
received_below p n x l m (Cmd i) plan e h may = cond_both {A = Outcome} (i == suc (length l)) _ _ (λ o. GoBelow (nodes p) o.sends) (λ t. obeyed_below p x l i h) (λ t. tt)
received_below p n x l m (Attach k) plan e h may = below_one (nodes p) m (numbers_after k (length l - k)) may
received_below p n x l m Down plan e h may = cond_both (is_parent x.kin.parent m) (to_parent (after_loss p n x.kin m).parent (Attach (length l))) [] (GoBelow (nodes p))
    (λ t. below_parent p n (after_loss p n x.kin m).parent (Attach (length l)) (λ a k. (plan.under_nodes n a (nearest_in (ancestors p n) (with_number m x.kin.lost) a (sym (ap (λ (y : Kin). y.parent) (cond-true (is_parent x.kin.parent m) (with_parent p n x.kin m) (without_child x.kin m) t)) ∙ k))).1))
    (λ t. tt)

pub sends_below : (p : Plan) (alive : List Bool) (xs new : List NodeView) (boxes : List (InboxView Packet)) (n : ℕ) (o : Outcome) (sends : List (ℕ × Packet)) (count : ℕ) → AreParts p alive xs boxes → HasChanged p n xs new o sends → GoBelow (nodes p) o.sends → count ≡ length boxes → GoBelow count sends
sends_below p alive xs new boxes n o sends count h c below e =
    subst (λ k. GoBelow k sends) (sym (e ∙ h.inbox_count)) (subst (GoBelow (nodes p)) (sym (ap (λ (y : Outcome). y.sends) c.outcome)) below)

-- ---- each event

pub issued : (p : Plan) (alive : List Bool) (xs new : List NodeView) (boxes more : List (InboxView Packet)) (sends : List (ℕ × Packet)) → front p < nodes p → AreParts p alive xs boxes
    → HasChanged p (front p) xs new (obey (node_at p xs (front p)).kin (obeyed_of (node_at p xs (front p))) (suc (node_at p xs (front p)).seen)) sends → AreSent alive (front p) sends boxes more
    → state_with p alive new more ≡ step p (state_with p alive xs boxes) Issue
issued p alive xs new boxes more sends lt h c s =
    event_state p alive xs new more (front p) _ sends (λ a b. queue_of (inbox_at boxes b) a) (let k = h.node_count in omega arith) c s.queues
    ∙ ap (λ x. commit (state_with p alive xs boxes) (front p) (obey (node_at p xs (front p)).kin (obeyed_of (node_at p xs (front p))) (suc x))) (sym (length_numbers 0 (node_at p xs (front p)).seen))

-- the same of a number that is the front end's
pub issued_at : (p : Plan) (alive : List Bool) (xs new : List NodeView) (boxes more : List (InboxView Packet)) (sends : List (ℕ × Packet)) (n : ℕ) → n ≡ front p → n < nodes p → AreParts p alive xs boxes
    → HasChanged p n xs new (obey (node_at p xs n).kin (obeyed_of (node_at p xs n)) (suc (node_at p xs n).seen)) sends → AreSent alive n sends boxes more
    → state_with p alive new more ≡ step p (state_with p alive xs boxes) Issue
issued_at p alive xs new boxes more sends n e lt h c s =
    issued p alive xs new boxes more sends (subst (λ k. k < nodes p) e lt) h
    (subst (λ k. HasChanged p k xs new (obey (node_at p xs k).kin (obeyed_of (node_at p xs k)) (suc (node_at p xs k).seen)) sends) e c)
    (subst (λ k. AreSent alive k sends boxes more) e s)

-- the links once the packet is taken
taken_links : (m n : ℕ) (q : Packet) (old new : List (InboxView Packet)) → IsFirst m n q old new → (a b : ℕ) → queue_of (inbox_at new b) a ≡ cond ((a == m) && (b == n)) (queue_of (inbox_at new n) m) (queue_of (inbox_at old b) a)
taken_links m n q old new h a b = elim (cases_Bool (b == n)) [
  | inl t ↦
      let eb : b ≡ n = eqb-true b n t in
      elim (cases_Bool (a == m)) [
        | inl s ↦ ap (λ x. queue_of (inbox_at new x) a) eb ∙ ap (queue_of (inbox_at new n)) (eqb-true a m s) ∙ sym (cond-true ((a == m) && (b == n)) _ _ (and_from _ _ s t))
        | inr s ↦ ap (λ x. queue_of (inbox_at new x) a) eb ∙ h.rest a s ∙ ap (λ x. queue_of (inbox_at old x) a) (sym eb) ∙ sym (cond-false ((a == m) && (b == n)) _ _ (and_false (a == m) (b == n) s))
      ]
  | inr t ↦ ap (λ w. queue_of w a) (h.others b t) ∙ sym (cond-false ((a == m) && (b == n)) _ _ (and_false_right (a == m) (b == n) t))
]
  where
    and_false : (x y : Bool) → x ≡ false → (x && y) ≡ false
    and_false true y e = absurd (true≢false e)
    and_false false y e = refl

    and_false_right : (x y : Bool) → y ≡ false → (x && y) ≡ false
    and_false_right true y e = e
    and_false_right false y e = refl

pub was_received : (p : Plan) (alive : List Bool) (xs new : List NodeView) (boxes mid more : List (InboxView Packet)) (n m : ℕ) (q : Packet) (sends : List (ℕ × Packet)) → n < nodes p → AreParts p alive xs boxes → IsFirst m n q boxes mid
    → HasChanged p n xs new (received p n (node_at p xs n).kin (obeyed_of (node_at p xs n)) m q) sends → AreSent alive n sends mid more
    → state_with p alive new more ≡ step p (state_with p alive xs boxes) (Recv n m)
was_received p alive xs new boxes mid more n m q sends lt h f c s =
    event_state p alive xs new more n _ sends (λ a b. cond ((a == m) && (b == n)) (queue_of (inbox_at mid n) m) (queue_of (inbox_at boxes b) a)) (let k = h.node_count in omega arith) c
    (λ a b. s.queues a b ∙ ap (λ l. cond ((a == n) && is_alive alive b) (l ++ packets_to b sends) l) (taken_links m n q boxes mid f a b))
    ∙ ap (receive p (state_with p alive xs boxes) n m) (sym f.first)

-- what is sent to b of the notices to the first nodes
packets_append : (b : ℕ) (xs ys : List (ℕ × Packet)) → packets_to b (xs ++ ys) ≡ packets_to b xs ++ packets_to b ys
packets_append b [] ys = refl
packets_append b (x ∷ xs) ys = elim (cases_Bool (x.0 == b)) [
  | inl t ↦ cond-true (x.0 == b) _ _ t ∙ ap (λ l. x.1 ∷ l) (packets_append b xs ys) ∙ ap (λ l. l ++ packets_to b ys) (sym (cond-true (x.0 == b) (x.1 ∷ packets_to b xs) (packets_to b xs) t))
  | inr t ↦ cond-false (x.0 == b) _ _ t ∙ packets_append b xs ys ∙ ap (λ l. l ++ packets_to b ys) (sym (cond-false (x.0 == b) (x.1 ∷ packets_to b xs) (packets_to b xs) t))
]

one_notice : (b k : ℕ) (t : Bool) → packets_to b (cond t ((k, Down) ∷ []) []) ≡ cond ((k == b) && t) (Down ∷ []) []
one_notice b k true = by (k == b)
  where
    by : (s : Bool) → ◌≡◌ {A = List Packet} (cond s (Down ∷ []) []) (cond (s && true) (Down ∷ []) [])
    by true = refl
    by false = refl
one_notice b k false = by (k == b)
  where
    by : (s : Bool) → ◌≡◌ {A = List Packet} [] (cond (s && false) (Down ∷ []) [])
    by true = refl
    by false = refl

notices_beyond : (p : Plan) (n b k : ℕ) → k ≤ b → packets_to b (notices_below p n k) ≡ []
notices_beyond p n b zero le = refl
notices_beyond p n b (suc k) le =
    packets_append b (notices_below p n k) _ ∙ ap (λ l. l ++ packets_to b (cond (is_related p n k) ((k, Down) ∷ []) [])) (notices_beyond p n b k (omega arith))
    ∙ one_notice b k (is_related p n k) ∙ cond-false ((k == b) && is_related p n k) (Down ∷ []) [] (and_no (k == b) (is_related p n k) (ne_false k b (λ e. (omega arith))))
  where
    and_no : (x y : Bool) → x ≡ false → (x && y) ≡ false
    and_no true y e = absurd (true≢false e)
    and_no false y e = refl

notices_to : (p : Plan) (n b k : ℕ) → b < k → packets_to b (notices_below p n k) ≡ cond (is_related p n b) (Down ∷ []) []
notices_to p n b zero lt = absurd (omega arith)
notices_to p n b (suc k) lt = elim (cases_Bool (k == b)) [
  | inl t ↦
      let e : k ≡ b = eqb-true k b t in
      packets_append b (notices_below p n k) _ ∙ ap (λ l. l ++ packets_to b (cond (is_related p n k) ((k, Down) ∷ []) [])) (notices_beyond p n b k (omega arith))
      ∙ one_notice b k (is_related p n k) ∙ ap (λ x. cond (x && is_related p n k) (Down ∷ []) []) t ∙ ap (λ x. cond (is_related p n x) (Down ∷ []) []) e
  | inr t ↦
      packets_append b (notices_below p n k) _ ∙ ap (λ l. packets_to b (notices_below p n k) ++ l) (one_notice b k (is_related p n k) ∙ ap (λ x. cond (x && is_related p n k) (Down ∷ []) []) t)
      ∙ append-nil (packets_to b (notices_below p n k)) ∙ notices_to p n b k (let ne : k ≡ b → ⊥ = eqb-false k b t in omega arith)
]

pub notices_go_below : (p : Plan) (n k c : ℕ) → k ≤ c → GoBelow c (notices_below p n k)
notices_go_below p n zero c le = tt
notices_go_below p n (suc k) c le = both (notices_below p n k) _ (notices_go_below p n k c (omega arith)) (one (is_related p n k))
  where
    both : (xs ys : List (ℕ × Packet)) → GoBelow c xs → GoBelow c ys → GoBelow c (xs ++ ys)
    both [] ys hx hy = hy
    both (x ∷ xs) ys hx hy = (hx.0, both xs ys hx.1 hy)

    one : (t : Bool) → GoBelow c (cond t ((k, Down) ∷ []) [])
    one true = (omega arith, tt)
    one false = tt

-- what waits is cut, and then the notice comes behind it
cut_and_told : (keep : ℕ) (x y u r : Bool) (o t m : List Packet) → m ≡ cond y [] (cond x (take keep o) o) → (u ≡ true → t ≡ cond r (Down ∷ []) []) → (y ≡ true → r ≡ false) → cond (x && u) (m ++ t) m ≡ cond y [] (cond x (take keep o ++ cond (u && r) (Down ∷ []) []) o)
cut_and_told keep false y u r o t m em et er = em
cut_and_told keep true true false r o t m em et er = em
cut_and_told keep true false false r o t m em et er = em ∙ sym (append-nil (take keep o))
cut_and_told keep true true true r o t m em et er = ap (λ l. l ++ t) em ∙ et refl ∙ ap (λ b. cond b (Down ∷ []) []) (er refl)
cut_and_told keep true false true r o t m em et er = ap (λ l. l ++ t) em ∙ ap (λ l. take keep o ++ l) (et refl)

pub was_lost : (p : Plan) (alive dead : List Bool) (xs : List NodeView) (boxes mid more : List (InboxView Packet)) (n : ℕ) (sends : List (ℕ × Packet)) → HasPlanFacts p → n < nodes p → AreParts p alive xs boxes
    → AreCut n (keep_of (fault p n)) (length boxes) boxes mid → sends ≡ notices_below p n (nodes p) → AreSent alive n sends mid more → dead ≡ slice_set alive n false
    → state_with p dead xs more ≡ step p (state_with p alive xs boxes) (Lose n)
was_lost p alive dead xs boxes mid more n sends plan lt h cut es s ed = λ i. record {
  net = record {
    alive = λ a. lives a i;
    kin = λ a. (node_at p xs a).kin;
    count = λ a. (node_at p xs a).count;
    link = λ a b. links a b i;
  };
  obeyed = λ a. obeyed_of (node_at p xs a);
}
  where
    lives : (a : ℕ) → is_alive dead a ≡ put_at (is_alive alive) n false a
    lives a = ap (λ l. is_alive l a) ed ∙ elim (cases_Bool (a == n)) [
      | inl t ↦ ap (is_alive (slice_set alive n false)) (eqb-true a n t) ∙ get_or-set_same alive n false false (let k = h.alive_count in omega arith) ∙ sym (cond-true (a == n) false (is_alive alive a) t)
      | inr t ↦ get_or-set_other alive n a false false (eqb-false a n t) ∙ sym (cond-false (a == n) false (is_alive alive a) t)
    ]

    old : ℕ → ℕ → List Packet
    old a b = queue_of (inbox_at boxes b) a

    keep : ℕ
    keep = keep_of (fault p n)

    alone : is_related p n n ≡ false
    alone = elim (cases_Bool (is_related p n n)) [ inl t ↦ absurd (elim (related_from_test p n n t) [ inl u ↦ plan.under_irrefl n u | inr u ↦ plan.under_irrefl n u ]) | inr f ↦ f ]

    told : (b : ℕ) → is_alive alive b ≡ true → packets_to b sends ≡ cond (is_related p n b) (Down ∷ []) []
    told b u = ap (packets_to b) es ∙ notices_to p n b (nodes p) (let k = h.alive_count in let l : b < length alive = within b u in omega arith)
      where
        within : (b : ℕ) → is_alive alive b ≡ true → b < length alive
        within b u = elim (cases_Bool (nat_lt b (length alive))) [ inl t ↦ ltb-true b (length alive) t | inr f ↦ absurd (true≢false (sym u ∙ get_or_past alive b false (ltb-false b (length alive) f))) ]

    links : (a b : ℕ) → queue_of (inbox_at more b) a ≡ cond (b == n) [] (cond (a == n) (take keep (old a b) ++ cond (is_alive alive b && is_related p n b) (Down ∷ []) []) (old a b))
    links a b = s.queues a b ∙ cut_and_told keep (a == n) (b == n) (is_alive alive b) (is_related p n b) (old a b) (packets_to b sends) (queue_of (inbox_at mid b) a) (queues_cut n keep boxes mid cut a b) (told b) (λ t. ap (is_related p n) (eqb-true b n t) ∙ alone)

pub parts_lost : (p : Plan) (alive dead : List Bool) (xs : List NodeView) (boxes more : List (InboxView Packet)) (n : ℕ) → AreParts p alive xs boxes → length more ≡ length boxes → dead ≡ slice_set alive n false → AreParts p dead xs more
parts_lost p alive dead xs boxes more n h same e = record { alive_count = ap length e ∙ length-set alive n false ∙ h.alive_count; node_count = h.node_count; inbox_count = same ∙ h.inbox_count; numbers = h.numbers }
