-- The list of events that may come next, node by node.
use Rattle.std.proofs.Common.{◌≡◌, ◌+◌, ◌≢◌, ◌≤◌, ◌<◌, inl, inr, ℕ, Bool, true, false, not, ◌&&◌, ◌==◌, nat_lt, nat_eq, cond, List, [], ◌∷◌, ◌++◌, map, filter, get_or, length, refl, sym, ap, subst, ◌∙◌, arith, eqb-true, eq-eqb}
use Rattle.std.proofs.lemmas.Bool.{cases_Bool, cond-true, cond-false, eqb-false, true≢false}
use Rattle.std.proofs.lemmas.List.{get_or_default, length-map}
use Rattle.std.proofs.lemmas.List.Elements.{filter-append}
use Rattle.overlay_setup.specs.NodeSets.{In, up_to}
use Rattle.stat_plan.specs.Plans.{Plan, nodes, fault, front, is_front}
use Rattle.stat_plan.specs.Invariants.{IsPlan}
use Rattle.stat_plan.proofs.InLists.{in_from_map, in_append}
use Rattle.stat_plan.proofs.PlanFacts.{plan_facts}
use Rattle.stat_plan.proofs.Ascending.{ascending_within_limit, increasing_from_sorted}
use Rattle.stat_plan.proofs.Filters.{filter_mapped, filter_none, filter_same, filter_up_to}
use Rattle.node_inbox.specs.Inboxes.{InboxView, Waiting, IsInbox, HaveSent, queue_of, senders_of}
use Rattle.node_inbox.specs.Sends.{inbox_at, is_alive, no_inbox}
use Rattle.control_cast.specs.declared.event.CastEvent.{CastEvent}
use Rattle.control_cast.specs.declared.event.CastEvent.TheVariants.{Issue, Recv, Lose}
use Rattle.stat_plan.specs.Machine.Overlays.{is_spent, is_pending, is_active, is_doomed}
use Rattle.stat_plan.proofs.Overlays.{first_in}
use Rattle.control_cast.specs.Machine.{Packet, State, seen, is_enabled}
use Rattle.control_cast.specs.CastNodes.{NodeView, obeyed_of}
use Rattle.control_cast.specs.CastNets.{node_at, start_view, state_with, AreParts, IsNet}
use Rattle.control_cast.specs.CastEvents.{may_issue, own_events, events_at}
use Rattle.control_cast.proofs.CastNodes.{length_numbers}
use Rattle.control_cast.proofs.CastNets.{part_at}
use Rattle.control_cast.proofs.Reached.{net_is_sound}
use Rattle.control_cast.proofs.Short.{sender_below}

-- ---- whether a node issues

pub issues_by : (p : Plan) (commands : ℕ) (x : NodeView) (n f s : ℕ) → n ≡ x.number → f ≡ front p → n ≡ f → s ≡ x.seen → nat_lt s commands ≡ may_issue p commands x
unfolding is_front
issues_by p commands x n f s en ef e es = ap (λ k. nat_lt k commands) es ∙ ap (λ b. b && nat_lt x.seen commands) (sym (eq-eqb x.number (front p) (sym en ∙ e ∙ ef)))

pub issues_not : (p : Plan) (commands : ℕ) (x : NodeView) (n f : ℕ) → n ≡ x.number → f ≡ front p → (n ≡ f → ⊥) → nat_eq n f ≡ may_issue p commands x
unfolding is_front
issues_not p commands x n f en ef ne = by (nat_eq n f) refl ∙ ap (λ b. b && nat_lt x.seen commands) (sym (no (x.number == front p) refl))
  where
    by : (b : Bool) → nat_eq n f ≡ b → nat_eq n f ≡ false
    by true e = absurd (ne (eqb-true n f e))
    by false e = e

    no : (b : Bool) → (x.number == front p) ≡ b → (x.number == front p) ≡ false
    no true e = absurd (ne (en ∙ eqb-true x.number (front p) e ∙ sym ef))
    no false e = e

-- ---- who has sent what waits

-- a sender in the list has packets waiting
sender_waits : (w : Waiting Packet) (m : ℕ) → HaveSent w → In m (senders_of w) → is_pending (queue_of w m) ≡ true
sender_waits [] m h i = absurd i
sender_waits (e ∷ es) m h i = elim (cases_Bool (e.0 == m)) [
  | inl t ↦ ap is_pending (cond-true (e.0 == m) e.1 (queue_of es m) t) ∙ some e.1 h.0
  | inr t ↦ ap is_pending (cond-false (e.0 == m) e.1 (queue_of es m) t) ∙ sender_waits es m h.1 (elim i [ inl k ↦ absurd (eqb-false e.0 m t (sym k)) | inr k ↦ k ])
]
  where
    some : (l : List Packet) → l ≢ [] → is_pending l ≡ true
    some [] ne = absurd (ne refl)
    some (q ∷ qs) ne = refl

waits_listed : (w : Waiting Packet) (m : ℕ) → is_pending (queue_of w m) ≡ true → In m (senders_of w)
waits_listed [] m e = absurd (true≢false (sym e))
waits_listed (x ∷ es) m e = elim (cases_Bool (x.0 == m)) [
  | inl t ↦ inl (sym (eqb-true x.0 m t))
  | inr t ↦ inr (waits_listed es m (ap is_pending (sym (cond-false (x.0 == m) x.1 (queue_of es m) t)) ∙ e))
]

pub senders_below : (p : Plan) (commands : ℕ) (alive : List Bool) (xs : List NodeView) (boxes : List (InboxView Packet)) (n m : ℕ) → IsPlan p → IsNet p commands alive xs boxes → is_pending (queue_of (inbox_at boxes n) m) ≡ true → m < nodes p
senders_below p commands alive xs boxes n m plan h e =
    let q = first_in (queue_of (inbox_at boxes n) m) e in
    sender_below p m n q.0 (plan_facts p plan) (((net_is_sound p commands alive xs boxes plan h).base.links m n).packets q.0 q.1)

-- ---- the events of a node

module _ (p : Plan) (commands : ℕ) (alive : List Bool) (xs : List NodeView) (boxes : List (InboxView Packet)) (n : ℕ) (plan : IsPlan p) (h : IsNet p commands alive xs boxes) (lt : n < nodes p) (inbox : IsInbox (inbox_at boxes n)) where
  st : State
  st = state_with p alive xs boxes

  x : NodeView
  x = node_at p xs n

  number : x.number ≡ n
  unfolding x
  number = (part_at p alive xs boxes n h.parts lt).0

  -- what it receives
  receipts : is_active p (state_with p alive xs boxes).net n ≡ true → filter (is_enabled p commands (state_with p alive xs boxes)) (map (λ m. Recv n m) (up_to (nodes p))) ≡ map (λ m. Recv n m) (senders_of (inbox_at boxes n))
  receipts act =
      filter_mapped (is_enabled p commands (state_with p alive xs boxes)) (λ m. Recv n m) (up_to (nodes p))
      ∙ ap (map (λ m. Recv n m))
      (filter_same (λ m. is_active p (state_with p alive xs boxes).net n && is_pending (queue_of (inbox_at boxes n) m)) (λ m. is_pending (queue_of (inbox_at boxes n) m)) (up_to (nodes p)) (λ m _. ap (λ b. b && is_pending (queue_of (inbox_at boxes n) m)) act)
      ∙ filter_up_to (λ m. is_pending (queue_of (inbox_at boxes n) m)) (nodes p) (senders_of (inbox_at boxes n)) (increasing_from_sorted (senders_of (inbox_at boxes n)) inbox.increasing)
      (λ m i. let e = sender_waits (inbox_at boxes n) m inbox.sent i in (senders_below p commands alive xs boxes n m plan h e, e))
      (λ m l e. waits_listed (inbox_at boxes n) m e))

  -- a node that is lost, or is to be lost next, does nothing else
  others_none : is_active p (state_with p alive xs boxes).net n ≡ false → filter (is_enabled p commands (state_with p alive xs boxes)) (cond (is_front p n) (Issue ∷ []) [] ++ map (λ m. Recv n m) (up_to (nodes p))) ≡ []
  unfolding is_front
  others_none idle = filter_none (is_enabled p commands (state_with p alive xs boxes)) _ (λ e i. elim (in_append e (cond (n == front p) (Issue ∷ []) []) (map (λ m. Recv n m) (up_to (nodes p))) i) [
    | inl j ↦ issue e (n == front p) refl j
    | inr j ↦ let r = in_from_map (λ m. Recv n m) (up_to (nodes p)) e j in subst (λ y. is_enabled p commands (state_with p alive xs boxes) y ≡ false) (sym r.1.1) (ap (λ b. b && is_pending (queue_of (inbox_at boxes n) r.0)) idle)
  ])
    where
      issue : (e : CastEvent) (b : Bool) → (n == front p) ≡ b → In e (cond b (Issue ∷ []) []) → is_enabled p commands (state_with p alive xs boxes) e ≡ false
      issue e true k (inl j) =
          subst (λ y. is_enabled p commands (state_with p alive xs boxes) y ≡ false) (sym j)
          (ap (λ b. b && nat_lt (seen (state_with p alive xs boxes) (front p)) commands) (subst (λ z. is_active p (state_with p alive xs boxes).net z ≡ false) (eqb-true n (front p) k) idle))
      issue e true k (inr j) = absurd j
      issue e false k j = absurd j

  -- a node that is active
  issue_kept : is_active p (state_with p alive xs boxes).net n ≡ true → filter (is_enabled p commands (state_with p alive xs boxes)) (cond (is_front p n) (Issue ∷ []) []) ≡ cond (may_issue p commands (node_at p xs n)) (Issue ∷ []) []
  unfolding is_front
  issue_kept act = by (n == front p) refl
    where
      at : (node_at p xs n).number ≡ n
      at = (part_at p alive xs boxes n h.parts lt).0

      by : (b : Bool) → (n == front p) ≡ b → filter (is_enabled p commands (state_with p alive xs boxes)) (cond b (Issue ∷ []) []) ≡ cond (((node_at p xs n).number == front p) && nat_lt (node_at p xs n).seen commands) (Issue ∷ []) []
      by true k =
          ap (λ b. cond b (Issue ∷ []) [])
          (ap (λ b. b && nat_lt (seen (state_with p alive xs boxes) (front p)) commands) (subst (λ z. is_active p (state_with p alive xs boxes).net z ≡ true) (eqb-true n (front p) k) act)
          ∙ ap (λ z. nat_lt (length (obeyed_of (node_at p xs z))) commands) (sym (eqb-true n (front p) k))
          ∙ ap (λ s. nat_lt s commands) (length_numbers 0 (node_at p xs n).seen)
          ∙ ap (λ b. b && nat_lt (node_at p xs n).seen commands) (sym (ap (λ z. z == front p) at ∙ k)))
      by false k = ap (λ b. cond (b && nat_lt (node_at p xs n).seen commands) (Issue ∷ []) []) (sym (ap (λ z. z == front p) at ∙ k))

  pub events_are : events_at p commands (state_with p alive xs boxes) n ≡ own_events p commands (is_alive alive n) (node_at p xs n) (inbox_at boxes n)
  events_are = by (is_alive alive n) (is_doomed p (state_with p alive xs boxes).net n) refl refl
    where
      test : CastEvent → Bool
      test = is_enabled p commands (state_with p alive xs boxes)

      rest : List CastEvent
      rest = cond (is_front p n) (Issue ∷ []) [] ++ map (λ m. Recv n m) (up_to (nodes p))

      at : (node_at p xs n).number ≡ n
      at = (part_at p alive xs boxes n h.parts lt).0

      spent : is_spent (fault p (node_at p xs n).number) (node_at p xs n).count ≡ is_doomed p (state_with p alive xs boxes).net n
      spent = ap (λ k. is_spent (fault p k) (node_at p xs n).count) at

      by : (a d : Bool) → is_alive alive n ≡ a → is_doomed p (state_with p alive xs boxes).net n ≡ d → filter (is_enabled p commands (state_with p alive xs boxes)) (Lose n ∷ (cond (is_front p n) (Issue ∷ []) [] ++ map (λ m. Recv n m) (up_to (nodes p)))) ≡ own_events p commands (is_alive alive n) (node_at p xs n) (inbox_at boxes n)
      by false d ea ed =
          let idle : is_active p (state_with p alive xs boxes).net n ≡ false = ap (λ b. b && not (is_doomed p (state_with p alive xs boxes).net n)) ea in
          let lose : is_enabled p commands (state_with p alive xs boxes) (Lose n) ≡ false = ap (λ b. b && is_doomed p (state_with p alive xs boxes).net n) ea in
          cond-false (is_enabled p commands (state_with p alive xs boxes) (Lose n)) _ _ lose ∙ others_none idle ∙ sym (cond-false (is_alive alive n) _ _ ea)
      by true true ea ed =
          let idle : is_active p (state_with p alive xs boxes).net n ≡ false = ap (λ b. b && not (is_doomed p (state_with p alive xs boxes).net n)) ea ∙ ap not ed in
          let lose : is_enabled p commands (state_with p alive xs boxes) (Lose n) ≡ true = ap (λ b. b && is_doomed p (state_with p alive xs boxes).net n) ea ∙ ed in
          cond-true (is_enabled p commands (state_with p alive xs boxes) (Lose n)) _ _ lose ∙ ap (λ l. Lose n ∷ l) (others_none idle)
          ∙ ap (λ k. Lose k ∷ []) (sym at) ∙ sym (cond-true (is_spent (fault p (node_at p xs n).number) (node_at p xs n).count) _ _ (spent ∙ ed)) ∙ sym (cond-true (is_alive alive n) _ _ ea)
      by true false ea ed =
          let act : is_active p (state_with p alive xs boxes).net n ≡ true = ap (λ b. b && not (is_doomed p (state_with p alive xs boxes).net n)) ea ∙ ap not ed in
          let lose : is_enabled p commands (state_with p alive xs boxes) (Lose n) ≡ false = ap (λ b. b && is_doomed p (state_with p alive xs boxes).net n) ea ∙ ed in
          cond-false (is_enabled p commands (state_with p alive xs boxes) (Lose n)) _ _ lose
          ∙ filter-append (is_enabled p commands (state_with p alive xs boxes)) (cond (is_front p n) (Issue ∷ []) []) (map (λ m. Recv n m) (up_to (nodes p)))
          ∙ (λ i. issue_kept act i ++ receipts act i)
          ∙ ap (λ k. cond (may_issue p commands (node_at p xs n)) (Issue ∷ []) [] ++ map (λ m. Recv k m) (senders_of (inbox_at boxes n))) (sym at)
          ∙ sym (cond-false (is_spent (fault p (node_at p xs n).number) (node_at p xs n).count) _ _ (spent ∙ ed)) ∙ sym (cond-true (is_alive alive n) _ _ ea)

-- ---- the events of a node, as the code reads them

node_here : (p : Plan) (alive : List Bool) (xs : List NodeView) (boxes : List (InboxView Packet)) (n : ℕ) (x : NodeView) → AreParts p alive xs boxes → n < nodes p → x ≡ get_or xs n x → x ≡ node_at p xs n
node_here p alive xs boxes n x h lt e = e ∙ get_or_default xs n x (start_view p n) (let k = h.node_count in omega arith)

box_here : (p : Plan) (alive : List Bool) (xs : List NodeView) (boxes : List (InboxView Packet)) (n : ℕ) (box : InboxView Packet) → AreParts p alive xs boxes → n < nodes p → box ≡ get_or boxes n box → box.waiting ≡ inbox_at boxes n
box_here p alive xs boxes n box h lt e = ap (λ (b : InboxView Packet). b.waiting) (e ∙ get_or_default boxes n box no_inbox (let k = h.inbox_count in omega arith))

pub events_up : (p : Plan) (commands : ℕ) (alive : List Bool) (xs : List NodeView) (boxes : List (InboxView Packet)) (n : ℕ) (x : NodeView) (box : InboxView Packet) (up : Bool) → IsPlan p → IsNet p commands alive xs boxes → n < nodes p → IsInbox box.waiting → x ≡ get_or xs n x → box ≡ get_or boxes n box → up ≡ is_alive alive n → up ≡ true
    → own_events p commands true x box.waiting ≡ events_at p commands (state_with p alive xs boxes) n
events_up p commands alive xs boxes n x box up plan h lt inbox ex eb eu et =
    let wb : box.waiting ≡ inbox_at boxes n = box_here p alive xs boxes n box h.parts lt eb in
    (λ i. own_events p commands ((sym et ∙ eu) i) (node_here p alive xs boxes n x h.parts lt ex i) (wb i))
    ∙ sym (events_are p commands alive xs boxes n plan h lt (subst IsInbox wb inbox))

pub events_down : (p : Plan) (commands : ℕ) (alive : List Bool) (xs : List NodeView) (boxes : List (InboxView Packet)) (n : ℕ) (box : InboxView Packet) (up : Bool) → IsPlan p → IsNet p commands alive xs boxes → n < nodes p → IsInbox box.waiting → box ≡ get_or boxes n box → up ≡ is_alive alive n → up ≡ false
    → events_at p commands (state_with p alive xs boxes) n ≡ []
events_down p commands alive xs boxes n box up plan h lt inbox eb eu ef =
    events_are p commands alive xs boxes n plan h lt (subst IsInbox (box_here p alive xs boxes n box h.parts lt eb) inbox) ∙ cond-false (is_alive alive n) _ _ (sym eu ∙ ef)

pub few_senders : (p : Plan) (commands : ℕ) (alive : List Bool) (xs : List NodeView) (boxes : List (InboxView Packet)) (n : ℕ) (box : InboxView Packet) → IsPlan p → IsNet p commands alive xs boxes → n < nodes p → IsInbox box.waiting → box ≡ get_or boxes n box → length box.waiting ≤ 512
few_senders p commands alive xs boxes n box plan h lt inbox eb =
    let wb : box.waiting ≡ inbox_at boxes n = box_here p alive xs boxes n box h.parts lt eb in
    let in_box : IsInbox (inbox_at boxes n) = subst IsInbox wb inbox in
    let a : 0 + length (senders_of (inbox_at boxes n)) ≤ nodes p = ascending_within_limit (senders_of (inbox_at boxes n)) 0 (nodes p) (omega arith) (increasing_from_sorted (senders_of (inbox_at boxes n)) in_box.increasing)
    (λ m i. (omega arith, senders_below p commands alive xs boxes n m plan h (sender_waits (inbox_at boxes n) m in_box.sent i))) in
    let c : length (senders_of (inbox_at boxes n)) ≡ length (inbox_at boxes n) = length-map (inbox_at boxes n) (λ e. e.0) in
    let f : length box.waiting ≡ length (inbox_at boxes n) = ap length wb in
    let g : nodes p ≤ 512 = plan.topology.within_limit in
    omega arith
