-- What holds of a net that a legal journal leads to.
use Rattle.std.proofs.Common.{◌≡◌, ◌≤◌, ◌<◌, ◌+◌, ◌*◌, ◌^◌, inl, inr, ℕ, suc, Bool, true, false, ◌&&◌, not, nat_lt, List, [], ◌∷◌, ◌++◌, get_or, length, sym, ap, subst, ◌∙◌, arith, mul-le-mul_right, le_refl}
use Rattle.std.proofs.lemmas.Bool.{cases_Bool, true≢false, ltb-true, ltb-false}
use Rattle.std.proofs.lemmas.List.{get_or_default, get_or_past}
use Rattle.overlay_setup.specs.NodeSets.{In}
use Rattle.stat_plan.specs.Plans.{Plan, nodes, front, fault}
use Rattle.stat_plan.specs.Invariants.{IsPlan}
use Rattle.stat_plan.proofs.PlanFacts.{HasPlanFacts, plan_facts}
use Rattle.node_inbox.specs.Inboxes.{InboxView, queue_of}
use Rattle.node_inbox.specs.Sends.{inbox_at, is_alive, no_inbox}
use Rattle.control_cast.specs.declared.event.CastEvent.{CastEvent}
use Rattle.control_cast.specs.declared.event.CastEvent.TheVariants.{Issue, Recv, Lose}
use Rattle.stat_plan.specs.Machine.Overlays.{is_spent, is_pending, is_active, is_doomed}
use Rattle.stat_plan.specs.Machine.Journals.{run}
use Rattle.control_cast.specs.Machine.{Packet, Cmd, Attach, Down, State, seen, start, step, receive, after, is_enabled}
use Rattle.control_cast.specs.CastInvariant.{Fits, CastInvariant}
use Rattle.control_cast.specs.CastNodes.{NodeView, MayReceive, obeyed_of}
use Rattle.control_cast.specs.CastNets.{node_at, start_view, state_with, AreParts, IsReached, IsNet}
use Rattle.control_cast.specs.Bound.{bound}
use Rattle.stat_plan.proofs.Relatives.{test_from_related}
use Rattle.stat_plan.proofs.Overlays.{put_each}
use Rattle.control_cast.proofs.CastNodes.{length_numbers}
use Rattle.control_cast.specs.CastStates.{may_come, event_node}
use Rattle.control_cast.proofs.CastNets.{part_at}
use Rattle.stat_plan.proofs.Journals.{run_more, legal_more}
use Rattle.control_cast.proofs.Sound.{legal_is_sound}
use Rattle.control_cast.proofs.Short.{legal_is_short, sender_below}

-- ---- no node has done more events than there are

step_counts : (p : Plan) (st : State) (e : CastEvent) (k : ℕ) → ((n : ℕ) → st.net.count n ≤ k) → (n : ℕ) → (step p st e).net.count n ≤ suc k
step_counts p st Issue k h n = put_each (λ a c. c ≤ suc k) st.net.count (front p) (suc (st.net.count (front p))) (let l = h (front p) in omega arith) (λ a. let l = h a in omega arith) n
step_counts p st (Recv m q) k h n = by (st.net.link q m)
  where
    by : (qs : List Packet) → (receive p st m q qs).net.count n ≤ suc k
    by [] = let l = h n in omega arith
    by (x ∷ xs) = put_each (λ a c. c ≤ suc k) st.net.count m (suc (st.net.count m)) (let l = h m in omega arith) (λ a. let l = h a in omega arith) n
step_counts p st (Lose m) k h n = let l = h n in omega arith

run_counts : (p : Plan) (st : State) (es : List CastEvent) (k : ℕ) → ((n : ℕ) → st.net.count n ≤ k) → (n : ℕ) → (run (step p) st es).net.count n ≤ k + length es
run_counts p st [] k h n = let l = h n in omega arith
run_counts p st (e ∷ es) k h n = let l = run_counts p (step p st e) es (suc k) (step_counts p st e k h) n in omega arith

small_bound : (p : Plan) (commands : ℕ) → nodes p ≤ 512 → commands ≤ 1000 → bound p commands ≤ 4363752
small_bound p commands ln lc =
    let a : nodes p * nodes p ≤ 512 * nodes p = mul-le-mul_right (nodes p) ln in
    let b : 8 * nodes p ≤ 8 * 512 = omega arith in
    let d : 8 * nodes p * commands ≤ 8 * 512 * commands = mul-le-mul_right commands b in
    omega arith

-- ---- a net that is reached

pub net_is_sound : (p : Plan) (commands : ℕ) (alive : List Bool) (xs : List NodeView) (boxes : List (InboxView Packet)) → IsPlan p → IsNet p commands alive xs boxes → CastInvariant p commands (state_with p alive xs boxes)
net_is_sound p commands alive xs boxes plan h = subst (CastInvariant p commands) (sym h.reached.state) (legal_is_sound p commands h.reached.journal (plan_facts p plan) h.reached.legal)

pub count_small : (p : Plan) (commands : ℕ) (alive : List Bool) (xs : List NodeView) (boxes : List (InboxView Packet)) (n : ℕ) → IsPlan p → commands ≤ 1000 → IsNet p commands alive xs boxes → (node_at p xs n).count + 1 < 2 ^ 64
count_small p commands alive xs boxes n plan few h =
    let a : (after p h.reached.journal).net.count n ≤ 0 + length h.reached.journal = run_counts p (start p) h.reached.journal 0 (λ a. le_refl _) n in
    let b : length h.reached.journal ≤ bound p commands = legal_is_short p commands h.reached.journal (plan_facts p plan) h.reached.legal in
    let d : bound p commands ≤ 4363752 = small_bound p commands plan.topology.within_limit few in
    let e : (node_at p xs n).count ≡ (after p h.reached.journal).net.count n = ap (λ (s : State). s.net.count n) h.reached.state in
    omega arith

pub seen_small : (p : Plan) (commands : ℕ) (alive : List Bool) (xs : List NodeView) (boxes : List (InboxView Packet)) (n : ℕ) → IsPlan p → commands ≤ 1000 → IsNet p commands alive xs boxes → (node_at p xs n).seen ≤ commands
seen_small p commands alive xs boxes n plan few h =
    let a = (net_is_sound p commands alive xs boxes plan h).within_limit n in
    let e : length (obeyed_of (node_at p xs n)) ≡ (node_at p xs n).seen = length_numbers 0 (node_at p xs n).seen in
    omega arith

-- what waits may be received
pub may_receive : (p : Plan) (commands : ℕ) (alive : List Bool) (xs : List NodeView) (boxes : List (InboxView Packet)) (n m : ℕ) → IsPlan p → IsNet p commands alive xs boxes → (q : Packet) → In q (queue_of (inbox_at boxes n) m) → MayReceive p n m q
may_receive p commands alive xs boxes n m plan h q i = by q i ((sound.base.links m n).packets q i)
  where
    facts : HasPlanFacts p
    facts = plan_facts p plan

    sound : CastInvariant p commands (state_with p alive xs boxes)
    sound = net_is_sound p commands alive xs boxes plan h

    by : (q : Packet) → In q (queue_of (inbox_at boxes n) m) → Fits p m n q → MayReceive p n m q
    by (Cmd k) i fits = tt
    by (Attach k) i fits = sender_below p m n (Attach k) facts fits
    by Down i fits = (test_from_related p n m fits, λ e. true≢false (sym sound.base.front ∙ ap (is_alive alive) (sym e) ∙ (sound.base.links m n).sender i))

-- one event more
pub reached_more : (p : Plan) (commands : ℕ) (st new : State) (e : CastEvent) → IsReached p commands st → is_enabled p commands st e ≡ true → new ≡ step p st e → IsReached p commands new
reached_more p commands st new e h en is = record {
  journal = h.journal ++ e ∷ [];
  legal = legal_more (step p) (is_enabled p commands) (start p) h.journal e h.legal (subst (λ s. is_enabled p commands s e ≡ true) h.state en);
  state = is ∙ ap (λ s. step p s e) h.state ∙ sym (run_more (step p) (start p) h.journal e);
}

-- ---- which events may come

lives_below : (alive : List Bool) (n : ℕ) → is_alive alive n ≡ true → n < length alive
lives_below alive n u = elim (cases_Bool (nat_lt n (length alive))) [ inl t ↦ ltb-true n (length alive) t | inr f ↦ absurd (true≢false (sym u ∙ get_or_past alive n false (ltb-false n (length alive) f))) ]

pub enabled_is : (p : Plan) (commands : ℕ) (alive : List Bool) (xs : List NodeView) (boxes : List (InboxView Packet)) (e : CastEvent) (n : ℕ) (x y : NodeView) (box other : InboxView Packet) (r : Bool) → AreParts p alive xs boxes → n ≡ event_node p e → is_alive alive n ≡ true
    → get_or xs n x ≡ y → get_or boxes n box ≡ other → r ≡ may_come p commands y other.waiting e → r ≡ is_enabled p commands (state_with p alive xs boxes) e
enabled_is p commands alive xs boxes e n x y box other r h en u ey eb er = er ∙ by e en
  where
    lt : n < length xs
    lt = (let a = lives_below alive n u in let b = h.alive_count in let c = h.node_count in omega arith)

    lb : n < length boxes
    lb = (let a = lives_below alive n u in let b = h.alive_count in let c = h.inbox_count in omega arith)

    here : y ≡ node_at p xs n
    here = sym ey ∙ get_or_default xs n x (start_view p n) lt

    there : other.waiting ≡ inbox_at boxes n
    there = ap (λ (b : InboxView Packet). b.waiting) (sym eb ∙ get_or_default boxes n box no_inbox lb)

    number : (node_at p xs n).number ≡ n
    number = (part_at p alive xs boxes n h (let a = lives_below alive n u in let b = h.alive_count in omega arith)).0

    doomed : is_spent (fault p y.number) y.count ≡ is_doomed p (state_with p alive xs boxes).net n
    doomed = ap (λ (v : NodeView). is_spent (fault p v.number) v.count) here ∙ ap (λ k. is_spent (fault p k) (node_at p xs n).count) number

    active : not (is_spent (fault p y.number) y.count) ≡ is_active p (state_with p alive xs boxes).net n
    active = ap not doomed ∙ ap (λ b. b && not (is_doomed p (state_with p alive xs boxes).net n)) (sym u)

    by : (e : CastEvent) → n ≡ event_node p e → may_come p commands y other.waiting e ≡ is_enabled p commands (state_with p alive xs boxes) e
    by Issue k =
        ap (λ b. b && nat_lt y.seen commands) active
        ∙ ap (λ s. is_active p (state_with p alive xs boxes).net n && nat_lt s commands) (ap (λ (v : NodeView). v.seen) here ∙ sym (length_numbers 0 (node_at p xs n).seen))
        ∙ ap (λ m. is_active p (state_with p alive xs boxes).net m && nat_lt (seen (state_with p alive xs boxes) m) commands) k
    by (Recv a m) k =
        ap (λ b. b && is_pending (queue_of other.waiting m)) active
        ∙ ap (λ w. is_active p (state_with p alive xs boxes).net n && is_pending (queue_of w m)) there
        ∙ ap (λ z. is_active p (state_with p alive xs boxes).net z && is_pending (queue_of (inbox_at boxes z) m)) k
    by (Lose a) k = doomed ∙ ap (λ b. b && is_doomed p (state_with p alive xs boxes).net n) (sym u) ∙ ap (λ z. is_alive alive z && is_doomed p (state_with p alive xs boxes).net z) k
