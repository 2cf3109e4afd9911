-- The weight of a state falls with each event, so no legal journal is long.
use Rattle.std.proofs.Common.{◌≡◌, ◌≤◌, ◌<◌, ◌+◌, ◌-◌, ◌*◌, inl, inr, ℕ, suc, true, false, not, ◌==◌, List, [], ◌∷◌, ◌++◌, map, filter, length, refl, sym, ap, subst, ◌∙◌, arith, zero-le, le_refl, le_trans, eq-eqb, Option, Some, None}
use Rattle.std.proofs.lemmas.Bool.{cases_Bool, and_parts, cond-true, true≢false, ltb-true}
use Rattle.overlay_setup.specs.NodeSets.{In, member, with_number}
use Rattle.stat_plan.specs.Plans.{Plan, IsUnder, ancestors, nodes, front}
use Rattle.stat_plan.specs.Machine.Kin.{Kin, nearest, is_parent, with_child, with_parent, without_child}
use Rattle.stat_plan.proofs.KinLemmas.{nearest_in, with_number_old, with_number_new, nearest_split, is_parent_some}
use Rattle.stat_plan.proofs.PlanFacts.{HasPlanFacts}
use Rattle.stat_plan.proofs.Totals.{length_filter_le, length_filter_less, length_filter_drop}
use Rattle.stat_plan.proofs.InLists.{in_member, in_from_member}
use Rattle.control_cast.specs.declared.event.CastEvent.{CastEvent}
use Rattle.control_cast.specs.declared.event.CastEvent.TheVariants.{Issue, Recv, Lose}
use Rattle.stat_plan.specs.Machine.Overlays.{to_parent, with_link, is_pending}
use Rattle.stat_plan.proofs.Journals.{run_is_short}
use Rattle.control_cast.specs.Machine.{Packet, Cmd, Attach, Down, State, seen, numbers_after, obey, received_cmd, received_attach, received_down, commit, receive, start, step, is_enabled, IsLegal}
use Rattle.control_cast.specs.CastInvariant.{Fits, CastInvariant}
use Rattle.control_cast.specs.Bound.{bound}
use Rattle.stat_plan.proofs.Overlays.{put_here, put_else}
use Rattle.stat_plan.proofs.Weights.{weight, sends_weight, popped_weight, event_weight, loss_weight, start_weight}
use Rattle.control_cast.proofs.Obeying.{linked, obeying, seen_here, kin_same}
use Rattle.control_cast.proofs.Receiving.{next_comes}
use Rattle.control_cast.proofs.Hearing.{other_outcome, parent_outcome}
use Rattle.control_cast.proofs.Sound.{active_parts, step_keeps, start_cast}

-- ---- what packets and nodes weigh

abbrev pub packet_weight : Packet → ℕ
packet_weight (Cmd i) = 0
packet_weight (Attach k) = 1
packet_weight Down = 1

-- the ancestors that a node doesn't know to be lost
pub unknown : Plan → ℕ → List ℕ → ℕ
unknown p n lost = length (filter (λ a. not (member a lost)) (ancestors p n))

-- a node may change its parent that often, and will obey that many commands
pub own : Plan → ℕ → State → ℕ → ℕ
own p commands st n = unknown p n (st.net.kin n).lost + (commands - seen st n)

abbrev pub cast_weight : Plan → ℕ → State → ℕ
cast_weight p commands st = weight p packet_weight (own p commands st) st.net

-- ---- what is sent

no_weight : (c : Packet) (xs : List ℕ) → packet_weight c ≡ 0 → sends_weight packet_weight (map (λ x. (x, c)) xs) ≡ 0
no_weight c [] e = refl
no_weight c (x ∷ xs) e = let ih : sends_weight packet_weight (map (λ x. (x, c)) xs) ≡ 0 = no_weight c xs e in omega arith

no_weight_numbers : (m : ℕ) (is : List ℕ) → sends_weight packet_weight (map (λ i. (m, Cmd i)) is) ≡ 0
no_weight_numbers m [] = refl
no_weight_numbers m (i ∷ is) = let ih : sends_weight packet_weight (map (λ i. (m, Cmd i)) is) ≡ 0 = no_weight_numbers m is in omega arith

to_parent_weight : (o : Option ℕ) (k : ℕ) → sends_weight packet_weight (to_parent o (Attach k)) ≤ 1
to_parent_weight None k = zero-le
to_parent_weight (Some m) k = le_refl _

-- ---- what a node weighs after an event of its own

own_by : (p : Plan) (commands : ℕ) (st : State) (n : ℕ) (lost : List ℕ) (k : ℕ) → (st.net.kin n).lost ≡ lost → seen st n ≡ k → own p commands st n ≡ unknown p n lost + (commands - k)
unfolding own
own_by p commands st n lost k el es = ap (λ l. unknown p n l + (commands - seen st n)) el ∙ ap (λ x. unknown p n lost + (commands - x)) es

own_same : (p : Plan) (commands : ℕ) (st new : State) (a : ℕ) → new.net.kin a ≡ st.net.kin a → new.obeyed a ≡ st.obeyed a → own p commands new a ≡ own p commands st a
unfolding own
own_same p commands st new a ek eo = ap (λ k. unknown p a k.lost + (commands - seen new a)) ek ∙ ap (λ l. unknown p a (st.net.kin a).lost + (commands - length l)) eo

-- ---- each event

obey_falls : (p : Plan) (commands : ℕ) (st : State) (link : ℕ → ℕ → List Packet) (n : ℕ) → n < nodes p → st.net.alive n ≡ true → seen st n < commands → cast_weight p commands (obeying st link n) + 1 ≤ cast_weight p commands (linked st link) + 0
unfolding own
obey_falls p commands st link n lt up room =
    event_weight p packet_weight (own p commands st) (own p commands new) (linked st link).net n (st.net.kin n) (map (λ c. (c, Cmd (suc (seen st n)))) (st.net.kin n).children) 1 0 lt up
    (λ a ne. own_same p commands st new a (kin_same st link n a) (put_else st.obeyed n (st.obeyed n ++ suc (seen st n) ∷ []) a ne))
    (let a : own p commands new n ≡ unknown p n (st.net.kin n).lost + (commands - suc (seen st n)) = own_by p commands new n (st.net.kin n).lost (suc (seen st n)) (ap (λ k. k.lost) (kin_same st link n n)) (seen_here st link n) in
    let b : own p commands st n ≡ unknown p n (st.net.kin n).lost + (commands - seen st n) = own_by p commands st n (st.net.kin n).lost (seen st n) refl refl in
    let c = no_weight (Cmd (suc (seen st n))) (st.net.kin n).children refl in
    omega arith)
  where
    new : State
    new = obeying st link n

cmd_falls : (p : Plan) (commands : ℕ) (st : State) (m n i : ℕ) (qs : List Packet) → CastInvariant p commands st → m < nodes p → n < nodes p → st.net.alive n ≡ true → st.net.link m n ≡ Cmd i ∷ qs
    → cast_weight p commands (commit (record { net = with_link st.net m n qs; obeyed = st.obeyed }) n (received_cmd (st.net.kin n) (st.obeyed n) i)) + 1 ≤ cast_weight p commands st
unfolding own
cmd_falls p commands st m n i qs h lm ln up e =
    let x = next_comes p commands st m n i qs h up e in
    let is : received_cmd (st.net.kin n) (st.obeyed n) i ≡ obey (st.net.kin n) (st.obeyed n) (suc (seen st n)) =
    cond-true (i == suc (seen st n)) _ _ (eq-eqb i (suc (seen st n)) x.number) ∙ ap (obey (st.net.kin n) (st.obeyed n)) x.number in
    let room : seen st n < commands = (let a = h.within_limit m in let b = x.above in omega arith) in
    let a = obey_falls p commands st (with_link st.net m n qs).link n ln up room in
    let b = popped_weight p packet_weight (own p commands st) st.net m n (Cmd i) qs lm ln e in
    subst (λ o. cast_weight p commands (commit (record { net = with_link st.net m n qs; obeyed = st.obeyed }) n o) + 1 ≤ cast_weight p commands st) (sym is) (omega arith)

attach_falls : (p : Plan) (commands : ℕ) (st : State) (m n k : ℕ) (qs : List Packet) → m < nodes p → n < nodes p → st.net.alive n ≡ true → st.net.link m n ≡ Attach k ∷ qs
    → cast_weight p commands (commit (record { net = with_link st.net m n qs; obeyed = st.obeyed }) n (received_attach (st.net.kin n) (st.obeyed n) m k)) + 1 ≤ cast_weight p commands st
attach_falls p commands st m n k qs lm ln up e =
    let a = event_weight p packet_weight (own p commands st) (own p commands new) (with_link st.net m n qs) n (with_child (st.net.kin n) m) (map (λ i. (m, Cmd i)) (numbers_after k (seen st n - k))) 1 1 ln up
    (λ a ne. own_same p commands st new a (put_else st.net.kin n (with_child (st.net.kin n) m) a ne) (put_else st.obeyed n (st.obeyed n) a ne))
    (let a : own p commands new n ≡ unknown p n (st.net.kin n).lost + (commands - seen st n) = own_by p commands new n (st.net.kin n).lost (seen st n) (ap (λ k. k.lost) (put_here st.net.kin n (with_child (st.net.kin n) m))) (ap length (put_here st.obeyed n (st.obeyed n))) in
    let b : own p commands st n ≡ unknown p n (st.net.kin n).lost + (commands - seen st n) = own_by p commands st n (st.net.kin n).lost (seen st n) refl refl in
    let c = no_weight_numbers m (numbers_after k (seen st n - k)) in
    omega arith) in
    let b = popped_weight p packet_weight (own p commands st) st.net m n (Attach k) qs lm ln e in
    omega arith
  where
    new : State
    new = commit (record { net = with_link st.net m n qs; obeyed = st.obeyed }) n (received_attach (st.net.kin n) (st.obeyed n) m k)

-- one more that is known to be lost
keeps : (m a : ℕ) (lost : List ℕ) → not (member a (with_number m lost)) ≡ true → not (member a lost) ≡ true
keeps m a lost e = elim (cases_Bool (member a lost)) [
  | inl t ↦ absurd (true≢false (sym e ∙ ap not (in_member a (with_number m lost) (with_number_old a m lost (in_from_member a lost t)))))
  | inr f ↦ ap not f
]

unknown_less : (p : Plan) (n m : ℕ) (lost : List ℕ) → unknown p n (with_number m lost) ≤ unknown p n lost
unfolding unknown
unknown_less p n m lost = length_filter_less (λ a. not (member a (with_number m lost))) (λ a. not (member a lost)) (ancestors p n) (λ a i e. keeps m a lost e)

unknown_drop : (p : Plan) (n m : ℕ) (lost : List ℕ) → IsUnder p n m → member m lost ≡ false → unknown p n (with_number m lost) + 1 ≤ unknown p n lost
unfolding unknown
unknown_drop p n m lost u f =
    length_filter_drop (λ a. not (member a (with_number m lost))) (λ a. not (member a lost)) (ancestors p n) m (λ a i e. keeps m a lost e) u
    (ap not (in_member m (with_number m lost) (with_number_new m lost))) (ap not f)

down_falls : (p : Plan) (commands : ℕ) (st : State) (m n : ℕ) (qs : List Packet) (kin : Kin) (sends : List (ℕ × Packet)) → m < nodes p → n < nodes p → st.net.alive n ≡ true → st.net.link m n ≡ Down ∷ qs
    → kin.lost ≡ with_number m (st.net.kin n).lost
    → unknown p n (with_number m (st.net.kin n).lost) + sends_weight packet_weight sends ≤ unknown p n (st.net.kin n).lost
    → cast_weight p commands (commit (record { net = with_link st.net m n qs; obeyed = st.obeyed }) n (record { kin = kin; obeyed = st.obeyed n; sends = sends })) + 1 ≤ cast_weight p commands st
down_falls p commands st m n qs kin sends lm ln up e lost_is less =
    let a = event_weight p packet_weight (own p commands st) (own p commands new) (with_link st.net m n qs) n kin sends 1 1 ln up
    (λ a ne. own_same p commands st new a (put_else st.net.kin n kin a ne) (put_else st.obeyed n (st.obeyed n) a ne))
    (let a : own p commands new n ≡ unknown p n (with_number m (st.net.kin n).lost) + (commands - seen st n) = own_by p commands new n (with_number m (st.net.kin n).lost) (seen st n) (ap (λ k. k.lost) (put_here st.net.kin n kin) ∙ lost_is) (ap length (put_here st.obeyed n (st.obeyed n))) in
    let b : own p commands st n ≡ unknown p n (st.net.kin n).lost + (commands - seen st n) = own_by p commands st n (st.net.kin n).lost (seen st n) refl refl in
    omega arith) in
    let b = popped_weight p packet_weight (own p commands st) st.net m n Down qs lm ln e in
    omega arith
  where
    new : State
    new = commit (record { net = with_link st.net m n qs; obeyed = st.obeyed }) n (record { kin = kin; obeyed = st.obeyed n; sends = sends })

notice_falls : (p : Plan) (commands : ℕ) (st : State) (m n : ℕ) (qs : List Packet) → CastInvariant p commands st → m < nodes p → n < nodes p → st.net.alive n ≡ true → st.net.link m n ≡ Down ∷ qs
    → cast_weight p commands (commit (record { net = with_link st.net m n qs; obeyed = st.obeyed }) n (received_down p n (st.net.kin n) (st.obeyed n) m)) + 1 ≤ cast_weight p commands st
notice_falls p commands st m n qs h lm ln up e = elim (cases_Bool (is_parent (st.net.kin n).parent m)) [
  | inl t ↦ subst (λ o. cast_weight p commands (commit (record { net = with_link st.net m n qs; obeyed = st.obeyed }) n o) + 1 ≤ cast_weight p commands st) (sym (parent_outcome p n (st.net.kin n) (st.obeyed n) m t))
      (down_falls p commands st m n qs (with_parent p n (st.net.kin n) m) (to_parent (with_parent p n (st.net.kin n) m).parent (Attach (seen st n))) lm ln up e refl
      (let en : nearest (ancestors p n) (st.net.kin n).lost ≡ Some m = sym (h.base.kin n).parent ∙ is_parent_some (st.net.kin n).parent m t in
      let r = nearest_split (ancestors p n) (st.net.kin n).lost m en in
      let a : unknown p n (with_number m (st.net.kin n).lost) + 1 ≤ unknown p n (st.net.kin n).lost = unknown_drop p n m (st.net.kin n).lost (nearest_in (ancestors p n) (st.net.kin n).lost m en) r.3 in
      let b : sends_weight packet_weight (to_parent (with_parent p n (st.net.kin n) m).parent (Attach (seen st n))) ≤ 1 = to_parent_weight (with_parent p n (st.net.kin n) m).parent (seen st n) in
      omega arith))
  | inr t ↦ subst (λ o. cast_weight p commands (commit (record { net = with_link st.net m n qs; obeyed = st.obeyed }) n o) + 1 ≤ cast_weight p commands st) (sym (other_outcome p n (st.net.kin n) (st.obeyed n) m t))
      (down_falls p commands st m n qs (without_child (st.net.kin n) m) [] lm ln up e refl (let a = unknown_less p n m (st.net.kin n).lost in omega arith))
]

-- who sends a packet is a node
pub sender_below : (p : Plan) (m n : ℕ) (q : Packet) → HasPlanFacts p → Fits p m n q → m < nodes p
sender_below p m n (Cmd i) plan u = (plan.under_nodes n m u).1
sender_below p m n (Attach k) plan u = (plan.under_nodes m n u).0
sender_below p m n Down plan (inl u) = (plan.under_nodes n m u).1
sender_below p m n Down plan (inr u) = (plan.under_nodes m n u).0

receive_falls : (p : Plan) (commands : ℕ) (st : State) (n m : ℕ) (qs : List Packet) → HasPlanFacts p → CastInvariant p commands st → st.net.alive n ≡ true → st.net.link m n ≡ qs → is_pending qs ≡ true → cast_weight p commands (receive p st n m qs) + 1 ≤ cast_weight p commands st
receive_falls p commands st n m [] plan h up e some = absurd (true≢false (sym some))
receive_falls p commands st n m (Cmd i ∷ qs) plan h up e some =
    cmd_falls p commands st m n i qs h (sender_below p m n (Cmd i) plan ((h.base.links m n).packets (Cmd i) (subst (λ l. In (Cmd i) l) (sym e) (inl refl)))) (h.base.nodes n up) up e
receive_falls p commands st n m (Attach k ∷ qs) plan h up e some =
    attach_falls p commands st m n k qs (sender_below p m n (Attach k) plan ((h.base.links m n).packets (Attach k) (subst (λ l. In (Attach k) l) (sym e) (inl refl)))) (h.base.nodes n up) up e
receive_falls p commands st n m (Down ∷ qs) plan h up e some =
    notice_falls p commands st m n qs h (sender_below p m n Down plan ((h.base.links m n).packets Down (subst (λ l. In Down l) (sym e) (inl refl)))) (h.base.nodes n up) up e

pub step_falls : (p : Plan) (commands : ℕ) → HasPlanFacts p → (st : State) (e : CastEvent) → CastInvariant p commands st → is_enabled p commands st e ≡ true → cast_weight p commands (step p st e) + 1 ≤ cast_weight p commands st
unfolding own
step_falls p commands plan st Issue h en =
    let t = and_parts _ _ en in
    let a = obey_falls p commands st st.net.link (front p) plan.front_below (active_parts p st.net (front p) t.0).0 (ltb-true (seen st (front p)) commands t.1) in
    omega arith
step_falls p commands plan st (Recv n m) h en = let t = and_parts _ _ en in receive_falls p commands st n m (st.net.link m n) plan h (active_parts p st.net n t.0).0 refl t.1
step_falls p commands plan st (Lose n) h en = let up = (and_parts _ _ en).0 in loss_weight p packet_weight (own p commands st) Down st.net n (le_refl _) (h.base.nodes n up) up

arithmetic : (n c : ℕ) → n * (n + (8 + c)) ≤ c + n * n + 9 * n + 8 * n * c
arithmetic n c = omega arith

pub start_is_light : (p : Plan) (commands : ℕ) → HasPlanFacts p → cast_weight p commands (start p) ≤ bound p commands
unfolding own unknown
start_is_light p commands plan =
    let a : cast_weight p commands (start p) ≤ nodes p * (nodes p + (8 + commands)) = start_weight p packet_weight (own p commands (start p)) (8 + commands) few in
    le_trans a (arithmetic (nodes p) commands)
  where
    few : (a : ℕ) → own p commands (start p) a ≤ 8 + commands
    few a =
        let x : length (filter (λ b. not (member b [])) (ancestors p a)) ≤ length (ancestors p a) = length_filter_le (λ b. not (member b [])) (ancestors p a) in
        let y : length (ancestors p a) ≤ 8 = plan.shallow a in
        omega arith

pub legal_is_short : (p : Plan) (commands : ℕ) (journal : List CastEvent) → HasPlanFacts p → IsLegal p commands journal → length journal ≤ bound p commands
legal_is_short p commands journal plan l =
    le_trans (run_is_short (CastInvariant p commands) (step p) (is_enabled p commands) (cast_weight p commands) (step_keeps p commands plan) (step_falls p commands plan) (start p) journal (start_cast p commands plan) l) (start_is_light p commands plan)
