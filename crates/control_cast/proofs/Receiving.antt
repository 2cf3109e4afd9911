-- A packet that is received keeps the invariant.
use Rattle.std.proofs.Common.{◌≡◌, ◌≤◌, ◌+◌, inl, inr, ℕ, suc, true, ◌==◌, List, [], ◌∷◌, refl, sym, ap, subst, ◌∙◌, eq-eqb, arith, Some}
use Rattle.std.proofs.lemmas.Bool.{cases_Bool, cond-true, true≢false}
use Rattle.std.proofs.lemmas.Option.{same_Some}
use Rattle.overlay_setup.specs.NodeSets.{In}
use Rattle.stat_plan.specs.Plans.{Plan, IsUnder, ancestors}
use Rattle.stat_plan.proofs.KinLemmas.{nearest_in, nearest_split}
use Rattle.stat_plan.proofs.PlanFacts.{HasPlanFacts}
use Rattle.stat_plan.specs.Machine.Overlays.{with_link}
use Rattle.stat_plan.specs.Machine.LossInvariant.{IsPacketRule}
use Rattle.stat_plan.proofs.InLists.{in_append}
use Rattle.control_cast.specs.Machine.{Packet, Cmd, Down, State, seen, obey, received_cmd, commit}
use Rattle.control_cast.specs.CastInvariant.{Fits, IsJoined, CastInvariant}
use Rattle.stat_plan.proofs.Overlays.{popped_here, popped_else, popped_in}
use Rattle.stat_plan.proofs.LossInvariant.{popped_keeps}
use Rattle.control_cast.proofs.Commands.{cmds_first, cmds_first_down, joined_by}
use Rattle.control_cast.proofs.Obeying.{IsTaken, obey_keeps}

pub packet_rule : (p : Plan) → IsPacketRule p Down (Fits p)
packet_rule p = record { related = λ m n h. h; may_notify = λ m n h. h }

-- n has taken a packet of m
pub taken_from : (st : State) (m n : ℕ) (q : Packet) (qs : List Packet) → st.net.link m n ≡ q ∷ qs → IsTaken st n (with_link st.net m n qs).link
taken_from st m n q qs e = record {
  else = λ a b nb. popped_else st.net m n qs a b (λ i j. nb j);
  subset = λ a b x i. popped_in st.net m n q qs e a b x i;
}

-- the parent of a living node
pub parent_is_above : (p : Plan) (commands : ℕ) (st : State) (c q : ℕ) → CastInvariant p commands st → (st.net.kin c).parent ≡ Some q → IsUnder p c q
parent_is_above p commands st c q h e = nearest_in (ancestors p c) (st.net.kin c).lost q (sym (h.base.kin c).parent ∙ e)

-- ---- a command

-- a command that is received is the next one, and the parent has obeyed it
pub record IsNext (st : State) (m n i : ℕ) (qs : List Packet) : Type 0 where
  pub number : i ≡ suc (seen st n)
  pub above : suc (seen st n) ≤ seen st m
  pub joined : IsJoined (st.net.alive m) n (suc (seen st n)) (seen st m) (st.net.kin m).children (st.net.link n m) qs

pub next_comes : (p : Plan) (commands : ℕ) (st : State) (m n i : ℕ) (qs : List Packet) → CastInvariant p commands st → st.net.alive n ≡ true → st.net.link m n ≡ Cmd i ∷ qs → IsNext st m n i qs
next_comes p commands st m n i qs h up e =
    let par : (st.net.kin n).parent ≡ Some m = h.commanded m n i (subst (λ l. In (Cmd i) l) (sym e) (inl refl)) in
    let j = h.joined n m up par in
    elim (cases_Bool (st.net.alive m)) [
      | inl u ↦ elim (j.living u) [
        | inl k ↦
            let r = cmds_first i qs (seen st n) k.rest (sym e ∙ k.coming) in
            let er : k.rest ≡ suc r.0 = r.1.0 in
            let es : seen st n + k.rest ≡ seen st m = k.sum in
            record {
              number = r.1.1;
              above = omega arith;
              joined = record {
                living = λ v. inl (record { there = k.there; up_empty = k.up_empty; rest = r.0; coming = r.1.2; sum = omega arith });
                lost = λ d. absurd (true≢false (sym u ∙ d));
              };
            }
        | inr k ↦ absurd (nil (sym e ∙ k.down_empty))
      ]
      | inr d ↦
          let k = j.lost d in
          let r = cmds_first_down i qs (seen st n) k.rest (sym e ∙ k.coming) in
          let er : k.rest ≡ suc r.0 = r.1.0 in
          let es : seen st n + k.rest ≤ seen st m = k.within (omega arith) in
          record {
            number = r.1.1;
            above = omega arith;
            joined = record {
              living = λ v. absurd (true≢false (sym v ∙ d));
              lost = λ d. record { rest = r.0; coming = r.1.2; within = λ some. omega arith };
            };
          }
    ]
  where
    nil : (Cmd i ∷ qs) ≡ [] → ⊥
    nil f = cc

-- what the parent has obeyed, each living ancestor has
pub within_above : (p : Plan) (commands : ℕ) (st : State) (n m k : ℕ) → HasPlanFacts p → CastInvariant p commands st → (st.net.kin n).parent ≡ Some m → k ≤ seen st m → (q : ℕ) → st.net.alive q ≡ true → IsUnder p n q → k ≤ seen st q
within_above p commands st n m k plan h par le q uq un =
    let r = nearest_split (ancestors p n) (st.net.kin n).lost m (sym (h.base.kin n).parent ∙ par) in
    elim (in_append q r.0 (m ∷ r.1) (subst (λ l. In q l) r.2 un)) [
      | inl i ↦ absurd (true≢false (sym uq ∙ (h.base.kin n).lost q (r.4 q i)))
      | inr i ↦ elim i [
        | inl e ↦ subst (λ x. k ≤ seen st x) (sym e) le
        | inr j ↦
            let um : IsUnder p m q = subst (λ l. In q l) (sym (plan.rest n m r.0 r.1 r.2)) j in
            let a : seen st m ≤ seen st q = h.above m q uq um in
            omega arith
      ]
    ]

pub cmd_keeps : (p : Plan) (commands : ℕ) (st : State) (m n i : ℕ) (qs : List Packet) → HasPlanFacts p → CastInvariant p commands st → st.net.alive n ≡ true → st.net.link m n ≡ Cmd i ∷ qs
    → CastInvariant p commands (commit (record { net = with_link st.net m n qs; obeyed = st.obeyed }) n (received_cmd (st.net.kin n) (st.obeyed n) i))
cmd_keeps p commands st m n i qs plan h up e =
    let x = next_comes p commands st m n i qs h up e in
    let par : (st.net.kin n).parent ≡ Some m = h.commanded m n i (subst (λ l. In (Cmd i) l) (sym e) (inl refl)) in
    let um : IsUnder p n m = parent_is_above p commands st n m h par in
    let ne : n ≡ m → ⊥ = (λ z. plan.under_irrefl n (subst (λ y. IsUnder p n y) (sym z) um)) in
    let is : received_cmd (st.net.kin n) (st.obeyed n) i ≡ obey (st.net.kin n) (st.obeyed n) (suc (seen st n)) =
    cond-true (i == suc (seen st n)) _ _ (eq-eqb i (suc (seen st n)) x.number) ∙ ap (obey (st.net.kin n) (st.obeyed n)) x.number in
    subst (λ o. CastInvariant p commands (commit (record { net = with_link st.net m n qs; obeyed = st.obeyed }) n o)) (sym is)
    (obey_keeps p commands st (with_link st.net m n qs).link n plan h up
    (popped_keeps p Down (Fits p) st.net m n (Cmd i) qs h.base e other)
    (taken_from st m n (Cmd i) qs e)
    (λ c uc parc. popped_else st.net m n qs c n (λ ec en. from_child c ec parc um))
    (let a = h.within_limit m in let b = x.above in omega arith)
    (within_above p commands st n m (suc (seen st n)) plan h par x.above)
    (λ q parq.
    let eq : q ≡ m = same_Some q m (sym parq ∙ par) in
    subst (λ y. IsJoined (st.net.alive y) n (suc (seen st n)) (seen st y) (st.net.kin y).children ((with_link st.net m n qs).link n y) ((with_link st.net m n qs).link y n)) (sym eq)
    (joined_by (st.net.alive m) n (suc (seen st n)) (seen st m) (st.net.kin m).children (st.net.link n m) qs (suc (seen st n)) (seen st m) (st.net.kin m).children ((with_link st.net m n qs).link n m) ((with_link st.net m n qs).link m n)
    refl refl refl (popped_else st.net m n qs n m (λ a b. ne a)) (popped_here st.net m n qs) x.joined)))
  where
    other : Cmd i ≡ Down → ⊥
    other f = cc

    -- a child of n isn't above n
    from_child : (c : ℕ) → c ≡ m → (st.net.kin c).parent ≡ Some n → IsUnder p n m → ⊥
    from_child c ec parc um = plan.under_irrefl n (plan.under_trans n m n um (subst (λ y. IsUnder p y n) ec (parent_is_above p commands st c n h parc)))
