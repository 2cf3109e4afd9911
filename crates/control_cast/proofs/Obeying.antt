-- A node that obeys the next command and passes it on keeps the invariant.
use Rattle.std.proofs.Common.{append-nil, ◌≡◌, ◌≤◌, ◌+◌, inl, inr, ℕ, suc, true, ◌==◌, List, [], ◌∷◌, ◌++◌, map, length, refl, sym, ap, subst, ◌∙◌, eqb-true, arith, length-append, Some}
use Rattle.std.proofs.lemmas.Bool.{cases_Bool, eqb-false, true≢false}
use Rattle.overlay_setup.specs.NodeSets.{In}
use Rattle.stat_plan.specs.Plans.{Plan, IsUnder, ancestors}
use Rattle.stat_plan.proofs.KinLemmas.{nearest_in}
use Rattle.stat_plan.proofs.PlanFacts.{HasPlanFacts}
use Rattle.stat_plan.specs.Machine.Overlays.{to}
use Rattle.stat_plan.specs.Machine.LossInvariant.{LossInvariant}
use Rattle.control_cast.specs.Machine.{Packet, Cmd, Attach, Down, State, seen, numbers_after, obey, commit}
use Rattle.control_cast.specs.CastInvariant.{Fits, cmds, IsJoined, CastInvariant}
use Rattle.stat_plan.proofs.Overlays.{put_here, put_else, put_each, sent_else, sent_here, sent_nothing, sent_in}
use Rattle.stat_plan.proofs.LossInvariant.{SendsFit, event_keeps}
use Rattle.control_cast.proofs.Commands.{numbers_more, cmds_more, to_children_none, to_child, in_children, joined_by}

-- the state with other links
abbrev pub linked : State → (ℕ → ℕ → List Packet) → State
linked st link = record { net = record { alive = st.net.alive; kin = st.net.kin; count = st.net.count; link = link }; obeyed = st.obeyed }

-- the links before n's event, once it has taken its packet: only links into n have changed, and none from a child
pub record IsTaken (st : State) (n : ℕ) (link : ℕ → ℕ → List Packet) : Type 0 where
  pub else : (a b : ℕ) → (b ≡ n → ⊥) → link a b ≡ st.net.link a b
  pub subset : (a b : ℕ) (q : Packet) → In q (link a b) → In q (st.net.link a b)

-- the parent is above
pub parent_above : (p : Plan) (st : State) (link : ℕ → ℕ → List Packet) (c q : ℕ) → LossInvariant p Down (Fits p) (linked st link).net → (st.net.kin c).parent ≡ Some q → IsUnder p c q
parent_above p st link c q h e = nearest_in (ancestors p c) (st.net.kin c).lost q (sym (h.kin c).parent ∙ e)

abbrev pub obeying : State → (ℕ → ℕ → List Packet) → ℕ → State
obeying st link n = commit (linked st link) n (obey (st.net.kin n) (st.obeyed n) (suc (seen st n)))

pub seen_here : (st : State) (link : ℕ → ℕ → List Packet) (n : ℕ) → seen (obeying st link n) n ≡ suc (seen st n)
seen_here st link n =
    let a : seen (obeying st link n) n ≡ length (st.obeyed n ++ suc (seen st n) ∷ []) = ap length (put_here st.obeyed n (st.obeyed n ++ suc (seen st n) ∷ [])) in
    let b : length (st.obeyed n ++ suc (seen st n) ∷ []) ≡ length (st.obeyed n) + 1 = length-append (st.obeyed n) (suc (seen st n) ∷ []) in
    omega arith

pub seen_else : (st : State) (link : ℕ → ℕ → List Packet) (n a : ℕ) → (a ≡ n → ⊥) → seen (obeying st link n) a ≡ seen st a
seen_else st link n a ne = ap length (put_else st.obeyed n (st.obeyed n ++ suc (seen st n) ∷ []) a ne)

pub kin_same : (st : State) (link : ℕ → ℕ → List Packet) (n a : ℕ) → (obeying st link n).net.kin a ≡ st.net.kin a
kin_same st link n = put_each (λ a k. k ≡ st.net.kin a) st.net.kin n (st.net.kin n) refl (λ a. refl)

sends_fit : (p : Plan) (st : State) (link : ℕ → ℕ → List Packet) (n : ℕ) → LossInvariant p Down (Fits p) (linked st link).net → SendsFit Down (Fits p) n (map (λ c. (c, Cmd (suc (seen st n)))) (st.net.kin n).children)
sends_fit p st link n h b q i = let t = in_children b (Cmd (suc (seen st n))) q (st.net.kin n).children i in (subst (Fits p n b) (sym t.1) ((h.kin n).children b t.0), other t.1)
  where
    other : {q : Packet} → q ≡ Cmd (suc (seen st n)) → q ≡ Down → ⊥
    other e f = cc

pub obey_keeps : (p : Plan) (commands : ℕ) (st : State) (link : ℕ → ℕ → List Packet) (n : ℕ) → HasPlanFacts p → CastInvariant p commands st → st.net.alive n ≡ true
    → LossInvariant p Down (Fits p) (linked st link).net
    → IsTaken st n link
    → ((c : ℕ) → st.net.alive c ≡ true → (st.net.kin c).parent ≡ Some n → link c n ≡ st.net.link c n)
    → suc (seen st n) ≤ commands
    → ((q : ℕ) → st.net.alive q ≡ true → IsUnder p n q → suc (seen st n) ≤ seen st q)
    → ((q : ℕ) → (st.net.kin n).parent ≡ Some q → IsJoined (st.net.alive q) n (suc (seen st n)) (seen st q) (st.net.kin q).children (link n q) (link q n))
    → CastInvariant p commands (obeying st link n)
obey_keeps p commands st link n plan h up base taken kids room below own = record {
  base = event_keeps p Down (Fits p) (linked st link).net n (st.net.kin n) _ base up (h.base.kin n) refl (sends_fit p st link n base);
  order = λ a. elim (cases_Bool (a == n)) [
    | inl t ↦ subst (λ x. (obeying st link n).obeyed x ≡ numbers_after 0 (seen (obeying st link n) x)) (sym (eqb-true a n t))
        (put_here st.obeyed n _ ∙ ap (λ l. l ++ suc (seen st n) ∷ []) (h.order n) ∙ numbers_more 0 (seen st n) (seen st n) (omega arith) ∙ ap (numbers_after 0) (sym (seen_here st link n)))
    | inr t ↦ let ne = eqb-false a n t in put_else st.obeyed n _ a ne ∙ h.order a ∙ ap (numbers_after 0) (sym (seen_else st link n a ne))
  ];
  within_limit = λ a. elim (cases_Bool (a == n)) [
    | inl t ↦ subst (λ x. seen (obeying st link n) x ≤ commands) (sym (eqb-true a n t)) (let e = seen_here st link n in omega arith)
    | inr t ↦ let e = seen_else st link n a (eqb-false a n t) in let l = h.within_limit a in omega arith
  ];
  above = λ a q uq u. elim (cases_Bool (a == n)) [
    | inl t ↦
        let ea : a ≡ n = eqb-true a n t in
        let un : IsUnder p n q = subst (λ x. IsUnder p x q) ea u in
        let nq : q ≡ n → ⊥ = (λ e. plan.under_irrefl n (subst (λ x. IsUnder p n x) e un)) in
        let l : suc (seen st n) ≤ seen st q = below q uq un in
        let s : seen (obeying st link n) a ≡ suc (seen st n) = ap (seen (obeying st link n)) ea ∙ seen_here st link n in
        let z : seen (obeying st link n) q ≡ seen st q = seen_else st link n q nq in
        omega arith
    | inr t ↦
        let l : seen st a ≤ seen st q = h.above a q uq u in
        let s : seen (obeying st link n) a ≡ seen st a = seen_else st link n a (eqb-false a n t) in
        elim (cases_Bool (q == n)) [
          | inl k ↦
              let eq : q ≡ n = eqb-true q n k in
              let z : seen (obeying st link n) q ≡ suc (seen st n) = ap (seen (obeying st link n)) eq ∙ seen_here st link n in
              let y : seen st q ≡ seen st n = ap (seen st) eq in
              omega arith
          | inr k ↦ let z : seen (obeying st link n) q ≡ seen st q = seen_else st link n q (eqb-false q n k) in omega arith
        ]
  ];
  children = λ a c ua uc i. subst (λ k. k.parent ≡ Some a) (sym (kin_same st link n c)) (h.children a c ua uc (subst (λ k. In c k.children) (kin_same st link n a) i));
  attaches = λ a b k ua i. subst (λ k. k.parent ≡ Some b) (sym (kin_same st link n a)) (elim (sent_in (linked st link).net n (st.net.kin n) _ a b (Attach k) i) [
    | inl j ↦ h.attaches a b k ua (taken.subset a b (Attach k) j)
    | inr j ↦ absurd (let e : Attach k ≡ Cmd (suc (seen st n)) = (in_children b (Cmd (suc (seen st n))) (Attach k) (st.net.kin n).children j.2).1 in cc)
  ]);
  commanded = λ a b i j. subst (λ k. k.parent ≡ Some a) (sym (kin_same st link n b)) (elim (sent_in (linked st link).net n (st.net.kin n) _ a b (Cmd i) j) [
    | inl k ↦ h.commanded a b i (taken.subset a b (Cmd i) k)
    | inr k ↦ subst (λ x. (st.net.kin b).parent ≡ Some x) (sym k.0) (h.children n b up k.1 (in_children b (Cmd (suc (seen st n))) (Cmd i) (st.net.kin n).children k.2).0)
  ]);
  joined = λ c q uc par. pairs c q uc (subst (λ k. k.parent ≡ Some q) (kin_same st link n c) par);
}
  where
    sends : List (ℕ × Packet)
    sends = map (λ c. (c, Cmd (suc (seen st n)))) (st.net.kin n).children

    new : State
    new = obeying st link n

    children_same : (q : ℕ) → new.net.kin q ≡ st.net.kin q
    children_same = kin_same st link n

    -- n and its parent
    self : (q : ℕ) → (st.net.kin n).parent ≡ Some q → IsJoined (st.net.alive q) n (seen new n) (seen new q) (new.net.kin q).children (new.net.link n q) (new.net.link q n)
    self q par =
        let un : IsUnder p n q = parent_above p st link n q base par in
        let nq : q ≡ n → ⊥ = (λ e. plan.under_irrefl n (subst (λ x. IsUnder p n x) e un)) in
        let not_child : In q (st.net.kin n).children → ⊥ = (λ i. plan.under_irrefl n (plan.under_trans n q n un ((h.base.kin n).children q i))) in
        joined_by (st.net.alive q) n (suc (seen st n)) (seen st q) (st.net.kin q).children (link n q) (link q n) (seen new n) (seen new q) (new.net.kin q).children (new.net.link n q) (new.net.link q n)
        (seen_here st link n) (seen_else st link n q nq) (ap (λ k. k.children) (kin_same st link n q))
        (sent_nothing (linked st link).net n (st.net.kin n) sends q (to_children_none q (Cmd (suc (seen st n))) (st.net.kin n).children not_child))
        (sent_else (linked st link).net n (st.net.kin n) sends q n nq)
        (own q par)

    -- a node whose parent is n
    child : (c : ℕ) → (c ≡ n → ⊥) → st.net.alive c ≡ true → (st.net.kin c).parent ≡ Some n → IsJoined (st.net.alive n) c (seen new c) (seen new n) (new.net.kin n).children (new.net.link c n) (new.net.link n c)
    child c nc uc par =
        let below_same : seen new c ≡ seen st c = seen_else st link n c nc in
        let above_more : seen new n ≡ suc (seen st n) = seen_here st link n in
        let kin_is : new.net.kin n ≡ st.net.kin n = kin_same st link n n in
        let up_same : new.net.link c n ≡ st.net.link c n = sent_else (linked st link).net n (st.net.kin n) sends c n nc ∙ kids c uc par in
        let down_is : new.net.link n c ≡ st.net.link n c ++ to c sends = sent_here (linked st link).net n (st.net.kin n) sends c uc ∙ ap (λ l. l ++ to c sends) (taken.else n c nc) in
        record {
          living = λ u. elim ((h.joined c n uc par).living up) [
            | inl j ↦ inl (record {
              there = subst (λ k. In c k.children) (sym kin_is) j.there;
              up_empty = up_same ∙ j.up_empty;
              rest = suc j.rest;
              coming = down_is ∙ ap (λ l. l ++ to c sends) j.coming ∙ ap (λ l. cmds (seen st c) j.rest ++ l) (to_child c (Cmd (suc (seen st n))) (st.net.kin n).children (h.base.kin n).children_increase j.there) ∙ cmds_more (seen st c) j.rest (seen st n) j.sum ∙ ap (λ x. cmds x (suc j.rest)) (sym below_same);
              sum = let e = j.sum in omega arith;
            })
            | inr j ↦ inr (record {
              absent = λ i. j.absent (subst (λ k. In c k.children) kin_is i);
              attach = up_same ∙ j.attach ∙ ap (λ x. Attach x ∷ []) (sym below_same);
              down_empty = down_is ∙ ap (λ l. st.net.link n c ++ l) (to_children_none c (Cmd (suc (seen st n))) (st.net.kin n).children j.absent) ∙ append-nil (st.net.link n c) ∙ j.down_empty;
            })
          ];
          lost = λ d. absurd (true≢false (sym up ∙ d));
        }

    pairs : (c q : ℕ) → st.net.alive c ≡ true → (st.net.kin c).parent ≡ Some q → IsJoined (st.net.alive q) c (seen new c) (seen new q) (new.net.kin q).children (new.net.link c q) (new.net.link q c)
    pairs c q uc par = elim (cases_Bool (c == n)) [
      | inl t ↦
          let ec : c ≡ n = eqb-true c n t in
          subst (λ x. IsJoined (st.net.alive q) x (seen new x) (seen new q) (new.net.kin q).children (new.net.link x q) (new.net.link q x)) (sym ec) (self q (subst (λ x. (st.net.kin x).parent ≡ Some q) ec par))
      | inr t ↦ elim (cases_Bool (q == n)) [
        | inl k ↦
            let eq : q ≡ n = eqb-true q n k in
            subst (λ x. IsJoined (st.net.alive x) c (seen new c) (seen new x) (new.net.kin x).children (new.net.link c x) (new.net.link x c)) (sym eq) (child c (eqb-false c n t) uc (subst (λ x. (st.net.kin c).parent ≡ Some x) eq par))
        | inr k ↦
            let nc : c ≡ n → ⊥ = eqb-false c n t in
            let nq : q ≡ n → ⊥ = eqb-false q n k in
            joined_by (st.net.alive q) c (seen st c) (seen st q) (st.net.kin q).children (st.net.link c q) (st.net.link q c) (seen new c) (seen new q) (new.net.kin q).children (new.net.link c q) (new.net.link q c)
            (seen_else st link n c nc) (seen_else st link n q nq) (ap (λ k. k.children) (kin_same st link n q))
            (sent_else (linked st link).net n (st.net.kin n) sends c q nc ∙ taken.else c q nq)
            (sent_else (linked st link).net n (st.net.kin n) sends q c nq ∙ taken.else q c nc)
            (h.joined c q uc par)
      ]
    ]
