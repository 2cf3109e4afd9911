-- Every legal journal of the cast leaves a sound state.
use Rattle.std.proofs.Common.{◌≡◌, ◌<◌, inl, ℕ, true, false, not, ◌==◌, lt-ltb, List, [], ◌∷◌, refl, sym, ap, subst, ◌∙◌, eqb-true, eq-eqb, arith, zero-le, Option, Some, None}
use Rattle.std.proofs.lemmas.Bool.{and_parts, true≢false, ltb-true, not-true}
use Rattle.overlay_setup.specs.NodeSets.{In, up_to}
use Rattle.stat_plan.specs.Plans.{Plan, IsUnder, ancestors, nodes, front, fault}
use Rattle.stat_plan.specs.Machine.Kin.{nearest, children_of}
use Rattle.stat_plan.proofs.PlanFacts.{HasPlanFacts}
use Rattle.stat_plan.proofs.KinLemmas.{nearest_in}
use Rattle.stat_plan.proofs.InLists.{in_filter, up_to_in, in_from_filter}
use Rattle.control_cast.specs.declared.event.CastEvent.{CastEvent}
use Rattle.control_cast.specs.declared.event.CastEvent.TheVariants.{Issue, Recv, Lose}
use Rattle.stat_plan.specs.Machine.Overlays.{Overlay, is_spent, is_doomed, is_active}
use Rattle.stat_plan.proofs.Journals.{run_keeps}
use Rattle.control_cast.specs.Machine.{Packet, Cmd, Attach, Down, State, seen, start, step, receive, is_enabled, after, IsLegal}
use Rattle.control_cast.specs.CastInvariant.{Fits, CastInvariant}
use Rattle.stat_plan.proofs.LossInvariant.{start_keeps}
use Rattle.control_cast.proofs.Obeying.{obey_keeps}
use Rattle.control_cast.proofs.Receiving.{cmd_keeps}
use Rattle.control_cast.proofs.Attaching.{attach_keeps}
use Rattle.control_cast.proofs.Hearing.{down_keeps}
use Rattle.control_cast.proofs.Losing.{lose_keeps}

-- ---- the cast

pub start_cast : (p : Plan) (commands : ℕ) → HasPlanFacts p → CastInvariant p commands (start p)
start_cast p commands plan = record {
  base = start_keeps p Down (Fits p) plan;
  order = λ n. refl;
  within_limit = λ n. zero-le;
  above = λ n q u v. zero-le;
  children = λ n c un uc i. named_back c n (nearest (ancestors p c) []) (in_children_of n c i);
  attaches = λ m n k u i. absurd i;
  commanded = λ m n i j. absurd j;
  joined = λ c q uc par. record {
    living = λ u. inl (record {
      there = in_filter (λ c. elim (nearest (ancestors p c) []) [ None ↦ false | Some m ↦ m == q ]) c (up_to (nodes p)) (up_to_in (nodes p) c (ltb-true c (nodes p) uc)) (named q (nearest (ancestors p c) []) par);
      up_empty = refl;
      rest = 0;
      coming = refl;
      sum = refl;
    });
    lost = λ d. absurd (true≢false (sym (lives c q par) ∙ d));
  };
}
  where
    named : (q : ℕ) (o : Option ℕ) → o ≡ Some q → (elim o [ None ↦ false | Some m ↦ m == q ]) ≡ true
    named q None e = absurd (cc)
    named q (Some m) e = let k : m ≡ q = cc in eq-eqb m q k

    named_back : (c q : ℕ) (o : Option ℕ) → (elim o [ None ↦ false | Some m ↦ m == q ]) ≡ true → o ≡ Some q
    named_back c q None e = absurd (true≢false (sym e))
    named_back c q (Some m) e = ap Some (eqb-true m q e)

    in_children_of : (n c : ℕ) → In c (children_of p n) → (elim (nearest (ancestors p c) []) [ None ↦ false | Some m ↦ m == n ]) ≡ true
    in_children_of n c i = (in_from_filter (λ c. elim (nearest (ancestors p c) []) [ None ↦ false | Some m ↦ m == n ]) c (up_to (nodes p)) i).1

    lives : (c q : ℕ) → nearest (ancestors p c) [] ≡ Some q → (start p).net.alive q ≡ true
    lives c q e = lt-ltb q (nodes p) (plan.under_nodes c q (nearest_in (ancestors p c) [] q e)).1

pub active_parts : {X : Type 0} (p : Plan) (v : Overlay X) (n : ℕ) → is_active p v n ≡ true → (v.alive n ≡ true) × (is_doomed p v n ≡ false)
active_parts p v n e = let t = and_parts (v.alive n) (not (is_doomed p v n)) e in (t.0, not-true (is_doomed p v n) t.1)

front_lost : {X : Type 0} (p : Plan) (v : Overlay X) (n : ℕ) → HasPlanFacts p → is_doomed p v n ≡ true → n ≡ front p → ⊥
front_lost p v n plan d e =
    let none : fault p n ≡ None = ap (fault p) e ∙ plan.front_stays in
    let z : is_spent None (v.count n) ≡ true = subst (λ o. is_spent o (v.count n) ≡ true) none d in
    true≢false (sym z)

receive_keeps : (p : Plan) (commands : ℕ) (st : State) (n m : ℕ) (qs : List Packet) → HasPlanFacts p → CastInvariant p commands st → st.net.alive n ≡ true → st.net.link m n ≡ qs → CastInvariant p commands (receive p st n m qs)
receive_keeps p commands st n m [] plan h up e = h
receive_keeps p commands st n m (Cmd i ∷ qs) plan h up e = cmd_keeps p commands st m n i qs plan h up e
receive_keeps p commands st n m (Attach k ∷ qs) plan h up e = attach_keeps p commands st m n k qs plan h up e
receive_keeps p commands st n m (Down ∷ qs) plan h up e = down_keeps p commands st m n qs plan h up e

pub issue_keeps : (p : Plan) (commands : ℕ) (st : State) → HasPlanFacts p → CastInvariant p commands st → st.net.alive (front p) ≡ true → seen st (front p) < commands → CastInvariant p commands (step p st Issue)
issue_keeps p commands st plan h up lt =
    obey_keeps p commands st st.net.link (front p) plan h up h.base
    (record { else = λ a b nb. refl; subset = λ a b q i. i })
    (λ c uc par. refl)
    (omega arith)
    (λ q uq u. absurd (top q u))
    (λ q par. absurd (no_parent q par))
  where
    top : (q : ℕ) → IsUnder p (front p) q → ⊥
    top q u = subst (λ l. In q l) plan.front_top u

    no_parent : (q : ℕ) → (st.net.kin (front p)).parent ≡ Some q → ⊥
    no_parent q e = let z : nearest [] (st.net.kin (front p)).lost ≡ Some q = subst (λ l. nearest l (st.net.kin (front p)).lost ≡ Some q) plan.front_top (sym (h.base.kin (front p)).parent ∙ e) in cc

pub step_keeps : (p : Plan) (commands : ℕ) → HasPlanFacts p → (st : State) (e : CastEvent) → CastInvariant p commands st → is_enabled p commands st e ≡ true → CastInvariant p commands (step p st e)
step_keeps p commands plan st Issue h en = let t = and_parts _ _ en in issue_keeps p commands st plan h (active_parts p st.net (front p) t.0).0 (ltb-true (seen st (front p)) commands t.1)
step_keeps p commands plan st (Recv n m) h en = receive_keeps p commands st n m (st.net.link m n) plan h (active_parts p st.net n (and_parts _ _ en).0).0 refl
step_keeps p commands plan st (Lose n) h en = let t = and_parts _ _ en in lose_keeps p commands st n plan h t.0 (front_lost p st.net n plan t.1)

pub legal_is_sound : (p : Plan) (commands : ℕ) (journal : List CastEvent) → HasPlanFacts p → IsLegal p commands journal → CastInvariant p commands (after p journal)
legal_is_sound p commands journal plan l = run_keeps (CastInvariant p commands) (step p) (is_enabled p commands) (step_keeps p commands plan) (start p) journal (start_cast p commands plan) l
