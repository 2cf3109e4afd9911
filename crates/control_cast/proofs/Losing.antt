-- The loss of a node keeps the invariant.
use Rattle.std.proofs.Common.{◌≡◌, ◌≤◌, ◌+◌, inl, inr, ℕ, suc, zero, true, false, ◌&&◌, ◌==◌, [], ◌∷◌, ◌++◌, take, refl, sym, ap, subst, ◌∙◌, eqb-true, arith, Some}
use Rattle.std.proofs.lemmas.Bool.{cases_Bool, cond-true, and_from, eqb-false, true≢false}
use Rattle.stat_plan.specs.Plans.{Plan, front, fault, is_related}
use Rattle.stat_plan.proofs.PlanFacts.{HasPlanFacts}
use Rattle.stat_plan.specs.Machine.Overlays.{with_loss, keep_of}
use Rattle.control_cast.specs.Machine.{Packet, Cmd, Attach, Down, State, seen}
use Rattle.control_cast.specs.CastInvariant.{Fits, IsJoined, CastInvariant}
use Rattle.stat_plan.proofs.Relatives.{test_from_related}
use Rattle.stat_plan.proofs.Overlays.{put_here, put_else, lost_out, lost_else, lost_in, was_alive}
use Rattle.stat_plan.proofs.LossInvariant.{loss_keeps}
use Rattle.control_cast.proofs.Commands.{cmds_take, joined_by}
use Rattle.control_cast.proofs.Receiving.{packet_rule, parent_is_above}

pub lose_keeps : (p : Plan) (commands : ℕ) (st : State) (n : ℕ) → HasPlanFacts p → CastInvariant p commands st → st.net.alive n ≡ true → (n ≡ front p → ⊥) → CastInvariant p commands (record { net = with_loss Down p st.net n; obeyed = st.obeyed })
lose_keeps p commands st n plan h up nf = record {
  base = loss_keeps p Down (Fits p) st.net n (packet_rule p) h.base up nf;
  order = h.order;
  within_limit = h.within_limit;
  above = λ a q uq u. h.above a q (was q uq).0 u;
  children = λ a c ua uc i. h.children a c (was a ua).0 (was c uc).0 i;
  attaches = λ a b k ua i. elim (lost_in Down p st.net n a b (Attach k) i) [ inl j ↦ h.attaches a b k (was a ua).0 j | inr j ↦ absurd (no_attach k j.0) ];
  commanded = λ a b i j. elim (lost_in Down p st.net n a b (Cmd i) j) [ inl k ↦ h.commanded a b i k | inr k ↦ absurd (no_cmd i k.0) ];
  joined = λ c q uc par. elim (cases_Bool (q == n)) [
    | inl t ↦
        let eq : q ≡ n = eqb-true q n t in
        subst (λ x. IsJoined (new.net.alive x) c (seen st c) (seen st x) (st.net.kin x).children (new.net.link c x) (new.net.link x c)) (sym eq)
        (orphan c (was c uc).0 (eqb-false c n (was c uc).1) (subst (λ x. (st.net.kin c).parent ≡ Some x) eq par))
    | inr t ↦
        let nq : q ≡ n → ⊥ = eqb-false q n t in
        let nc : c ≡ n → ⊥ = eqb-false c n (was c uc).1 in
        subst (λ b. IsJoined b c (seen st c) (seen st q) (st.net.kin q).children (new.net.link c q) (new.net.link q c)) (sym (put_else st.net.alive n false q nq))
        (joined_by (st.net.alive q) c (seen st c) (seen st q) (st.net.kin q).children (st.net.link c q) (st.net.link q c) (seen st c) (seen st q) (st.net.kin q).children (new.net.link c q) (new.net.link q c)
        refl refl refl (lost_else Down p st.net n c q nq nc) (lost_else Down p st.net n q c nc nq) (h.joined c q (was c uc).0 par))
  ];
}
  where
    new : State
    new = record { net = with_loss Down p st.net n; obeyed = st.obeyed }

    was : (a : ℕ) → new.net.alive a ≡ true → (st.net.alive a ≡ true) × ((a == n) ≡ false)
    was a u = was_alive st.net.alive n a u

    no_attach : (k : ℕ) → Attach k ≡ Down → ⊥
    no_attach k f = cc

    no_cmd : (i : ℕ) → Cmd i ≡ Down → ⊥
    no_cmd i f = cc

    -- a child that lives: the first of the commands that were on the way are still, and then the notice comes
    orphan : (c : ℕ) → st.net.alive c ≡ true → (c ≡ n → ⊥) → (st.net.kin c).parent ≡ Some n → IsJoined (new.net.alive n) c (seen st c) (seen st n) (st.net.kin n).children (new.net.link c n) (new.net.link n c)
    orphan c uc nc par = record {
      living = λ u. absurd (true≢false (sym u ∙ put_here st.net.alive n false));
      lost = λ d. elim ((h.joined c n uc par).living up) [
        | inl j ↦
            let t = cmds_take keep (seen st c) j.rest in
            let s : seen st c + j.rest ≡ seen st n = j.sum in
            let le : t.0 ≤ j.rest = t.1.0 in
            record {
              rest = t.0;
              coming = cut ∙ ap (λ l. take keep l ++ Down ∷ []) j.coming ∙ ap (λ l. l ++ Down ∷ []) t.1.1;
              within = λ some. omega arith;
            }
        | inr j ↦ record {
          rest = 0;
          coming = cut ∙ ap (λ l. take keep l ++ Down ∷ []) j.down_empty ∙ take_none keep;
          within = λ some. absurd (omega arith);
        }
      ];
    }
      where
        keep : ℕ
        keep = keep_of (fault p n)

        cut : new.net.link n c ≡ take keep (st.net.link n c) ++ Down ∷ []
        cut = lost_out Down p st.net n c nc ∙ ap (λ l. take keep (st.net.link n c) ++ l) (cond-true (st.net.alive c && is_related p n c) (Down ∷ []) [] (and_from _ _ uc (test_from_related p n c (inr (parent_is_above p commands st c n h par)))))

        take_none : (k : ℕ) → (take {A = Packet} k [] ++ Down ∷ []) ≡ Down ∷ []
        take_none zero = refl
        take_none (suc k) = refl
