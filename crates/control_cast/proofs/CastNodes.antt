-- What the code of a node computes is what the machine says.
use Rattle.std.proofs.Common.{◌≡◌, ◌+◌, ◌-◌, ℕ, zero, suc, false, ◌==◌, List, [], ◌∷◌, map, length, refl, sym, ap, subst, ◌∙◌, arith, eq-eqb, Some}
use Rattle.std.proofs.lemmas.Bool.{cond-true, cond-false}
use Rattle.stat_plan.specs.Plans.{Plan}
use Rattle.stat_plan.specs.Machine.Kin.{Kin, is_parent, with_child, after_loss}
use Rattle.loss_adoption.specs.NodeKins.{NodeKin}
use Rattle.loss_adoption.specs.Reactions.{IsReactionTo}
use Rattle.loss_adoption.specs.declared.reaction.Reaction.{Reaction}
use Rattle.loss_adoption.specs.declared.reaction.Reaction.TheVariants.{Stay, NewParent}
use Rattle.stat_plan.specs.Machine.Overlays.{to_parent}
use Rattle.control_cast.specs.Machine.{Packet, Cmd, Attach, Outcome, numbers_after, obey, received_cmd, received_attach, received_down}
use Rattle.control_cast.specs.CastNodes.{NodeView, obeyed_of, left_of, node_kin, reaction_sends}
use Rattle.control_cast.proofs.Commands.{numbers_more}

pub length_numbers : (k r : ℕ) → length (numbers_after k r) ≡ r
length_numbers k zero = refl
length_numbers k (suc r) = ap suc (length_numbers (suc k) r)

-- an outcome is known by its parts
outcome_by : (kin : Kin) (a b : List ℕ) (s t : List (ℕ × Packet)) → a ≡ b → s ≡ t → ◌≡◌ {A = Outcome} (record { kin = kin; obeyed = a; sends = s }) (record { kin = kin; obeyed = b; sends = t })
outcome_by kin a b s t ea es = ap (λ x. record { kin = kin; obeyed = x; sends = s }) ea ∙ ap (λ x. record { kin = kin; obeyed = b; sends = x }) es

pub obeyed_next : (n : NodeView) (sends : List (ℕ × Packet)) → sends ≡ map (λ c. (c, Cmd (n.seen + 1))) n.kin.children → left_of (record { number = n.number; kin = n.kin; seen = n.seen + 1; count = n.count }) sends ≡ obey n.kin (obeyed_of n) (suc n.seen)
obeyed_next n sends e =
    let s : n.seen + 1 ≡ suc n.seen = omega arith in
    outcome_by n.kin _ _ sends _ (ap (numbers_after 0) s ∙ sym (numbers_more 0 n.seen n.seen (omega arith))) (e ∙ ap (λ x. map (λ c. (c, Cmd x)) n.kin.children) s)

pub cmd_now : (n : NodeView) (i : ℕ) → i ≡ n.seen + 1 → received_cmd n.kin (obeyed_of n) i ≡ obey n.kin (obeyed_of n) (suc n.seen)
cmd_now n i e =
    let l : length (obeyed_of n) ≡ n.seen = length_numbers 0 n.seen in
    let k : i ≡ suc (length (obeyed_of n)) = omega arith in
    let m : i ≡ suc n.seen = omega arith in
    cond-true (i == suc (length (obeyed_of n))) _ _ (eq-eqb i _ k) ∙ ap (obey n.kin (obeyed_of n)) m

pub cmd_dropped : (n : NodeView) (i : ℕ) (sends : List (ℕ × Packet)) → (i == n.seen + 1) ≡ false → sends ≡ [] → left_of n sends ≡ received_cmd n.kin (obeyed_of n) i
cmd_dropped n i sends ne e =
    let l : length (obeyed_of n) ≡ n.seen = length_numbers 0 n.seen in
    let s : n.seen + 1 ≡ suc (length (obeyed_of n)) = omega arith in
    outcome_by n.kin _ _ sends _ refl e ∙ sym (cond-false (i == suc (length (obeyed_of n))) _ _ (subst (λ x. (i == x) ≡ false) s ne))

pub attached : (n : NodeView) (m k : ℕ) (kin : Kin) (sends : List (ℕ × Packet)) → kin ≡ with_child n.kin m → sends ≡ map (λ i. (m, Cmd i)) (numbers_after k (n.seen - k)) → left_of (record { number = n.number; kin = kin; seen = n.seen; count = n.count }) sends ≡ received_attach n.kin (obeyed_of n) m k
attached n m k kin sends ek es =
    let l : length (obeyed_of n) ≡ n.seen = length_numbers 0 n.seen in
    ap (λ x. record { kin = x; obeyed = obeyed_of n; sends = sends }) ek
    ∙ outcome_by (with_child n.kin m) _ _ sends _ refl (es ∙ ap (λ x. map (λ i. (m, Cmd i)) (numbers_after k (x - k))) (sym l))

pub heard : (p : Plan) (n : NodeView) (m : ℕ) (new : NodeKin) (r : Reaction) (sends : List (ℕ × Packet)) → new ≡ record { node = n.number; kin = after_loss p n.number n.kin m } → IsReactionTo (node_kin n) m new r → sends ≡ reaction_sends r n.seen → left_of (record { number = new.node; kin = new.kin; seen = n.seen; count = n.count }) sends ≡ received_down p n.number n.kin (obeyed_of n) m
heard p n m new Stay sends ek er es =
    ap (λ (x : NodeKin). record { kin = x.kin; obeyed = obeyed_of n; sends = sends }) ek
    ∙ outcome_by (after_loss p n.number n.kin m) _ _ sends _ refl (es ∙ sym (cond-false (is_parent n.kin.parent m) _ _ er))
heard p n m new (NewParent q) sends ek er es =
    let l : length (obeyed_of n) ≡ n.seen = length_numbers 0 n.seen in
    let par : (after_loss p n.number n.kin m).parent ≡ Some q = ap (λ (x : NodeKin). x.kin.parent) (sym ek) ∙ er.1 in
    ap (λ (x : NodeKin). record { kin = x.kin; obeyed = obeyed_of n; sends = sends }) ek
    ∙ outcome_by (after_loss p n.number n.kin m) _ _ sends _ refl (es ∙ ap (λ x. (q, Attach x) ∷ []) (sym l) ∙ ap (λ o. to_parent o (Attach (length (obeyed_of n)))) (sym par) ∙ sym (cond-true (is_parent n.kin.parent m) _ _ er.0))
