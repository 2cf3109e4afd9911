-- The nodes that are out with their loss, where one goes out or comes home.
use Rattle.std.proofs.Common.{◌≡◌, ◌≢◌, ◌∙◌, ◌<◌, ℕ, ◌==◌, cond, List, slice_get, slice_set, Some, sym, ap, subst, inl, inr, eqb-true, arith}
use Rattle.std.proofs.lemmas.Bool.{cases_Bool, eqb-false}
use Rattle.std.proofs.lemmas.List.{length-set}
use Rattle.stat_plan.specs.Plans.{Plan, nodes}
use Rattle.count_tree.proofs.Counted.{set_else, set_here}
use Rattle.event_claims.specs.Claims.{Outs, is_loss_of}
use Rattle.overlay_net.specs.Events.{AreLosing}

-- a node that goes out with its loss, or comes home
pub losing_set : (p : Plan) (out new : Outs) (losing : List ℕ) (n count : ℕ) → n < nodes p → AreLosing p out losing → count ≡ cond (is_loss_of (new n) n) 1 0 → ((k : ℕ) → k ≢ n → new k ≡ out k) → AreLosing p new (slice_set losing n count)
losing_set p out new losing n count lt h is others = record {
  node_count = length-set losing n count ∙ h.node_count;
  each = λ k below. elim (cases_Bool (k == n)) [
    | inl t ↦
        let same : k ≡ n = eqb-true k n t in
        subst (λ j. slice_get (slice_set losing n count) j ≡ Some (cond (is_loss_of (new j) j) 1 0)) (sym same)
        (set_here losing n count (let c = h.node_count in omega (arith, c, lt)) ∙ ap Some is)
    | inr f ↦
        let ne : k ≢ n = eqb-false k n f in
        set_else losing n k count ne ∙ h.each k below ∙ ap (λ o. Some (cond (is_loss_of o k) 1 0)) (sym (others k ne))
  ];
}

-- where the same nodes are out with their losses
pub losing_same : (p : Plan) (out new : Outs) (losing : List ℕ) → ((k : ℕ) → is_loss_of (new k) k ≡ is_loss_of (out k) k) → AreLosing p out losing → AreLosing p new losing
losing_same p out new losing same h = record {
  node_count = h.node_count;
  each = λ k below. h.each k below ∙ ap (λ b. Some (cond b 1 0)) (sym (same k));
}
