-- A daemon has no children.
use Rattle.std.proofs.Common.{◌≡◌, ◌≢◌, ℕ, zero, suc, Bool, true, false, ◌==◌, cond, List, [], ◌∷◌, filter, Option, None, Some, refl, sym, ap, ◌∙◌}
use Rattle.std.proofs.lemmas.Bool.{ne_eqb}
use Rattle.overlay_setup.specs.Trees.{climb, is_daemon, parent_of}
use Rattle.overlay_setup.specs.NodeSets.{up_to}
use Rattle.overlay_setup.proofs.Leaves.{daemon_is_leaf}
use Rattle.stat_plan.specs.Machine.Kin.{children_of, nearest}
use Rattle.stat_plan.specs.Plans.{Plan, ancestors, nodes}

-- it is no node's nearest ancestor
leaf_parent : (parents : List (Option ℕ)) (links n c : ℕ) → is_daemon parents n ≡ true → elim (nearest (climb parents links c) []) [ None ↦ false | Some m ↦ m == n ] ≡ false
leaf_parent parents zero n c leaf = refl
leaf_parent parents (suc links) n c leaf = by (parent_of parents c) (daemon_is_leaf parents n leaf c)
  where
    by : (o : Option ℕ) → o ≢ Some n → elim (nearest (elim o [ None ↦ [] | (Some p) ↦ p ∷ climb parents links p ]) []) [ None ↦ false | Some m ↦ m == n ] ≡ false
    by None ne = refl
    by (Some q) ne = ne_eqb q n (λ e. ne (ap Some e))

none_pass : (test : ℕ → Bool) (xs : List ℕ) → ((x : ℕ) → test x ≡ false) → [] ≡ filter test xs
none_pass test [] h = refl
none_pass test (x ∷ xs) h = none_pass test xs h ∙ sym (ap (λ b. cond b (x ∷ filter test xs) (filter test xs)) (h x))

pub no_children : (p : Plan) (n : ℕ) → is_daemon p.parents n ≡ true → [] ≡ children_of p n
unfolding ancestors
no_children p n leaf = none_pass (λ c. elim (nearest (ancestors p c) []) [ None ↦ false | Some m ↦ m == n ]) (up_to (nodes p)) (λ c. leaf_parent p.parents (nodes p) n c leaf)
