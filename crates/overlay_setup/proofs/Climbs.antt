-- The ancestors of a node, link by link.
use Rattle.std.proofs.Common.{◌≡◌, ℕ, zero, suc, ◌+◌, ◌-◌, ◌<◌, List, [], ◌∷◌, ◌++◌, length, Option, None, Some, refl, sym, ap, subst, ◌∙◌, arith, inl, inr}
use Rattle.std.proofs.lemmas.List.{append_assoc}
use Rattle.overlay_setup.specs.NodeSets.{In}
use Rattle.overlay_setup.specs.Trees.{parent_of, climb}

-- one link of a climb
pub climb-more : (parents : List (Option ℕ)) (k n p : ℕ) → parent_of parents n ≡ Some p → climb parents (suc k) n ≡ p ∷ climb parents k p
climb-more parents k n p is = ap (λ o. elim o as (λ _. List ℕ) [ None ↦ [] | (Some p) ↦ p ∷ climb parents k p ]) is

-- a climb that ends
pub climb-end : (parents : List (Option ℕ)) (k n : ℕ) → parent_of parents n ≡ None → climb parents k n ≡ []
climb-end parents zero n is = refl
climb-end parents (suc k) n is = ap (λ o. elim o as (λ _. List ℕ) [ None ↦ [] | (Some p) ↦ p ∷ climb parents k p ]) is

-- a climb so far, and one link more
pub climb-on : (parents : List (Option ℕ)) (above : List ℕ) (k at p : ℕ) → k < length parents → parent_of parents at ≡ Some p → (above ++ p ∷ []) ++ climb parents (length parents - (k + 1)) p ≡ above ++ climb parents (length parents - k) at
climb-on parents above k at p lt is =
    let left : suc (length parents - (k + 1)) ≡ length parents - k = omega arith in
    append_assoc above (p ∷ []) (climb parents (length parents - (k + 1)) p)
    ∙ ap (λ xs. above ++ xs) (sym (climb-more parents (length parents - (k + 1)) at p is) ∙ ap (λ i. climb parents i at) left)

-- what a climb passes are nodes
pub climb_below : (parents : List (Option ℕ)) → ((n m : ℕ) → parent_of parents n ≡ Some m → (n < length parents) × (m < length parents)) → (k n a : ℕ) → In a (climb parents k n) → a < length parents
climb_below parents inside zero n a i = absurd i
climb_below parents inside (suc k) n a i = by (λ p. climb_below parents inside k p a) (parent_of parents n) refl i
  where
    by : ((p : ℕ) → In a (climb parents k p) → a < length parents) → (o : Option ℕ) → parent_of parents n ≡ o → In a (elim o as (λ _. List ℕ) [ None ↦ [] | (Some p) ↦ p ∷ climb parents k p ]) → a < length parents
    by above None is i = absurd i
    by above (Some p) is (inl e) = subst (λ x. x < length parents) (sym e) (inside n p is).1
    by above (Some p) is (inr later) = above p later
