-- Parents with one root and no node far from it are a job's tree.
use Rattle.std.proofs.Common.{◌≡◌, ℕ, zero, suc, ◌-◌, ◌<◌, ◌≤◌, ◌⊎◌, inl, inr, true, false, ◌||◌, is_some, List, [], ◌∷◌, length, Option, None, Some, refl, sym, ap, ◌∙◌, subst, arith, rules}
use Rattle.std.specs.List.{list_any, AllByRecursion}
use Rattle.std.proofs.lemmas.List.{get_or_past}
use Rattle.overlay_setup.specs.Trees.{parent_of, climb, ancestors, root_of, IsTree}
use Rattle.overlay_setup.proofs.NameNumbers.{length-map}
use Rattle.topology_text.specs.declared.parser.Node.{Node}
use Rattle.topology_text.specs.Invariants.{IsBelow, has_child}
use Rattle.topology_text.specs.Whole.{is_within, roots_from, parents_of}

-- the one root
root_is : (ps : List (Option ℕ)) (m : ℕ) → length (roots_from m ps) ≡ 1 → (root_of ps < length ps) × (parent_of ps (root_of ps) ≡ None)
root_is [] m e = absurd (omega arith)
root_is (None ∷ ps) m e = (omega arith, refl)
root_is (Some p ∷ ps) m e = let h = root_is ps (suc m) e in let lt = h.0 in (omega arith, h.1)

no_roots : (ps : List (Option ℕ)) (m n : ℕ) → length (roots_from m ps) ≡ 0 → n < length ps → parent_of ps n ≡ None → ⊥
no_roots [] m n e lt h = absurd (omega arith)
no_roots (None ∷ ps) m n e lt h = absurd (omega arith)
no_roots (Some p ∷ ps) m zero e lt h = cc
no_roots (Some p ∷ ps) m (suc n) e lt h = no_roots ps (suc m) n e (omega arith) h

one_root : (ps : List (Option ℕ)) (m n : ℕ) → length (roots_from m ps) ≡ 1 → n < length ps → parent_of ps n ≡ None → n ≡ root_of ps
one_root [] m n e lt h = absurd (omega arith)
one_root (None ∷ ps) m zero e lt h = refl
one_root (None ∷ ps) m (suc n) e lt h = absurd (no_roots ps (suc m) n (omega arith) (omega arith) h)
one_root (Some p ∷ ps) m zero e lt h = cc
one_root (Some p ∷ ps) m (suc n) e lt h = ap suc (one_root ps (suc m) n e (omega arith) h)

-- parents below a bound
pub parent_below : (count : ℕ) (nodes : List Node) → AllByRecursion (λ x. IsBelow count x.parent) nodes → (n m : ℕ) → parent_of (parents_of nodes) n ≡ Some m → (n < length nodes) × (m < count)
parent_below count [] all n m e = cc
parent_below count (x ∷ nodes) all zero m e = (omega arith, subst (IsBelow count) e all.0)
parent_below count (x ∷ nodes) all (suc n) m e = let h = parent_below count nodes all.1 n m e in let lt = h.0 in (omega arith, h.1)

-- ancestors by one link
module _ (ps : List (Option ℕ)) (fuel n : ℕ) where
  pub climb_by : (o : Option ℕ) → parent_of ps n ≡ o → climb ps (suc fuel) n ≡ elim o as (λ _. List ℕ) [ None ↦ [] | (Some p) ↦ p ∷ climb ps fuel p ]
  climb_by o e = ap (λ o. elim o as (λ _. List ℕ) [ None ↦ [] | (Some p) ↦ p ∷ climb ps fuel p ]) e

within_more : (ps : List (Option ℕ)) (links n p : ℕ) → parent_of ps n ≡ Some p → is_within ps (suc links) n ≡ true → is_within ps links p ≡ true
unfolding is_within
within_more ps links n p e h = sym (rw (e, is_within) refl) ∙ h

within_zero : (ps : List (Option ℕ)) (n p : ℕ) → parent_of ps n ≡ Some p → is_within ps 0 n ≡ true → ⊥
unfolding is_within
within_zero ps n p e h = let f : is_within ps 0 n ≡ false = rw e refl in let t : true ≡ false = sym h ∙ f in cc

-- a node within so many links has at most so many ancestors
climb_within : (ps : List (Option ℕ)) (links fuel n : ℕ) → is_within ps links n ≡ true → length (climb ps fuel n) ≤ links
climb_within ps links zero n h = omega arith
climb_within ps zero (suc fuel) n h = by (parent_of ps n) refl
  where
    by : (o : Option ℕ) → parent_of ps n ≡ o → length (climb ps (suc fuel) n) ≤ 0
    by None e = subst (λ t. length t ≤ 0) (sym (climb_by ps fuel n None e)) (omega arith)
    by (Some p) e = absurd (within_zero ps n p e h)
climb_within ps (suc links) (suc fuel) n h = by (parent_of ps n) refl (λ p. climb_within ps links fuel p)
  where
    by : (o : Option ℕ) → parent_of ps n ≡ o → ((p : ℕ) → is_within ps links p ≡ true → length (climb ps fuel p) ≤ links) → length (climb ps (suc fuel) n) ≤ suc links
    by None e more = subst (λ t. length t ≤ suc links) (sym (climb_by ps fuel n None e)) (omega arith)
    by (Some p) e more = let le = more p (within_more ps links n p e h) in subst (λ t. length t ≤ suc links) (sym (climb_by ps fuel n (Some p) e)) (omega arith)

climb_root : (ps : List (Option ℕ)) (fuel n : ℕ) → parent_of ps n ≡ None → length (climb ps fuel n) ≡ 0
climb_root ps zero n e = refl
climb_root ps (suc fuel) n e = ap length (climb_by ps fuel n None e)

either : (n m : ℕ) → (n < m) ⊎ (m ≤ n)
either n m = search rules

-- where each node is within so many links, each number has at most so many ancestors
pub few_ancestors : (ps : List (Option ℕ)) (links : ℕ) → ((n : ℕ) → n < length ps → is_within ps links n ≡ true) → (n : ℕ) → length (ancestors ps n) ≤ links
unfolding ancestors
few_ancestors ps links all n = by (either n (length ps))
  where
    by : (n < length ps) ⊎ (length ps ≤ n) → length (climb ps (length ps) n) ≤ links
    by (inl lt) = climb_within ps links (length ps) n (all n lt)
    by (inr le) = let e = climb_root ps (length ps) n (get_or_past ps n None le) in omega arith

-- one root, parents that are nodes, and short ways to the root are a tree
pub is_tree : (nodes : List Node) → length (roots_from 0 (parents_of nodes)) ≡ 1 → AllByRecursion (λ x. IsBelow (length nodes) x.parent) nodes → ((n : ℕ) → n < length (parents_of nodes) → is_within (parents_of nodes) (length nodes - 1) n ≡ true) → ((n : ℕ) → n < length (parents_of nodes) → is_within (parents_of nodes) 8 n ≡ true) → IsTree (parents_of nodes)
is_tree nodes roots below all near =
    let len : length (parents_of nodes) ≡ length nodes = length-map (λ (x : Node). x.parent) nodes in
    let root = root_is (parents_of nodes) 0 roots in
    let lt = root.0 in
    record {
      some = root.0;
      root = root.1;
      one_root = λ n lt e. one_root (parents_of nodes) 0 n roots lt e;
      parents_are_nodes = λ n m e. (
        let h = parent_below (length nodes) nodes below n m e in let low = h.0 in omega arith,
        let h = parent_below (length nodes) nodes below n m e in let low = h.1 in omega arith,
      );
      grounded = λ n. (let few = few_ancestors (parents_of nodes) (length nodes - 1) all n in omega arith);
      shallow = λ n. few_ancestors (parents_of nodes) 8 near n;
    }

-- roots are nodes
few_roots : (m : ℕ) (ps : List (Option ℕ)) → length (roots_from m ps) ≤ length ps
few_roots m [] = omega arith
few_roots m (None ∷ ps) = let h = few_roots (suc m) ps in omega arith
few_roots m (Some p ∷ ps) = let h = few_roots (suc m) ps in omega arith

fewer_roots : (m : ℕ) (ps : List (Option ℕ)) → list_any is_some ps ≡ true → length (roots_from m ps) < length ps
fewer_roots m [] e = cc
fewer_roots m (None ∷ ps) e = let h = fewer_roots (suc m) ps e in omega arith
fewer_roots m (Some p ∷ ps) e = let h = few_roots (suc m) ps in omega arith

any_parents : (nodes : List Node) → has_child nodes ≡ list_any is_some (parents_of nodes)
any_parents [] = refl
any_parents (x ∷ nodes) = ap (λ b. is_some x.parent || b) (any_parents nodes)

-- a root and a node with a parent are two nodes
pub two_nodes : (nodes : List Node) → has_child nodes ≡ true → length (roots_from 0 (parents_of nodes)) ≡ 1 → 2 ≤ length (parents_of nodes)
two_nodes nodes child one = let h = fewer_roots 0 (parents_of nodes) (sym (any_parents nodes) ∙ child) in omega arith
