-- A job has a daemon: from the root down, each node that is no daemon has a child, and no node is far from the root.
use Rattle.std.proofs.Common.{◌≡◌, ℕ, zero, suc, ◌+◌, ◌<◌, ◌≤◌, Bool, true, false, not, ◌&&◌, nat_eq, List, [], ◌∷◌, length, Option, None, Some, refl, sym, ap, ◌∙◌, arith}
use Rattle.std.specs.List.{list_all}
use Rattle.std.proofs.lemmas.Bool.{eqb-true}
use Rattle.overlay_setup.specs.Trees.{parent_of, climb, ancestors, root_of, is_other, is_daemon, IsTree}

-- a node that is a parent has a child
first_child : (n : ℕ) (p : Option ℕ) → is_other n p ≡ false → p ≡ Some n
first_child n None e = cc
first_child n (Some q) e = by (nat_eq q n) refl e
  where
    by : (b : Bool) → nat_eq q n ≡ b → not b ≡ false → Some q ≡ Some n
    by true is not = ap Some (eqb-true q n is)
    by false is not = cc

child : (ps : List (Option ℕ)) (n : ℕ) → list_all (is_other n) ps ≡ false → (m : ℕ) × (parent_of ps m ≡ Some n)
child [] n e = cc
child (p ∷ ps) n e = by (is_other n p) refl e (child ps n)
  where
    by : (b : Bool) → is_other n p ≡ b → (b && list_all (is_other n) ps) ≡ false → (list_all (is_other n) ps ≡ false → (m : ℕ) × (parent_of ps m ≡ Some n)) → (m : ℕ) × (parent_of (p ∷ ps) m ≡ Some n)
    by true is rest further = let h = further rest in (suc h.0, h.1)
    by false is rest further = (0, first_child n p is)

-- one link less changes nothing where there are fewer ancestors
module _ (ps : List (Option ℕ)) where
  climb_some : (links n p : ℕ) → parent_of ps n ≡ Some p → climb ps (suc links) n ≡ p ∷ climb ps links p
  climb_some links n p e = ap (λ o. elim o as (λ _. List ℕ) [ None ↦ [] | (Some p) ↦ p ∷ climb ps links p ]) e

  climb_none : (links n : ℕ) → parent_of ps n ≡ None → climb ps (suc links) n ≡ []
  climb_none links n e = ap (λ o. elim o as (λ _. List ℕ) [ None ↦ [] | (Some p) ↦ p ∷ climb ps links p ]) e

  same_climb : (links n : ℕ) → length (climb ps (suc links) n) ≤ links → length (climb ps links n) ≡ length (climb ps (suc links) n)
  same_climb zero n few = omega arith
  same_climb (suc links) n few = by (parent_of ps n) refl (same_climb links)
    where
      by : (o : Option ℕ) → parent_of ps n ≡ o → ((p : ℕ) → length (climb ps (suc links) p) ≤ links → length (climb ps links p) ≡ length (climb ps (suc links) p)) → length (climb ps (suc links) n) ≡ length (climb ps (suc (suc links)) n)
      by None e further = ap length (climb_none links n e) ∙ sym (ap length (climb_none (suc links) n e))
      by (Some p) e further =
          let here : length (climb ps (suc links) n) ≡ length (p ∷ climb ps links p) = ap length (climb_some links n p e) in
          let there : length (climb ps (suc (suc links)) n) ≡ length (p ∷ climb ps (suc links) p) = ap length (climb_some (suc links) n p e) in
          let same = further p (omega arith) in
          omega arith

  -- a child has one ancestor more
  child_depth : (count n m : ℕ) → parent_of ps m ≡ Some n → length (climb ps count n) < count → length (climb ps count m) ≡ length (climb ps count n) + 1
  child_depth zero n m e few = absurd (omega arith)
  child_depth (suc links) n m e few =
      let here : length (climb ps (suc links) m) ≡ length (n ∷ climb ps links n) = ap length (climb_some links m n e) in
      let same = same_climb links n (omega arith) in
      omega arith

module _ (ps : List (Option ℕ)) (tree : IsTree ps) where
  deeper : (n m : ℕ) → parent_of ps m ≡ Some n → length (ancestors ps m) ≡ length (ancestors ps n) + 1
  unfolding ancestors
  deeper n m e = child_depth ps (length ps) n m e (tree.grounded n)

  down : (more n : ℕ) → n < length ps → 8 < length (ancestors ps n) + more → (d : ℕ) × (d < length ps) × (is_daemon ps d ≡ true)
  down zero n lt deep = let near = tree.shallow n in absurd (omega arith)
  down (suc more) n lt deep = by (is_daemon ps n) refl (down more)
    where
      by : (b : Bool) → is_daemon ps n ≡ b → ((m : ℕ) → m < length ps → 8 < length (ancestors ps m) + more → (d : ℕ) × (d < length ps) × (is_daemon ps d ≡ true)) → (d : ℕ) × (d < length ps) × (is_daemon ps d ≡ true)
      by true e further = (n, lt, e)
      by false e further =
          let c = child ps n e in
          let one = deeper n c.0 c.1 in
          further c.0 (tree.parents_are_nodes c.0 n c.1).0 (omega arith)

  -- some node is a daemon
  pub some_daemon : (d : ℕ) × (d < length ps) × (is_daemon ps d ≡ true)
  some_daemon = down 9 (root_of ps) tree.some (omega arith)
