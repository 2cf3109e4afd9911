-- The tree of a plan's nodes: the ancestors of a node and of its ancestors, and that the front end is the last of them.
use Rattle.std.proofs.Common.{◌≡◌, ◌⊎◌, ◌≤◌, ◌<◌, inl, inr, ℕ, suc, zero, List, [], ◌∷◌, ◌++◌, length, refl, sym, ap, subst, ◌∙◌, arith, Option, Some, None}
use Rattle.std.specs.Prelude.{slice_index_or}
use Rattle.overlay_setup.specs.NodeSets.{In}
use Rattle.overlay_setup.specs.Trees as tree
use Rattle.overlay_setup.specs.Trees.{climb}
use Rattle.stat_plan.specs.Plans.{Plan, nodes, front, ancestors, IsUnder}

-- the plan's parents are a tree
pub record IsRooted (p : Plan) : Type 0 where
  pub some : front p < nodes p
  pub root : slice_index_or p.parents (front p) None ≡ None
  pub one_root : (n : ℕ) → n < nodes p → slice_index_or p.parents n None ≡ None → n ≡ front p
  pub parents : (n m : ℕ) → slice_index_or p.parents n None ≡ Some m → (n < nodes p) × (m < nodes p)
  pub grounded : (n : ℕ) → length (ancestors p n) < nodes p
  pub shallow : (n : ℕ) → length (ancestors p n) ≤ 8

pub rooted : (p : Plan) → tree.IsTree p.parents → IsRooted p
unfolding front ancestors tree.ancestors
rooted p t = record {
  some = t.some;
  root = t.root;
  one_root = t.one_root;
  parents = t.parents_are_nodes;
  grounded = t.grounded;
  shallow = t.shallow;
}

climb_on : (ps : List (Option ℕ)) (links n m : ℕ) → slice_index_or ps n None ≡ Some m → climb ps (suc links) n ≡ m ∷ climb ps links m
climb_on ps links n m e = go (slice_index_or ps n None) e
  where
    go : (o : Option ℕ) → o ≡ Some m → (elim o [ None ↦ [] | Some q ↦ q ∷ climb ps links q ]) ≡ m ∷ climb ps links m
    go None k = absurd (cc)
    go (Some q) k = let j : q ≡ m = cc in ap (λ x. x ∷ climb ps links x) j

climb_end : (ps : List (Option ℕ)) (links n : ℕ) → slice_index_or ps n None ≡ None → climb ps (suc links) n ≡ []
climb_end ps links n e = go (slice_index_or ps n None) e
  where
    go : (o : Option ℕ) → o ≡ None → ◌≡◌ {A = List ℕ} (elim o [ None ↦ [] | Some q ↦ q ∷ climb ps links q ]) []
    go None k = refl
    go (Some q) k = absurd (cc)

split_parent : (o : Option ℕ) → (o ≡ None) ⊎ ((m : ℕ) × (o ≡ Some m))
split_parent None = inl refl
split_parent (Some m) = inr (m, refl)

-- a climb that may take more links than there are goes no further
climb_stable : (ps : List (Option ℕ)) (links n : ℕ) → length (climb ps links n) < links → climb ps (suc links) n ≡ climb ps links n
climb_stable ps zero n h = absurd (omega arith)
climb_stable ps (suc links) n h = elim (split_parent (slice_index_or ps n None)) [
  | inl e ↦ climb_end ps (suc links) n e ∙ sym (climb_end ps links n e)
  | inr r ↦
      let a : climb ps (suc (suc links)) n ≡ r.0 ∷ climb ps (suc links) r.0 = climb_on ps (suc links) n r.0 r.1 in
      let b : climb ps (suc links) n ≡ r.0 ∷ climb ps links r.0 = climb_on ps links n r.0 r.1 in
      let l : length (climb ps (suc links) n) ≡ suc (length (climb ps links r.0)) = ap length b in
      let ih : climb ps (suc links) r.0 ≡ climb ps links r.0 = climb_stable ps links r.0 (omega arith) in
      a ∙ ap (λ x. r.0 ∷ x) ih ∙ sym b
]

links_some : (n : ℕ) → 0 < n → (k : ℕ) × (n ≡ suc k)
links_some zero h = absurd (omega arith)
links_some (suc k) h = (k, refl)

pub ancestors_on : (p : Plan) (n m : ℕ) → IsRooted p → slice_index_or p.parents n None ≡ Some m → ancestors p n ≡ m ∷ ancestors p m
unfolding ancestors
ancestors_on p n m tree e =
    let r = links_some (nodes p) (let k = tree.some in omega arith) in
    let a : climb p.parents (nodes p) n ≡ m ∷ climb p.parents r.0 m = ap (λ f. climb p.parents f n) r.1 ∙ climb_on p.parents r.0 n m e in
    let g : length (climb p.parents (nodes p) n) < nodes p = tree.grounded n in
    let l : length (climb p.parents (nodes p) n) ≡ suc (length (climb p.parents r.0 m)) = ap length a in
    let k : nodes p ≡ suc r.0 = r.1 in
    let s : climb p.parents (suc r.0) m ≡ climb p.parents r.0 m = climb_stable p.parents r.0 m (omega arith) in
    a ∙ ap (λ x. m ∷ x) (sym s ∙ ap (λ f. climb p.parents f m) (sym r.1))

pub ancestors_end : (p : Plan) (n : ℕ) → IsRooted p → slice_index_or p.parents n None ≡ None → ancestors p n ≡ []
unfolding ancestors
ancestors_end p n tree e =
    let r = links_some (nodes p) (let k = tree.some in omega arith) in
    ap (λ f. climb p.parents f n) r.1 ∙ climb_end p.parents r.0 n e

pub rest : (p : Plan) → IsRooted p → (d q : ℕ) (near far : List ℕ) → ancestors p d ≡ near ++ q ∷ far → ancestors p q ≡ far
rest p tree d q [] far e = elim (split_parent (slice_index_or p.parents d None)) [
  | inl k ↦ absurd (let a : ancestors p d ≡ [] = ancestors_end p d tree k in cc)
  | inr r ↦
      let a : ancestors p d ≡ r.0 ∷ ancestors p r.0 = ancestors_on p d r.0 tree r.1 in
      let b : r.0 ≡ q = cc in
      let c : ancestors p r.0 ≡ far = cc in
      ap (ancestors p) (sym b) ∙ c
]
rest p tree d q (x ∷ near) far e = elim (split_parent (slice_index_or p.parents d None)) [
  | inl k ↦ absurd (let a : ancestors p d ≡ [] = ancestors_end p d tree k in cc)
  | inr r ↦
      let a : ancestors p d ≡ r.0 ∷ ancestors p r.0 = ancestors_on p d r.0 tree r.1 in
      let c : ancestors p r.0 ≡ near ++ q ∷ far = cc in
      rest p tree r.0 q near far c
]

split_at : (x : ℕ) (xs : List ℕ) → In x xs → (near : List ℕ) × (far : List ℕ) × (xs ≡ near ++ x ∷ far)
split_at x [] i = absurd i
split_at x (y ∷ ys) (inl e) = ([], ys, ap (λ a. a ∷ ys) (sym e))
split_at x (y ∷ ys) (inr i) = let r = split_at x ys i in (y ∷ r.0, r.1, ap (λ l. y ∷ l) r.2)

in_far : (x q : ℕ) (near far : List ℕ) → In x far → In x (near ++ q ∷ far)
in_far x q [] far i = inr i
in_far x q (y ∷ ys) far i = inr (in_far x q ys far i)

length_far : (q : ℕ) (near far : List ℕ) → length far < length (near ++ q ∷ far)
length_far q [] far = omega arith
length_far q (y ∷ ys) far = let ih : length far < length (ys ++ q ∷ far) = length_far q ys far in omega arith

pub trans : (p : Plan) → IsRooted p → (a b c : ℕ) → IsUnder p a b → IsUnder p b c → IsUnder p a c
trans p tree a b c u v =
    let r = split_at b (ancestors p a) u in
    let f : ancestors p b ≡ r.1 = rest p tree a b r.0 r.1 r.2 in
    subst (λ l. In c l) (sym r.2) (in_far c b r.0 r.1 (subst (λ l. In c l) f v))

pub irrefl : (p : Plan) → IsRooted p → (a : ℕ) → IsUnder p a a → ⊥
irrefl p tree a u =
    let r = split_at a (ancestors p a) u in
    let f : ancestors p a ≡ r.1 = rest p tree a a r.0 r.1 r.2 in
    let x : length (ancestors p a) ≡ length r.1 = ap length f in
    let y : length (ancestors p a) ≡ length (r.0 ++ a ∷ r.1) = ap length r.2 in
    let z : length r.1 < length (r.0 ++ a ∷ r.1) = length_far a r.0 r.1 in
    omega arith

-- every ancestor is a node, and some node is its child
pub record IsAbove (p : Plan) (n m : ℕ) : Type 0 where
  pub low : n < nodes p
  pub high : m < nodes p
  pub child : ℕ
  pub parent : slice_index_or p.parents child None ≡ Some m

above_by : (p : Plan) (n m q : ℕ) → IsRooted p → slice_index_or p.parents n None ≡ Some q → IsUnder p n m → (IsUnder p q m → IsAbove p q m) → IsAbove p n m
above_by p n m q tree e u ih =
    let b = tree.parents n q e in
    elim (subst (λ l. In m l) (ancestors_on p n q tree e) u) [
      | inl k ↦ record { low = b.0; high = subst (λ x. x < nodes p) (sym k) b.1; child = n; parent = e ∙ ap Some (sym k) }
      | inr i ↦ let r = ih i in record { low = b.0; high = r.high; child = r.child; parent = r.parent }
    ]

pub above_nodes : (p : Plan) (links n m : ℕ) → IsRooted p → length (ancestors p n) ≤ links → IsUnder p n m → IsAbove p n m
above_nodes p zero n m tree le u = absurd (empty (ancestors p n) le u)
  where
    empty : (xs : List ℕ) → length xs ≤ 0 → In m xs → ⊥
    empty [] h i = i
    empty (x ∷ xs) h i = omega arith
above_nodes p (suc links) n m tree le u = elim (split_parent (slice_index_or p.parents n None)) [
  | inl k ↦ absurd (subst (λ l. In m l) (ancestors_end p n tree k) u)
  | inr r ↦ above_by p n m r.0 tree r.1 u (λ v. above_nodes p links r.0 m tree (let a : length (ancestors p n) ≡ suc (length (ancestors p r.0)) = ap length (ancestors_on p n r.0 tree r.1) in omega arith) v)
]

pub under_front : (p : Plan) (links n : ℕ) → IsRooted p → length (ancestors p n) ≤ links → n < nodes p → (n ≡ front p) ⊎ IsUnder p n (front p)
under_front p zero n tree le lt = elim (split_parent (slice_index_or p.parents n None)) [
  | inl k ↦ inl (tree.one_root n lt k)
  | inr r ↦ absurd (let a : length (ancestors p n) ≡ suc (length (ancestors p r.0)) = ap length (ancestors_on p n r.0 tree r.1) in omega arith)
]
under_front p (suc links) n tree le lt = elim (split_parent (slice_index_or p.parents n None)) [
  | inl k ↦ inl (tree.one_root n lt k)
  | inr r ↦
      let a : ancestors p n ≡ r.0 ∷ ancestors p r.0 = ancestors_on p n r.0 tree r.1 in
      let l : length (ancestors p n) ≡ suc (length (ancestors p r.0)) = ap length a in
      elim (under_front p links r.0 tree (omega arith) (tree.parents n r.0 r.1).1) [
        | inl e ↦ inr (subst (λ l. In (front p) l) (sym a) (inl (sym e)))
        | inr u ↦ inr (subst (λ l. In (front p) l) (sym a) (inr u))
      ]
]
