-- Two lists of classes made one: sorted by their paths, neighbours of the same paths united, sorted by least ranks.
use Rattle.std.specs.Prelude.{◌≡◌, ℕ, Bool, false, cond, List, [], ◌∷◌, length, map}
use Rattle.std.specs.List.Sorted.{IsStrictlySortedBy}
use Rattle.std.specs.Ordering.{eq_by_cmp, nat_cmp}
use Rattle.std.specs.Cmp.Lexicographic.{slice_cmp}
use Rattle.rank_set.specs.Ranks.{Ranks, union}
use Rattle.call_path.specs.Path.{Path, path_cmp}
use Rattle.call_path.specs.Pairs.{Pairs}
use Rattle.prefix_tree.specs.Tree.{Tree, pairs_of}
use Rattle.equiv_class.specs.Classes.{classes_of}
use Rattle.equiv_class.specs.ClassList.{HaveIndices, class_views}
use Rattle.equiv_class.specs.SeenPaths.{seen_in}
use Rattle.equiv_class.specs.declared.Class.{Class}

-- the paths of a list stand in order, each once
abbrev pub ArePathsInOrder : List (Path × Ranks) → Type 0
ArePathsInOrder es = IsStrictlySortedBy path_cmp (map (λ e. e.0) es)

-- the classes of P over C, whose paths are listed by their indices in es
pub record AreClassesOver (es : List (Path × Ranks)) (P : Pairs) (C : Ranks) (ks : List Class) : Type 0 where
  pub indices : HaveIndices (length es) ks
  pub classes : class_views es ks ≡ classes_of P C

-- the same of a tree's own pairs, where es are the paths of the tree in which ranks were seen
abbrev pub AreClassesSeen : List (Path × Ranks) → Ranks → List Class → Type 0
AreClassesSeen es C ks = (t : Tree) → es ≡ seen_in t → AreClassesOver es (pairs_of t) C ks

-- all are the classes over both of two sets of ranks, where one and other are those over each: of any pairs, and of any paths in order
abbrev pub AreUnited : List Class → List Class → List Class → Type 0
AreUnited one other all = (es : List (Path × Ranks)) (P : Pairs) (A B : Ranks) → ArePathsInOrder es
    → AreClassesOver es P A one → AreClassesOver es P B other → AreClassesOver es P (union A B) all

-- ---- how they are made one. No clause of a public call cites what follows.

-- the ranks of a class, and the indices of its paths
abbrev pub index_view : Class → Ranks × List ℕ
index_view k = (k.ranks, k.paths.items)

-- those of each class
abbrev pub index_views : List Class → List (Ranks × List ℕ)
index_views ks = map index_view ks

-- two lists of indices are the same
abbrev pub same_indices : List ℕ → List ℕ → Bool
same_indices is js = eq_by_cmp (slice_cmp nat_cmp) is js

-- Ranks, each with what they have in common: their paths, or the indices of these. The last has this in common.
abbrev pub ends_with : {X : Type 0} → (X → X → Bool) → List (Ranks × X) → X → Bool
ends_with same [] x = false
ends_with same (l ∷ []) x = same l.1 x
ends_with same (l ∷ m ∷ ls) x = ends_with same (m ∷ ls) x

-- the last has more ranks
abbrev pub with_ranks : {X : Type 0} → List (Ranks × X) → Ranks → List (Ranks × X)
with_ranks [] ranks = []
with_ranks (l ∷ []) ranks = (union l.0 ranks, l.1) ∷ []
with_ranks (l ∷ m ∷ ls) ranks = l ∷ with_ranks (m ∷ ls) ranks

-- one more: its ranks join those of the last, where that has the same in common
abbrev pub with_block : {X : Type 0} → (X → X → Bool) → List (Ranks × X) → Ranks × X → List (Ranks × X)
with_block same [] k = k ∷ []
with_block same (l ∷ []) k = cond (same l.1 k.1) ((union l.0 k.0, l.1) ∷ []) (l ∷ k ∷ [])
with_block same (l ∷ m ∷ ls) k = l ∷ with_block same (m ∷ ls) k

-- one after another
abbrev pub with_blocks : {X : Type 0} → (X → X → Bool) → List (Ranks × X) → List (Ranks × X) → List (Ranks × X)
with_blocks same done [] = done
with_blocks same done (k ∷ ks) = with_blocks same (with_block same done k) ks
