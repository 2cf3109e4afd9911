-- The call-graph prefix tree of a set of pairs over a coverage.
use Rattle.std.specs.Prelude.{◌≡◌, ◌≤◌, ℕ, nat_eq, All, cond, List, [], ◌∷◌, ◌++◌, Option, Some, None}
use Rattle.std.specs.List.{flat_map}
use Rattle.std.specs.FinMap as finmap
use Rattle.rank_set.specs.Ranks.{Ranks, none, in_order, size, union}
use Rattle.call_path.specs.Path.{Path, path_cmp}
use Rattle.call_path.specs.Good.{IsGoodPath}
use Rattle.call_path.specs.Pairs.{Pairs, pairs_at, prefixes_of}
use Rattle.prefix_tree.specs.Pairs.{label, ends, IsWithin}

-- the ranks that pass a prefix, and those whose path ends there
abbrev pub Marks : Type 0
Marks = Ranks × Ranks

-- the coverage, and the marks of each prefix below the root, in the order of the prefixes
pub record Tree : Type 0 where
  pub coverage : Ranks
  pub below : finmap.FinMap path_cmp Marks

-- a label and ends, where the label is not empty
abbrev pub marks_of : Ranks → Ranks → Option Marks
marks_of l e = cond (nat_eq (size l) 0) None (Some (l, e))

-- what stands at a prefix below the root: nothing where no rank passes
abbrev pub row_at : Pairs → Ranks → Path → Option Marks
row_at P C [] = None
row_at P C (f ∷ p) = marks_of (label P C (f ∷ p)) (ends P C (f ∷ p))

-- a row before others, if there is one
abbrev pub with_row : Path → Option Marks → List (Path × Marks) → List (Path × Marks)
with_row p None rows = rows
with_row p (Some m) rows = (p, m) ∷ rows

-- the rows at prefixes
abbrev pub rows_at : Pairs → Ranks → List Path → List (Path × Marks)
rows_at P C [] = []
rows_at P C (p ∷ ps) = with_row p (row_at P C p) (rows_at P C ps)

-- the rows of the pairs of P whose rank is in C
unfoldable pub tree_of : Pairs → Ranks → Tree
tree_of P C = record { coverage = C; below = finmap.from_entries (rows_at P C (prefixes_of P)) }

-- the pairs that the ends of the rows give back
abbrev pub pairs_of : Tree → Pairs
pairs_of t = flat_map (λ e. pairs_at (in_order e.1.1) e.0) (finmap.entries t.below)

-- the rows below the root
abbrev pub count_below : Tree → ℕ
count_below t = finmap.len t.below

-- the rows in the order of their prefixes, the root first: a prefix, and its label and ends
abbrev pub rows_of : Tree → List (Path × Marks)
rows_of t = ([], (t.coverage, none)) ∷ finmap.entries t.below

-- the last frame of a prefix, and `/` at the root
abbrev pub frame_of : Path → List ℕ
frame_of [] = 47 ∷ []
frame_of (f ∷ []) = f
frame_of (f ∷ g ∷ p) = frame_of (g ∷ p)

-- a tree is that of the pairs that its rows give back
abbrev pub IsTree : Tree → Type 0
IsTree t = t ≡ tree_of (pairs_of t) t.coverage

-- the pairs of both, over the ranks of both
abbrev pub merged : Tree → Tree → Tree
merged t u = tree_of (pairs_of t ++ pairs_of u) (union t.coverage u.coverage)

-- the same pairs, over more ranks
abbrev pub covered : Tree → Ranks → Tree
covered t C = tree_of (pairs_of t) (union t.coverage C)

-- the pairs, and each of the ranks with the path
abbrev pub added : Tree → Ranks → Path → Tree
added t C p = tree_of (pairs_of t ++ pairs_at (in_order C) p) t.coverage

-- v is the tree of united pairs over the united ranks, whatever pairs t and u are trees of
abbrev pub Unites : Tree → Tree → Tree → Type 0
Unites t u v = (P Q : Pairs) (A B : Ranks) → IsWithin P A → IsWithin Q B → t ≡ tree_of P A → u ≡ tree_of Q B → v ≡ tree_of (P ++ Q) (union A B)

-- v is the tree of the same pairs over the ranks of C besides, whatever pairs t is a tree of
abbrev pub Covers : Tree → Ranks → Tree → Type 0
Covers t C v = (P : Pairs) (A : Ranks) → IsWithin P A → t ≡ tree_of P A → v ≡ tree_of P (union A C)

-- v is the tree of the pairs and of each rank of C with the path, whatever pairs t is a tree of
abbrev pub Adds : Tree → Ranks → Path → Tree → Type 0
Adds t C p v = (P : Pairs) (A : Ranks) → t ≡ tree_of P A → v ≡ tree_of (P ++ pairs_at (in_order C) p) A

-- what holds of every tree that a program holds: it is that of its own pairs, it has at most 2,048 rows below the root, and their prefixes are good paths
pub record IsLawful (t : Tree) : Type 0 where
  pub tree : IsTree t
  pub within_limit : count_below t ≤ 2048
  pub good : All (λ e. IsGoodPath e.0) (finmap.entries t.below)
