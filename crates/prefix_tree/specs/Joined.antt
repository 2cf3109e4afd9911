-- Rows put together, by their prefixes.
use Rattle.std.specs.Prelude.{◌≡◌, ℕ, Bool, true, false, ◌&&◌, List, [], ◌∷◌, Option, Some, None, map}
use Rattle.std.specs.List.{list_any}
use Rattle.std.specs.FinMap as finmap
use Rattle.rank_set.specs.Ranks.{Ranks, none, has, union}
use Rattle.call_path.specs.Path.{Path, path_cmp, is_path}
use Rattle.call_path.specs.Pairs.{Pairs, is_below, is_pair, passes}
use Rattle.prefix_tree.specs.Tree.{Marks, Tree}

-- the marks of each prefix below the root
abbrev pub Below : Type 0
Below = finmap.FinMap path_cmp Marks

-- marks united with those that stand, if any do
abbrev pub both_marks : Option Marks → Marks → Marks
both_marks None m = m
both_marks (Some a) m = (union a.0 m.0, union a.1 m.1)

-- the marks united into those at the prefix
abbrev pub put_row : Below → Path → Marks → Below
put_row b p m = finmap.insert b p (both_marks (finmap.get b p) m)

-- each of the rows united into those at its prefix
abbrev pub insert_rows : Below → List (Path × Marks) → Below
insert_rows b [] = b
insert_rows b (e ∷ es) = insert_rows (put_row b e.0 e.1) es

-- the marks at the end of a path, and above it
abbrev pub last_marks : Path → Ranks → Marks
last_marks [] C = (C, C)
last_marks (f ∷ p) C = (C, none)

-- a row with a frame before its path
abbrev pub below_frame : List ℕ → Path × Marks → Path × Marks
below_frame f e = (f ∷ e.0, e.1)

-- the rows of one path
abbrev pub path_rows : Ranks → Path → List (Path × Marks)
path_rows C [] = []
path_rows C (f ∷ p) = (f ∷ [], last_marks p C) ∷ map (below_frame f) (path_rows C p)

-- some row of the prefix passes a test
abbrev pub in_rows : (Marks → Bool) → List (Path × Marks) → Path → Bool
in_rows test es q = list_any (λ e. is_path q e.0 && test e.1) es

-- whether there are marks that pass a test
abbrev pub if_some : (Marks → Bool) → Option Marks → Bool
if_some test None = false
if_some test (Some m) = test m

-- the row of the prefix passes a test
abbrev pub seen : (Marks → Bool) → Below → Path → Bool
seen test b q = if_some test (finmap.get b q)

-- the rank is in the label
abbrev pub labelled : ℕ → Marks → Bool
labelled r m = has m.0 r

-- the rank is in the ends
abbrev pub ended : ℕ → Marks → Bool
ended r m = has m.1 r

-- the rows say of each prefix below the root which ranks of C pass it and which end there
pub record AreRowsOf (P : Pairs) (C : Ranks) (es : List (Path × Marks)) : Type 0 where
  pub labels : (p : Path) (r : ℕ) → in_rows (labelled r) es p ≡ (is_below p && (has C r && passes P r p))
  pub ends : (p : Path) (r : ℕ) → in_rows (ended r) es p ≡ (is_below p && (has C r && is_pair P r p))
  pub used : (p : Path) → in_rows (λ m. true) es p ≡ true → (r : ℕ) × (in_rows (labelled r) es p ≡ true)

-- the same of a tree, whose root has the coverage C
pub record IsTreeOf (P : Pairs) (C : Ranks) (t : Tree) : Type 0 where
  pub coverage : t.coverage ≡ C
  pub labels : (p : Path) (r : ℕ) → seen (labelled r) t.below p ≡ (is_below p && (has C r && passes P r p))
  pub ends : (p : Path) (r : ℕ) → seen (ended r) t.below p ≡ (is_below p && (has C r && is_pair P r p))
  pub used : (p : Path) → seen (λ m. true) t.below p ≡ true → (r : ℕ) × (seen (labelled r) t.below p ≡ true)

-- P and Q have the same pairs of ranks of C
abbrev pub AreSamePairs : Pairs → Pairs → Ranks → Type 0
AreSamePairs P Q C = (p : Path) (r : ℕ) → (is_below p && (has C r && is_pair P r p)) ≡ (is_below p && (has C r && is_pair Q r p))
