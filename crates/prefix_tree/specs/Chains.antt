-- Rows one below the other, read at once.
use Rattle.std.specs.Prelude.{ℕ, suc, ◌+◌, ◌-◌, ◌<◌, ◌≤◌, List, [], ◌∷◌, length, map, drop}
use Rattle.rank_set.specs.Ranks.{none}
use Rattle.call_path.specs.Path.{Path}
use Rattle.prefix_tree.specs.declared.Chain.{Chain}
use Rattle.prefix_tree.specs.Tree.{Marks, Tree, frame_of, rows_of}

-- what a reader sees of a row: its depth, its last frame, and its label and ends
abbrev pub shown : Path × Marks → ℕ × List ℕ × Marks
shown e = (length e.0, frame_of e.0, e.1)

-- what a reader sees of the rows of a tree, the root first
abbrev pub rows_shown : Tree → List (ℕ × List ℕ × Marks)
rows_shown t = map shown (rows_of t)

-- one row for each of some frames, the first at a depth and each of the others below the one before: all have the label, and the last alone has the ends
abbrev pub chained : ℕ → Path → Marks → List (ℕ × List ℕ × Marks)
chained d [] m = []
chained d (f ∷ []) m = (d, f, m) ∷ []
chained d (f ∷ g ∷ fs) m = (d, f, (m.0, none)) ∷ chained (suc d) (g ∷ fs) m

-- what a reader sees of the rows of a chain
abbrev pub chain_rows : Chain → List (ℕ × List ℕ × Marks)
chain_rows c = chained c.depth (drop c.skip c.frames.now) (c.label.now, c.ends.now)

-- a chain below the root has rows, none of them too deep
pub record IsGoodChain (c : Chain) : Type 0 where
  pub not_empty : c.skip < length c.frames.now
  pub below_root : 0 < c.depth
  pub within_limit : c.depth + (length c.frames.now - c.skip) ≤ 129
