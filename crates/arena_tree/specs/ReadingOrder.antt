-- Rows read one after another.
use Rattle.std.specs.Prelude.{◌≡◌, ℕ, suc, List, [], ◌∷◌, ◌++◌}
use Rattle.rank_set.specs.Ranks.{none}
use Rattle.call_path.specs.Path.{Path}
use Rattle.prefix_tree.specs.Tree.{Marks}
use Rattle.prefix_tree.specs.declared.Row.{Row}
use Rattle.arena_tree.specs.RowForest.{RowForest, no_rows, row_node}
use Rattle.arena_tree.specs.ChainForest.{ChainForest, no_chains, chain_node, rows_of_chains}

-- what the rows of a forest show, where its first nodes have the depth d: the depth, the last frame, and the marks
abbrev pub shows : ℕ → RowForest → List (ℕ × List ℕ × Marks)
shows d no_rows = []
shows d (row_node a f m b s) = (d, f, m) ∷ shows (suc d) b ++ shows d s

-- the rows that are still to come: those of forests that wait, each with the depth of its first nodes
abbrev pub waiting_rows : List (ℕ × ChainForest) → List (ℕ × List ℕ × Marks)
waiting_rows [] = []
waiting_rows (e ∷ es) = shows e.0 (rows_of_chains e.1) ++ waiting_rows es

-- how a reader goes on: along the chain of a node, or from its last row to the nodes below it; its later siblings wait
pub record ReadsInOrder : Type 0 where
  pub along : (d a : ℕ) (f g : List ℕ) (fs : Path) (m : Marks) (b s : ChainForest) (es : List (ℕ × ChainForest)) → waiting_rows ((d, chain_node a f (g ∷ fs) m b s) ∷ es) ≡ (d, f, (m.0, none)) ∷ waiting_rows ((suc d, chain_node a g fs m b no_chains) ∷ (d, s) ∷ es)
  pub below : (d a : ℕ) (f : List ℕ) (m : Marks) (b s : ChainForest) (es : List (ℕ × ChainForest)) → waiting_rows ((d, chain_node a f [] m b s) ∷ es) ≡ (d, f, m) ∷ waiting_rows ((suc d, b) ∷ (d, s) ∷ es)
  pub back : (d : ℕ) (es : List (ℕ × ChainForest)) → waiting_rows ((d, no_chains) ∷ es) ≡ waiting_rows es

-- what a row shows
abbrev pub row_seen : Row → ℕ × List ℕ × Marks
row_seen row = (row.depth, row.frame.now, (row.label.now, row.ends.now))
