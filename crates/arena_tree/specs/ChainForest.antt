-- Forests of chains: a node stands for rows one below the other.
use Rattle.std.specs.Prelude.{ℕ, suc, ◌+◌, List, [], ◌∷◌, length}
use Rattle.rank_set.specs.Ranks.{Ranks, none}
use Rattle.call_path.specs.Path.{Path}
use Rattle.prefix_tree.specs.Tree.{Marks}
use Rattle.prefix_tree.specs.Owned.{by_order}
use Rattle.arena_tree.specs.RowForest.{RowForest, no_rows, row_node, frame_cmp, HasIncreasingRows}

-- a place, the first frame of the chain and those behind it, the marks of its last row, the nodes below it, and its later siblings
pub data ChainForest : Type 0 where
  no_chains : ChainForest
  chain_node : ℕ → List ℕ → Path → Marks → ChainForest → ChainForest → ChainForest

-- the ends of a row, where frames of its chain are behind it
abbrev pub row_ends : Path → Ranks → Ranks
row_ends [] e = e
row_ends (f ∷ fs) e = none

-- the marks of a row, where frames of its chain are behind it
abbrev pub row_marks : Path → Marks → Marks
row_marks fs m = (m.0, row_ends fs m.1)

-- what is below a row, where frames of its chain are behind it: one node for each of them, and the forest below the last
abbrev pub rows_below : ℕ → Path → Marks → RowForest → RowForest
rows_below a [] m b = b
rows_below a (f ∷ fs) m b = row_node a f (row_marks fs m) (rows_below a fs m b) no_rows

-- the rows that a forest of chains shows, a node for each row
abbrev pub rows_of_chains : ChainForest → RowForest
rows_of_chains no_chains = no_rows
rows_of_chains (chain_node a f fs m b s) = row_node a f (row_marks fs m) (rows_below a fs m (rows_of_chains b)) (rows_of_chains s)

-- siblings rise by their first frame, everywhere
abbrev pub HasIncreasingChains : ChainForest → Type 0
HasIncreasingChains t = HasIncreasingRows (rows_of_chains t)

-- how many nodes
abbrev pub count_nodes : ChainForest → ℕ
count_nodes no_chains = 0
count_nodes (chain_node a f fs m b s) = suc (count_nodes b + count_nodes s)

-- how many rows
abbrev pub count_rows : ChainForest → ℕ
count_rows no_chains = 0
count_rows (chain_node a f fs m b s) = suc (length fs + (count_rows b + count_rows s))

-- the frames that two paths begin with, and what each has behind them
pub record FrameSplit : Type 0 where
  pub common : Path
  pub own : Path
  pub other : Path

-- the three parts
abbrev pub split_parts : Path → Path → Path → FrameSplit
split_parts c m t = record { common = c; own = m; other = t }

-- one frame more before both
abbrev pub with_common : List ℕ → FrameSplit → FrameSplit
with_common f s = record { common = f ∷ s.common; own = s.own; other = s.other }

-- both paths as they are
abbrev pub no_common : Path → Path → FrameSplit
no_common fs gs = record { common = []; own = fs; other = gs }

abbrev pub split_frames : Path → Path → FrameSplit
split_frames [] gs = no_common [] gs
split_frames (f ∷ fs) [] = no_common (f ∷ fs) []
split_frames (f ∷ fs) (g ∷ gs) = by_order (frame_cmp g f) (no_common (f ∷ fs) (g ∷ gs)) (with_common f (split_frames fs gs)) (no_common (f ∷ fs) (g ∷ gs))

-- whether a node must be cut: one node more
abbrev pub cut_count : Path → ℕ
cut_count [] = 0
cut_count (f ∷ fs) = 1

-- the nodes with the places from n on
abbrev pub renumbered : ℕ → ChainForest → ChainForest
renumbered n no_chains = no_chains
renumbered n (chain_node x g gs w c t) = chain_node n g gs w (renumbered (suc n) c) (renumbered (suc n + count_nodes c) t)
