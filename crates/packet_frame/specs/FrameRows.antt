-- The rows of a frame, one after another, and the tree that they make.
use Rattle.std.specs.Prelude.{◌≡◌, ℕ, ◌+◌, ◌≤◌, cond, take, List, [], ◌∷◌, ◌++◌, length}
use Rattle.rank_set.specs.Ranks.{Ranks, is_empty}
use Rattle.call_path.specs.Path.{Path}
use Rattle.prefix_tree.specs.Tree.{Tree, tree_of, added}
use Rattle.packet_frame.specs.Frame.{Row, row_of}
use Rattle.packet_frame.specs.Sent.{pairs_of_rows}

-- a tree with the ends of one more row
abbrev pub grown : Tree → Ranks → Path → Tree
grown t ends p = cond (is_empty ends) t (added t ends p)

-- a tree with the ends of more rows
abbrev pub rows_onto : Tree → List Row → Tree
rows_onto t [] = t
rows_onto t (r ∷ rs) = rows_onto (grown t r.ends r.path) rs

-- a row behind another: how many of the first frames of that one's path its own keeps, the frame behind them, and its ends
pub record NamedRow : Type 0 where
  pub keep : ℕ
  pub name : List ℕ
  pub ends : Ranks

abbrev pub row_named : ℕ → List ℕ → Ranks → NamedRow
row_named keep name ends = record { keep = keep; name = name; ends = ends }

-- the path of a row behind another: the first frames of that one's path, and its own name
abbrev pub path_behind : Path → NamedRow → Path
path_behind before r = take r.keep before ++ r.name ∷ []

-- rows, each behind the path of the one before
abbrev pub rows_view : Path → List NamedRow → List Row
rows_view before [] = []
rows_view before (r ∷ rs) = let path = path_behind before r in row_of path r.ends ∷ rows_view path rs

-- the path of the last row
abbrev pub last_path : Path → List NamedRow → Path
last_path before [] = before
last_path before (r ∷ rs) = last_path (path_behind before r) rs

-- a tree over a coverage is that of some rows, the last of which has this path; with so many more there are at most 2,048
pub record HasGrown (cover : Ranks) (t : Tree) (last : Path) (more : ℕ) : Type 0 where
  pub rows : List NamedRow
  pub tree : t ≡ tree_of (pairs_of_rows (rows_view [] rows)) cover
  pub path : last_path [] rows ≡ last
  pub few : length rows + more ≤ 2048
