-- A forest with a node for each row.
use Rattle.std.specs.Prelude.{◌≡◌, ℕ, suc, ◌+◌, List, [], ◌∷◌, ◌++◌, map}
use Rattle.std.specs.declared.cmp.Ordering.{Ordering}
use Rattle.std.specs.declared.cmp.Ordering.TheVariants.{Less}
use Rattle.std.specs.Ordering.{nat_cmp}
use Rattle.std.specs.Cmp.Lexicographic.{slice_cmp}
use Rattle.call_path.specs.Path.{Path}
use Rattle.prefix_tree.specs.Tree.{Marks}
use Rattle.prefix_tree.specs.Joined.{below_frame}

-- a place, its frame and marks, the nodes below it, and its later siblings
pub data RowForest : Type 0 where
  no_rows : RowForest
  row_node : ℕ → List ℕ → Marks → RowForest → RowForest → RowForest

-- frames in byte order
abbrev pub frame_cmp : List ℕ → List ℕ → Ordering
frame_cmp = slice_cmp nat_cmp

-- how many nodes
abbrev pub size : RowForest → ℕ
size no_rows = 0
size (row_node a f m b s) = suc (size b + size s)

-- the rows in order: a node, those below it, then its siblings
abbrev pub forest_rows : RowForest → List (Path × Marks)
forest_rows no_rows = []
forest_rows (row_node a f m b s) = (f ∷ [], m) ∷ map (below_frame f) (forest_rows b) ++ forest_rows s

-- siblings rise by frame
abbrev pub IsBefore : List ℕ → RowForest → Type 0
IsBefore f no_rows = Unit {0}
IsBefore f (row_node a g m b s) = frame_cmp f g ≡ Less

-- so they do everywhere
abbrev pub HasIncreasingRows : RowForest → Type 0
HasIncreasingRows no_rows = Unit {0}
HasIncreasingRows (row_node a f m b s) = IsBefore f s × HasIncreasingRows b × HasIncreasingRows s
