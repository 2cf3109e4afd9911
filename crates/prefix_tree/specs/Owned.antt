-- The rows of an owned tree.
use Rattle.std.specs.Prelude.{ℕ, suc, ◌≤◌, All, List, [], ◌∷◌, map, length, Result, Ok, Err}
use Rattle.std.proofs.Common.{T}
use Rattle.std.specs.declared.cmp.Ordering.{Ordering}
use Rattle.std.specs.declared.cmp.Ordering.TheVariants.{Less, Equal, Greater}
use Rattle.std.specs.FinMap as finmap
use Rattle.rank_set.specs.Ranks.{Ranks}
use Rattle.call_path.specs.Path.{Path, path_cmp}
use Rattle.call_path.specs.Good.{IsGoodPath}
use Rattle.prefix_tree.specs.Tree.{Tree, Marks, IsTree}
use Rattle.prefix_tree.specs.Joined.{Below}
use Rattle.prefix_tree.specs.declared.owned.TreeRow.{TreeRow}

-- what a row shows: its path, and its label and ends
abbrev pub entry_of : TreeRow → Path × Marks
entry_of row = (row.path, (row.label, row.ends))

-- what the rows show
abbrev pub entries_view : List TreeRow → List (Path × Marks)
entries_view rows = map entry_of rows

-- the paths increase
abbrev pub HasIncreasingPaths : List TreeRow → Type 0
HasIncreasingPaths rows = T (finmap.is_sorted path_cmp (entries_view rows))

-- the rows as a map
abbrev pub below_in : List TreeRow → Below
below_in rows = finmap.from_sorted (entries_view rows)

-- the rows as a tree over a coverage
abbrev pub tree_in : Ranks → List TreeRow → Tree
tree_in C rows = record { coverage = C; below = below_in rows }

-- the rows are in order, they are the rows of a tree, they are few, and their paths are good
pub record AreTreeRows (C : Ranks) (rows : List TreeRow) : Type 0 where
  pub in_order : HasIncreasingPaths rows
  pub tree : IsTree (tree_in C rows)
  pub within_limit : length rows ≤ 2048
  pub good : All (λ e. IsGoodPath e.0) (entries_view rows)

-- one of three, by an order
abbrev pub by_order : {A : Type 0} → Ordering → A → A → A → A
by_order Less a b c = a
by_order Equal a b c = b
by_order Greater a b c = c

-- a place, one row on
abbrev pub next_place : Result ℕ ℕ → Result ℕ ℕ
next_place (Ok i) = Ok (suc i)
next_place (Err i) = Err (suc i)

-- where the entry of a path is, or where it would go
abbrev pub place_of : Path → List (Path × Marks) → Result ℕ ℕ
place_of p [] = Err 0
place_of p (e ∷ es) = by_order (path_cmp p e.0) (Err 0) (Ok 0) (next_place (place_of p es))
