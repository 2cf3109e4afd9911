-- How rows are put to the rows of a tree: first as they will stand, and then each in its place.
use Rattle.std.specs.Prelude.{ℕ, ◌+◌, cond, Bool, List, [], ◌∷◌, not}
use Rattle.std.specs.FinMap as finmap
use Rattle.call_path.specs.Path.{Path, path_cmp}
use Rattle.prefix_tree.specs.Tree.{Marks}
use Rattle.prefix_tree.specs.Joined.{Below, both_marks}

-- a row as it will stand: its marks united into those at its path
abbrev pub changed : Below → Path × Marks → Path × Marks
changed b e = (e.0, both_marks (finmap.get b e.0) e.1)

-- whether there is no row at its path
abbrev pub is_new : Below → Path × Marks → Bool
is_new b e = not (finmap.contains_key b e.0)

-- how many of some rows are new
abbrev pub new_among : Below → List (Path × Marks) → ℕ
new_among b [] = 0
new_among b (e ∷ es) = cond (is_new b e) 1 0 + new_among b es

-- the rows after each of the others is put in its place
abbrev pub inserted : List (Path × Marks) → List (Path × Marks) → List (Path × Marks)
inserted es [] = es
inserted es (c ∷ cs) = inserted (finmap.put path_cmp c.0 c.1 es) cs
