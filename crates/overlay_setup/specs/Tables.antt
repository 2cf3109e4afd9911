-- Tables by node number.
use Rattle.std.specs.Prelude.{ℕ, List, map, Vec, length, Option}
use Rattle.overlay_setup.specs.NodeSets.{up_to}
use Rattle.overlay_setup.specs.Trees.{climb}

-- the rows of a table
abbrev pub rows_view : {X A : Type 0} → List (Vec X A) → List (List X)
rows_view table = map (λ row. row.items) table

-- each node's ancestors, nearest first, by node number
abbrev pub ancestors_table : List (Option ℕ) → List (List ℕ)
ancestors_table parents = map (climb parents (length parents)) (up_to (length parents))
