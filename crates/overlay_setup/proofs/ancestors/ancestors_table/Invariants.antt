use Rattle.std.proofs.Common.{◌≡◌, length, map}
use Rattle.overlay_setup.specs.NodeSets.{up_to}
use Rattle.overlay_setup.specs.Tables.{rows_view}
use Rattle.overlay_setup.specs.Trees.{climb}
use Rattle.overlay_setup.proofs.ancestors.ancestors_table.Given as goal

abbrev pub invariant-loop-n : goal.invariant-loop-n
invariant-loop-n l = rows_view l.table.items ≡ map (climb l.topology.parents (length l.topology.parents)) (up_to l.n)
