use Rattle.std.proofs.Common.{◌≡◌, [], map}
use Rattle.overlay_setup.specs.NodeSets.{up_to}
use Rattle.overlay_setup.specs.Tables.{rows_view}
use Rattle.stat_plan.proofs.parted_lines.empty_rows.Given as goal

abbrev pub invariant-loop : goal.invariant-loop
invariant-loop l = rows_view l.rows.items ≡ map (λ _. []) (up_to l.counter)
