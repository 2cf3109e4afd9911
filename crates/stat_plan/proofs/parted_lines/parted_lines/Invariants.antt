use Rattle.stat_plan.specs.OwnLines.{AreReordered}
use Rattle.overlay_setup.specs.Tables.{rows_view}
use Rattle.stat_plan.proofs.parted_lines.parted_lines.Given as goal

abbrev pub invariant-loop-n : goal.invariant-loop-n
invariant-loop-n l = AreReordered (rows_view l.initial.rows.items) (rows_view l.rows.items)
