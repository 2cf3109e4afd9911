use Rattle.std.proofs.Common.{take}
use Rattle.stat_plan.specs.Tables.{AreAllExpected}
use Rattle.overlay_setup.specs.Tables.{rows_view}
use Rattle.stat_plan.specs.Files.{plan_in}
use Rattle.stat_plan.proofs.plan.expected_tables.Given as goal

abbrev pub invariant-loop-stream : goal.invariant-loop-stream
invariant-loop-stream l = AreAllExpected (plan_in l.fn.files) (take l.stream-index l.stream-items) (rows_view l.tables.items)
