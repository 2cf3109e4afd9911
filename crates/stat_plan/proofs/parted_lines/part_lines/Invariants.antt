use Rattle.std.proofs.Common.{take}
use Rattle.stat_plan.specs.OwnLines.{AreKeysOf, AreParted}
use Rattle.overlay_setup.specs.Tables.{rows_view}
use Rattle.stat_plan.proofs.parted_lines.part_lines.Given as goal

abbrev pub invariant-loop-i : goal.invariant-loop-i
invariant-loop-i l = record {
  keys : AreKeysOf l.spread.keys.keys l.spread.lines.items;
  parted : AreParted l.placed (take l.i l.lines) l.spread.lines.items (rows_view l.rows);
}
