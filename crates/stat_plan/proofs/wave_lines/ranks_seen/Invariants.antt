use Rattle.std.proofs.Common.{take}
use Rattle.overlay_setup.specs.Tables.{rows_view}
use Rattle.stat_plan.proofs.Gathering.{AreRowsSeen}
use Rattle.stat_plan.proofs.wave_lines.ranks_seen.Given as goal

abbrev pub invariant-loop-d : goal.invariant-loop-d
invariant-loop-d l = AreRowsSeen l.wanted.times.samples l.wanted.times.wave l.wanted.ranks.now (rows_view l.parted.rows.items) (take l.d-index l.wanted.daemons.now) l.count l.sets.items
