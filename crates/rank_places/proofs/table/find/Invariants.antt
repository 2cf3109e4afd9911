use Rattle.std.proofs.Common.{◌≤◌, ◌<◌, ◌-◌, length}
use Rattle.rank_places.specs.Table.{source_at}
use Rattle.rank_places.proofs.table.find.Given as goal

abbrev pub invariant-loop-high : goal.invariant-loop-high
invariant-loop-high l = record {
  ordered : l.low < l.high;
  inside : l.high ≤ length l.runs;
  ahead : 1 ≤ l.step;
  begun : 0 < l.low → source_at l.back l.runs l.low ≤ l.number;
  next : l.high < length l.runs → l.number < source_at l.back l.runs l.high;
}

abbrev pub decreases-loop-high : goal.decreases-loop-high
decreases-loop-high l = l.high - l.low
