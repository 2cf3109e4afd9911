use Rattle.std.proofs.Common.{◌≡◌, length, ◌-◌, ◌≤◌, take}
use Rattle.stat_desk.specs.Change.{change}
use Rattle.stat_desk.specs.Sink.{TookWhole}
use Rattle.stat_desk.proofs.sink.write_all_to.Given as goal

abbrev pub invariant-loop-taken : goal.invariant-loop-taken
invariant-loop-taken g l = record {
  within : l.taken ≤ length l.bytes;
  taken : TookWhole (change g.S.Sink.seen l.fn.sink l.sink) (take l.taken l.bytes);
  untouched : l.taken ≡ 0 → l.sink ≡ l.fn.sink;
}

abbrev pub decreases-loop-taken : goal.decreases-loop-taken
decreases-loop-taken g l = length l.bytes - l.taken
