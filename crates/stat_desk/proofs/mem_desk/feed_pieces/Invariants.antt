use Rattle.std.proofs.Common.{◌≤◌, ◌-◌, length, take}
use Rattle.stat_desk.proofs.mem_desk.feed_pieces.Given as goal

abbrev pub invariant-loop-count : goal.invariant-loop-count
invariant-loop-count g l = record {
  within : l.count ≤ length l.bytes;
  fed : g.F.Feed.feeds l.fn.fed (take l.count l.bytes) l.fed;
}

abbrev pub decreases-loop-count : goal.decreases-loop-count
decreases-loop-count g l = length l.bytes - l.count
