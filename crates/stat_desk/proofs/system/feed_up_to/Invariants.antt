use Rattle.std.proofs.Common.{◌≡◌, ◌+◌, length, vec_len}
use Rattle.stat_desk.proofs.system.feed_up_to.Given as goal

abbrev pub invariant-loop-count : goal.invariant-loop-count
invariant-loop-count g l = record {
  room : vec_len l.piece ≡ 65536;
  fed : (g.F.Feed.feeds l.fn.fed l.given.bytes l.fed) × (length l.given.bytes + l.left ≡ l.max);
}

abbrev pub decreases-loop-count : goal.decreases-loop-count
decreases-loop-count g l = l.left
