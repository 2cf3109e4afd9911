use Rattle.std.proofs.Common.{◌≡◌, ◌+◌, vec_len}
use Rattle.stat_desk.proofs.system.make_room.Given as goal

abbrev pub invariant-loop-left : goal.invariant-loop-left
invariant-loop-left l = vec_len l.bytes + l.left ≡ vec_len l.fn.bytes + l.count

abbrev pub decreases-loop-left : goal.decreases-loop-left
decreases-loop-left l = l.left
