use Rattle.std.proofs.Common.{◌≤◌, ◌+◌, length}
use Rattle.node_tests.proofs.packet_frame_tests.fed_by_bytes.Given as goal

abbrev pub invariant-loop-i : goal.invariant-loop-i
invariant-loop-i g l = l.feeder.before + length l.feeder.rest ≤ l.i
