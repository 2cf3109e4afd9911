use Rattle.std.proofs.Common.{length}
use Rattle.packet_frame.specs.Scanning.{is_plain_ascii}
use Rattle.packet_frame.proofs.Blocks.{IsTested}
use Rattle.packet_frame.proofs.rows.many_plain_blocks.Given as goal

abbrev pub invariant-loop-all : goal.invariant-loop-all
invariant-loop-all l = IsTested is_plain_ascii 16 l.field l.rest l.all

abbrev pub decreases-loop-all : goal.decreases-loop-all
decreases-loop-all l = length l.rest
