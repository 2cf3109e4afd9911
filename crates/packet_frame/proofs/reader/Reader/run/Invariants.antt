use Rattle.std.proofs.Common.{length, ◌-◌}
use Rattle.packet_frame.specs.Reading.{IsOn}
use Rattle.packet_frame.proofs.reader.Reader.run.Given as goal

abbrev pub invariant-loop-alloc : goal.invariant-loop-alloc
invariant-loop-alloc g l = IsOn l.self l.bytes

abbrev pub decreases-loop-alloc : goal.decreases-loop-alloc
decreases-loop-alloc g l = length l.bytes - l.self.at
