use Rattle.std.proofs.Common.{◌≡◌, ◌+◌, ◌-◌, ◌++◌, drop}
use Rattle.packet_frame.specs.Writing.{below_bytes, AreText}
use Rattle.packet_frame.proofs.encoding.put_below.Given as goal

abbrev pub invariant-loop-i : goal.invariant-loop-i
invariant-loop-i l = record {
  bytes : l.out.items ++ below_bytes (l.chain.depth + (l.i - l.chain.skip)) (drop l.i l.chain.frames.now) ≡ l.fn.out.items ++ below_bytes (l.chain.depth + 1) (drop (l.chain.skip + 1) l.chain.frames.now);
  text : AreText (drop l.i l.chain.frames.now) → AreText (drop (l.chain.skip + 1) l.chain.frames.now);
}
