use Rattle.std.proofs.Common.{◌≡◌, ◌≤◌, ◌-◌, length, take}
use Rattle.call_path.proofs.text_order.shared_blocks.Given as goal

abbrev pub invariant-loop-offset : goal.invariant-loop-offset
invariant-loop-offset l = record {
  left : l.offset ≤ length l.text;
  right : l.offset ≤ length l.other;
  same : take l.offset l.text ≡ take l.offset l.other;
}

abbrev pub decreases-loop-offset : goal.decreases-loop-offset
decreases-loop-offset l = length l.text - l.offset
