use Rattle.std.proofs.Common.{◌≡◌, length}
use Rattle.node_arena.specs.Filled.{IsFilledTo}
use Rattle.node_arena.specs.SlotWrites.{IsSameBlock}
use Rattle.node_arena.proofs.chunk.drop_values.Given as goal

abbrev pub invariant-loop-left : goal.invariant-loop-left
invariant-loop-left g l = record {
  filled : IsFilledTo l.left l.slots.contents;
  capacity : length l.slots.contents ≡ length l.fn.slots.contents;
  block : IsSameBlock l.fn.slots l.slots;
}

abbrev pub decreases-loop-left : goal.decreases-loop-left
decreases-loop-left g l = l.left
