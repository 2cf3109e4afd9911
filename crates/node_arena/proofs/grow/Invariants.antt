use Rattle.std.proofs.Common.{◌-◌, length}
use Rattle.node_arena.specs.Layout.{IsGrown}
use Rattle.node_arena.proofs.grow.Given as goal

abbrev pub invariant-loop-alloc : goal.invariant-loop-alloc
invariant-loop-alloc g l = IsGrown l.fn.chunks.items l.chunks.items

abbrev pub decreases-loop-alloc : goal.decreases-loop-alloc
decreases-loop-alloc g l = l.wanted - length l.chunks.items
