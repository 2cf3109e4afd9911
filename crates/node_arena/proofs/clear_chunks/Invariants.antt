use Rattle.node_arena.proofs.Chunks.{ClearedTo}
use Rattle.node_arena.proofs.clear_chunks.Given as goal

abbrev pub invariant-loop-k : goal.invariant-loop-k
invariant-loop-k g l = ClearedTo l.k l.fn.chunks.items l.chunks.items
