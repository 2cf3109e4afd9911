use Rattle.node_arena.proofs.Filling.{filled_values}
use Rattle.node_arena.proofs.chunk.Chunk.clear.Goals as goal

pub returns-clause-items : goal.returns-clause-items
returns-clause-items g c = filled_values _ c.drop_values.ensures.empty
