use Rattle.std.proofs.Common.{ap, ◌∙◌}
use Rattle.node_arena.proofs.Filling.{filled_is_empty}
use Rattle.node_arena.proofs.chunk.Chunk.drop.Goals as goal

pub deallocate-requires : goal.deallocate-requires
deallocate-requires g c =
    let none = ap (λ a. a.items) c.self.view_is ∙ c.clear.ensures.items in
    (c.self.invariant.same, filled_is_empty _ c.self.inside.slots.contents c.self.invariant.filled none)
