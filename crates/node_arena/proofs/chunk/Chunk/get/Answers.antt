use Rattle.std.proofs.Common.{◌<◌, ◌∙◌}
use Rattle.node_arena.proofs.Filling.{view_below, filled_some, filled_get}
use Rattle.node_arena.proofs.chunk.Chunk.get.Goals as goal

pub get-requires : goal.get-requires
get-requires g c =
    let slots = c.self.inside.slots in let filled = c.self.invariant.filled in
    let lt : c.args.i < c.self.inside.len = view_below _ _ slots.contents c.args.self.now filled c.self.view_is c.requires in
    filled_some _ slots.contents _ filled lt

pub returns : goal.returns
returns g c =
    let slots = c.self.inside.slots in let filled = c.self.invariant.filled in
    let lt : c.args.i < c.self.inside.len = view_below _ _ slots.contents c.args.self.now filled c.self.view_is c.requires in
    rw (← c.self.view_is) (filled_get _ slots.contents _ filled lt ∙ c.get.ensures)
