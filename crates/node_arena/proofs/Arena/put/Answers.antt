use Rattle.std.proofs.Common.{◌≤◌, ◌<◌, length, sym, subst}
use Rattle.node_arena.specs.Arena.{Chunk}
use Rattle.node_arena.proofs.Chunks.{packed_count, view_spare, next_room, arena_put, items_put}
use Rattle.node_arena.proofs.Arena.put.Goals as goal

pub push-requires : goal.push-requires
push-requires g c =
    let inside = c.self.inside in
    let some : 1 ≤ inside.spare = view_spare _ inside.chunks.items c.args.self.now c.self.view_is c.requires in
    subst (λ (h : Chunk g.row.T.Denot). length h.items < h.capacity) (sym c.index_mut.ensures.value)
    (next_room _ inside.chunks.items inside.spare c.index_mut.result.now c.self.invariant some)

pub invariant_of-self : goal.invariant_of-self
invariant_of-self g c =
    let inside = c.self.inside in let pushed = c.push.ensures in
    let some : 1 ≤ inside.spare = view_spare _ inside.chunks.items c.args.self.now c.self.view_is c.requires in
    arena_put _ _ _ c.index_mut.result.now _ _ c.self.invariant some c.index_mut.ensures.value pushed.items pushed.capacity

pub returns-clause-place : goal.returns-clause-place
returns-clause-place g c = rw (← c.self.view_is) (sym (packed_count _ _ c.self.invariant.packed))

pub returns-clause-items : goal.returns-clause-items
returns-clause-items g c =
    let inside = c.self.inside in let chunk = c.index_mut in
    let some : 1 ≤ inside.spare = view_spare _ inside.chunks.items c.args.self.now c.self.view_is c.requires in
    rw (← c.self.view_is)
    (items_put _ _ inside.spare chunk.result.now _ _ c.self.invariant some chunk.ensures.value c.push.ensures.items)
