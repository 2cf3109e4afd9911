use Rattle.std.proofs.Common.{◌≡◌, ◌<◌, length, refl, sym, subst, arith}
use Rattle.std.specs.Prelude.{slice_get, Some}
use Rattle.node_arena.specs.Arena.{Chunk}
use Rattle.node_arena.proofs.Chunks.{chunk_offset, view_below, chunk_inside, place_inside, get_placed, arena_set, items_set}
use Rattle.node_arena.proofs.Arena.get_mut.Goals as goal

pub index_mut-requires : goal.index_mut-requires
index_mut-requires g c =
    let inside = c.self.inside in let packed = c.self.invariant.packed in
    let lt : c.args.place < inside.len = view_below _ inside.spare _ _ c.args.self.now packed c.self.view_is c.requires in
    omega (arith, inside.chunks.ok, chunk_inside _ inside.chunks.items _ packed lt)

pub get_mut-requires : goal.get_mut-requires
get_mut-requires g c =
    let inside = c.self.inside in let packed = c.self.invariant.packed in
    let lt : c.args.place < inside.len = view_below _ inside.spare _ _ c.args.self.now packed c.self.view_is c.requires in
    subst (λ (h : Chunk g.row.T.Denot). chunk_offset c.args.place < length h.items) (sym c.index_mut.ensures.value)
    (place_inside _ inside.chunks.items _ c.index_mut.result.now packed lt)

pub invariant_of-self-lent : goal.invariant_of-self-lent
invariant_of-self-lent g c w =
    let inside = c.self.inside in let packed = c.self.invariant.packed in
    let lt : c.args.place < inside.len = view_below _ inside.spare _ _ c.args.self.now packed c.self.view_is c.requires in
    arena_set _ _ _ _ c.index_mut.result.now w c.self.invariant lt c.index_mut.ensures.value

pub returns : goal.returns
returns g c =
    let inside = c.self.inside in let packed = c.self.invariant.packed in
    let lt : c.args.place < inside.len = view_below _ inside.spare _ _ c.args.self.now packed c.self.view_is c.requires in
    let chunk = c.index_mut.result.now in let value = c.get_mut.result.now in let at = c.index_mut.ensures.value in
    let found = subst (λ (h : Chunk g.row.T.Denot). slice_get h.items (chunk_offset c.args.place) ≡ Some value)
    at c.get_mut.ensures.value in
    let placed = get_placed _ inside.chunks.items _ chunk value packed lt found in
    let whole = c.self.invariant in let cs = inside.chunks.items in (
      (refl, λ w. rw (← c.self.view_is, items_set _ cs inside.spare c.args.place chunk w whole lt at) refl),
      record { writes_back = tt; value = rw (← c.self.view_is) placed },
    )
