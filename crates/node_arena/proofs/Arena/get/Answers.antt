use Rattle.std.proofs.Common.{◌≡◌, ◌<◌, length, sym, subst, arith}
use Rattle.std.specs.Prelude.{slice_get, Some}
use Rattle.node_arena.specs.Arena.{Chunk}
use Rattle.node_arena.proofs.Chunks.{chunk_offset, view_below, chunk_inside, place_inside, get_placed}
use Rattle.node_arena.proofs.Arena.get.Goals as goal

pub index-requires : goal.index-requires
index-requires g c =
    let inside = c.self.inside in let packed = c.self.invariant.packed in
    let lt : c.args.place < inside.len = view_below _ inside.spare _ _ c.args.self.now packed c.self.view_is c.requires in
    omega (arith, inside.chunks.ok, chunk_inside _ inside.chunks.items _ packed lt)

pub get-requires : goal.get-requires
get-requires g c =
    let inside = c.self.inside in let packed = c.self.invariant.packed in
    let lt : c.args.place < inside.len = view_below _ inside.spare _ _ c.args.self.now packed c.self.view_is c.requires in
    subst (λ (h : Chunk g.row.T.Denot). chunk_offset c.args.place < length h.items) (sym c.index.ensures)
    (place_inside _ inside.chunks.items _ c.index.result.now packed lt)

pub returns : goal.returns
returns g c =
    let inside = c.self.inside in let packed = c.self.invariant.packed in
    let lt : c.args.place < inside.len = view_below _ inside.spare _ _ c.args.self.now packed c.self.view_is c.requires in
    let found =
    subst (λ (h : Chunk g.row.T.Denot). slice_get h.items (chunk_offset c.args.place) ≡ Some c.get.result.now)
    c.index.ensures c.get.ensures in
    rw (← c.self.view_is) (get_placed _ inside.chunks.items _ c.index.result.now c.get.result.now packed lt found)
