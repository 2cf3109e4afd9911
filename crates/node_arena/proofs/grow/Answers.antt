use Rattle.std.proofs.Common.{◌≡◌, List, [], ◌∷◌, ◌++◌, sym, subst}
use Rattle.node_arena.specs.Arena.{Chunk}
use Rattle.node_arena.specs.Layout.{IsGrown}
use Rattle.node_arena.proofs.Chunks.{grown_same, grown_push}
use Rattle.node_arena.proofs.grow.Goals as goal

pub loop-alloc-preserved : goal.loop-alloc-preserved
loop-alloc-preserved g c =
    let new : c.push.new.self.items ≡ c.loop-alloc.chunks.items ++ c.in_ok-chunk.chunk ∷ [] = c.in_ok-push.ensures.items in
    let made = c.in_ok-chunk.ensures in
    subst (λ (ds : List (Chunk g.row.T.Denot)). IsGrown c.args.chunks.now.items ds) (sym new)
    (grown_push _ _ c.in_ok-chunk.chunk made.items made.capacity c.loop-alloc.invariant)

pub loop-alloc-init : goal.loop-alloc-init
loop-alloc-init g c = grown_same c.args.chunks.now.items
