use Rattle.std.proofs.Common.{ap, arith}
use Rattle.node_arena.proofs.Chunks.{view_count, arena_cleared, items_cleared}
use Rattle.node_arena.proofs.Arena.clear.Goals as goal

pub invariant_of-self : goal.invariant_of-self
invariant_of-self g c = arena_cleared _ _ _ _ c.self.invariant c.clear_chunks.ensures

pub returns-clause-items : goal.returns-clause-items
returns-clause-items g c = items_cleared _ _ _ _ c.self.invariant c.clear_chunks.ensures

pub returns-clause-spare : goal.returns-clause-spare
returns-clause-spare g c =
    let count = view_count _ _ _ c.args.self.now c.self.invariant.packed c.self.view_is in
    omega (arith, count, ap (λ a. a.spare) c.self.view_is)
