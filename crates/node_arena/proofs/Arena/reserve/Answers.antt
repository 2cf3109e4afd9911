use Rattle.std.proofs.Common.{◌+◌, ◌<◌, ◌^◌, length, ap, ◌∙◌, arith}
use Rattle.node_arena.proofs.Chunks.{view_count, grown_view, arena_grown, arena_longer, on_err, room_for}
use Rattle.node_arena.proofs.Arena.reserve.Goals as goal

pub overflow_add-wanted : goal.overflow_add-wanted
overflow_add-wanted g c =
    let count = view_count _ _ _ c.args.self.now c.self.invariant.packed c.self.view_is in
    record { fits = omega (arith, count, c.requires) }

pub invariant_of-self : goal.invariant_of-self
invariant_of-self g c = arena_longer _ _ _ _ c.self.invariant c.grow.ensures.grown

pub returns-in_err-grow-clause-items : goal.returns-in_err-grow-clause-items
returns-in_err-grow-clause-items g c = grown_view _ _ c.grow.ensures.grown ∙ ap (λ a. a.items) c.self.view_is

pub returns-in_err-grow-clause-unchanged : goal.returns-in_err-grow-clause-unchanged
returns-in_err-grow-clause-unchanged g c =
    let same = ap (λ xs. record { items = xs; spare = c.self.inside.spare }) (grown_view _ _ c.grow.ensures.grown) in
    on_err c.from_residual.result (same ∙ c.self.view_is)

pub invariant_of-self-2 : goal.invariant_of-self-2
invariant_of-self-2 g c =
    let count = view_count _ _ _ c.args.self.now c.self.invariant.packed c.self.view_is in
    let small : c.self.inside.len + c.args.n < 2 ^ 32 = omega (arith, count, c.requires) in
    arena_grown _ _ _ _ _ c.self.invariant c.grow.ensures.grown small
    (room_for (c.self.inside.len + c.args.n) (length c.grow.new.chunks.items) c.in_ok-grow.ensures.enough)

pub returns-clause-items : goal.returns-clause-items
returns-clause-items g c = grown_view _ _ c.grow.ensures.grown ∙ ap (λ a. a.items) c.self.view_is
