use Rattle.std.proofs.Common.{sym, ap, subst, ◌∙◌}
use Rattle.node_arena.specs.Filled.{IsFilledTo, slots_view}
use Rattle.node_arena.proofs.Filling.{filled_none, values-none}
use Rattle.node_arena.proofs.chunk.Chunk.new.Goals as goal

pub invariant_of-result : goal.invariant_of-result
invariant_of-result g c = let made = c.in_ok-slots.ensures in record {
  filled = subst (IsFilledTo 0) (sym made.0) (filled_none _ c.args.capacity);
  same = made.1;
}

pub returns-clause-items : goal.returns-clause-items
returns-clause-items g c = ap slots_view c.in_ok-slots.ensures.0 ∙ values-none _ c.args.capacity
