use Rattle.std.proofs.Common.{◌<◌, ◌-◌, length, ap, ◌∙◌, length-set, arith}
use Rattle.std.specs.Prelude.{None}
use Rattle.node_arena.proofs.Filling.{filled_some, filled_take_at}
use Rattle.node_arena.proofs.chunk.drop_values.Goals as goal

pub take-requires : goal.take-requires
take-requires g c =
    let loop = c.loop-left in
    let lt : loop.left - 1 < loop.left = omega (arith, c.loop-left-test.true) in
    filled_some _ loop.slots.contents _ loop.invariant.filled lt

pub loop-left-preserved : goal.loop-left-preserved
loop-left-preserved g c =
    let loop = c.loop-left in let taken = c.take.ensures in
    let some : 0 < loop.left = omega (arith, c.loop-left-test.true) in
    record {
      filled = filled_take_at _ loop.slots.contents _ loop.invariant.filled some taken.contents;
      capacity = ap length taken.contents ∙ length-set loop.slots.contents _ None ∙ loop.invariant.capacity;
      block = record {
        start = taken.block.start ∙ loop.invariant.block.start;
        capacity = taken.block.capacity ∙ loop.invariant.block.capacity;
      };
    }
