use Rattle.std.proofs.Common.{arith}
use Rattle.stat_plan.proofs.Counting.{number_below}
use Rattle.stat_plan.proofs.path_order.path_places.Goals as goal

pub index_mut-requires : goal.index_mut-requires
index_mut-requires c =
    let below = number_below c.args.paths.now c.args.order.now c.loop-place.place c.requires c.loop-place-test.true in
    omega (arith, below, c.loop-place.invariant)
