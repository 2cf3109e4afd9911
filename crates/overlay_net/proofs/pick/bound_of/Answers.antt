use Rattle.std.proofs.Common.{◌+◌, ◌*◌, ◌≤◌, arith}
use Rattle.overlay_core.specs.Bound.{bound_of}
use Rattle.overlay_net.proofs.SmallCounts.{greatest_bound, small_bound_of}
use Rattle.overlay_net.proofs.pick.bound_of.Goals as goal

pub overflow_mul-result-6 : goal.overflow_mul-result-6
overflow_mul-result-6 c =
    let most : c.args.n * c.args.n + 9 * c.args.n + 3 * c.args.n * c.args.m * (c.args.n + 9) * (c.args.t + 1) ≤ bound_of 512 128 1000 = small_bound_of c.args.n c.args.m c.args.t c.requires.nodes c.requires.waves c.requires.ticks in
    let greatest = greatest_bound in
    omega (arith, most, greatest)

pub overflow_add-result-4 : goal.overflow_add-result-4
overflow_add-result-4 c =
    let most : c.args.n * c.args.n + 9 * c.args.n + 3 * c.args.n * c.args.m * (c.args.n + 9) * (c.args.t + 1) ≤ bound_of 512 128 1000 = small_bound_of c.args.n c.args.m c.args.t c.requires.nodes c.requires.waves c.requires.ticks in
    let greatest = greatest_bound in
    omega (arith, most, greatest)
