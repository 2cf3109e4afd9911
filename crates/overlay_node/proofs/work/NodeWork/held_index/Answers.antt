use Rattle.std.proofs.Common.{◌≡◌, ◌<◌, ◌+◌, length, drop, arith}
use Rattle.overlay_node.specs.Acting.{held_index}
use Rattle.overlay_node.proofs.Stepping.{index_there}
use Rattle.overlay_node.proofs.work.NodeWork.held_index.Goals as goal

pub returns-clause-in_range : goal.returns-clause-in_range
returns-clause-in_range g c =
    let es = c.args.self.now.held.items in
    let at : held_index c.args.s c.args.w es ≡ c.loop-i.i + held_index c.args.s c.args.w (drop c.loop-i.i es) = c.loop-i.invariant in
    let lt : held_index c.args.s c.args.w es < length es = index_there c.args.s c.args.w es c.requires in
    let end = c.loop-i-test.false in
    absurd (omega (arith, at, lt, end))
