use Rattle.std.proofs.Common.{arith}
use Rattle.arena_tree.proofs.Totals.{nodes_added-one, rows_added-one}
use Rattle.arena_tree.proofs.plan.ChangePlan.mark.Goals as goal

pub invariant_of-self-2 : goal.invariant_of-self-2
invariant_of-self-2 c =
    let nodes = nodes_added-one c.self.inside.steps.items c.push.new.self.items _ c.in_ok-push.ensures.items in
    let rows = rows_added-one c.self.inside.steps.items c.push.new.self.items _ c.in_ok-push.ensures.items in
    record { next = omega (arith, nodes, c.self.invariant.next); rows = omega (arith, rows, c.self.invariant.rows) }
