use Rattle.std.proofs.Common.{◌-◌}
use Rattle.count_tree.proofs.Descents.{IsBelow}
use Rattle.count_tree.proofs.CountTree.find.Given as goal

abbrev pub invariant-loop-node : goal.invariant-loop-node
invariant-loop-node l = IsBelow l.self-inside.sums.items l.self-inside.leaves l.i l.node l.left

abbrev pub decreases-loop-node : goal.decreases-loop-node
decreases-loop-node l = l.self-inside.leaves - l.node
