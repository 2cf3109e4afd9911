use Rattle.std.proofs.Common.{◌≡◌, drop}
use Rattle.topology_text.specs.Whole.{roots_from}
use Rattle.topology_text.proofs.whole.next_root.Given as goal

abbrev pub invariant-loop-node : goal.invariant-loop-node
invariant-loop-node l = roots_from l.node (drop l.node l.parents) ≡ roots_from l.from (drop l.from l.parents)
