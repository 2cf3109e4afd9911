use Rattle.std.proofs.Common.{◌≡◌, take}
use Rattle.topology_text.specs.Whole.{parents_of}
use Rattle.topology_text.proofs.whole.parents_of.Given as goal

abbrev pub invariant-loop-node : goal.invariant-loop-node
invariant-loop-node l = l.parents.items ≡ parents_of (take l.node-index l.nodes)
