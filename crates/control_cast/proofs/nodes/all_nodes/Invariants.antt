use Rattle.std.proofs.Common.{◌≡◌}
use Rattle.overlay_setup.specs.NodeSets.{up_to}
use Rattle.control_cast.proofs.nodes.all_nodes.Given as goal

abbrev pub invariant-loop-n : goal.invariant-loop-n
invariant-loop-n l = record {
  numbers : l.numbers.items ≡ up_to l.n;
}
