use Rattle.std.proofs.Common.{◌≡◌, ◌-◌, ◌<◌, ◌++◌, length}
use Rattle.overlay_setup.specs.Trees.{climb}
use Rattle.overlay_setup.proofs.ancestors.ancestors_of.Given as goal

abbrev pub invariant-loop : goal.invariant-loop
invariant-loop l = record {
  node : l.at < length l.topology.parents;
  above : l.above.items ++ climb l.topology.parents (length l.topology.parents - l.counter) l.at ≡ climb l.topology.parents (length l.topology.parents) l.fn.n;
}
