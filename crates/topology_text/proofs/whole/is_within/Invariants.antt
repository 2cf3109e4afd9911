use Rattle.std.proofs.Common.{◌≡◌, ◌-◌}
use Rattle.topology_text.specs.Whole.{is_within}
use Rattle.topology_text.proofs.whole.is_within.Given as goal

abbrev pub invariant-loop : goal.invariant-loop
invariant-loop l = is_within l.parents (l.links - l.counter) l.at ≡ is_within l.parents l.links l.node
