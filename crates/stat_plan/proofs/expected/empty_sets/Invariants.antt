use Rattle.std.proofs.Common.{◌≡◌, map}
use Rattle.rank_set.specs.Ranks.{none}
use Rattle.overlay_setup.specs.NodeSets.{up_to}
use Rattle.stat_plan.proofs.expected.empty_sets.Given as goal

abbrev pub invariant-loop : goal.invariant-loop
invariant-loop l = l.sets.items ≡ map (λ _. none) (up_to l.counter)
