use Rattle.std.proofs.Common.{◌≡◌, [], filter}
use Rattle.stat_plan.specs.Machine.Kin.{is_parent, nearest}
use Rattle.stat_plan.specs.Plans.{ancestors}
use Rattle.overlay_setup.specs.NodeSets.{up_to}
use Rattle.loss_adoption.proofs.init.children_of.Given as goal

abbrev pub invariant-loop-c : goal.invariant-loop-c
invariant-loop-c l = l.children.items ≡ filter (λ c. is_parent (nearest (ancestors l.plan c) []) l.n) (up_to l.c)
