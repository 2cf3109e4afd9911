use Rattle.std.proofs.Common.{◌≡◌, take}
use Rattle.stat_plan.specs.Plans.{ranks_on}
use Rattle.stat_plan.specs.Files.{plan_in}
use Rattle.stat_plan.proofs.limit.ranks_of.Given as goal

abbrev pub invariant-loop-d : goal.invariant-loop-d
invariant-loop-d l = l.ranks ≡ ranks_on (plan_in l.fn.files) (take l.d-index l.daemons)
