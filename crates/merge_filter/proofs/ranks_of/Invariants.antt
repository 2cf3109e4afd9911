use Rattle.std.proofs.Common.{◌≡◌, take}
use Rattle.stat_plan.specs.Plans.{ranks_on}
use Rattle.merge_filter.proofs.ranks_of.Given as goal

abbrev pub invariant-loop-d : goal.invariant-loop-d
invariant-loop-d l = l.own ≡ ranks_on l.plan (take l.d-index l.some)
