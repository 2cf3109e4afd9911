use Rattle.stat_plan.specs.PathOrder.{last_path, numbered}
use Rattle.stat_plan.proofs.Counting.{IsCounting}
use Rattle.stat_plan.proofs.limit.is_within.Given as goal

abbrev pub invariant-loop-number : goal.invariant-loop-number
invariant-loop-number l = IsCounting (numbered l.paths l.order) l.seen l.number-index (last_path l.last) l.count
