use Rattle.stat_plan.proofs.Marking.{AreMarkedTo}
use Rattle.rank_set.specs.Runs.{ranks_between}
use Rattle.stat_plan.proofs.line_index.mark_each.Given as goal

abbrev pub invariant-loop-n : goal.invariant-loop-n
invariant-loop-n l = AreMarkedTo l.placed l.ranks (ranks_between l.lines.first l.lines.last) l.fn.numbers l.numbers l.n
