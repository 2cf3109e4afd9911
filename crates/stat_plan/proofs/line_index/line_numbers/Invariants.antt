use Rattle.std.proofs.Common.{take, ◌≤◌, ◌-◌}
use Rattle.stat_plan.specs.OwnLines.{AreIndexed, ranks_of_lines}
use Rattle.stat_plan.proofs.line_index.line_numbers.Given as goal

abbrev pub invariant-loop-first : goal.invariant-loop-first
invariant-loop-first l = AreIndexed l.placed (ranks_of_lines (take l.first l.lines)) l.numbers.items × (l.first ≤ l.count)

abbrev pub decreases-loop-first : goal.decreases-loop-first
decreases-loop-first l = l.count - l.first
