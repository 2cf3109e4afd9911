use Rattle.std.proofs.Common.{◌-◌, ◌<◌, ◌≤◌}
use Rattle.stat_plan.specs.OwnLines.{HaveSameRanks, ranks_of_lines}
use Rattle.stat_plan.proofs.line_index.end_of_same.Given as goal

abbrev pub invariant-loop-end : goal.invariant-loop-end
invariant-loop-end l = (l.first < l.end) × (l.end ≤ l.count) × HaveSameRanks (ranks_of_lines l.lines) l.first l.end

-- how many lines are left
abbrev pub decreases-loop-end : goal.decreases-loop-end
decreases-loop-end l = l.count - l.end
