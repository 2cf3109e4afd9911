use Rattle.std.proofs.Common.{◌≤◌, ◌<◌, ◌-◌}
use Rattle.rank_set.specs.declared.TheConstants.{RANK_LIMIT}
use Rattle.rank_set.specs.Ranks.{Has}
use Rattle.stat_plan.specs.OwnLines.{AreMarked}
use Rattle.rank_set.specs.Runs.{ranks_between}
use Rattle.stat_plan.proofs.line_index.mark_nodes.Given as goal

abbrev pub invariant-loop-run : goal.invariant-loop-run
invariant-loop-run l = record {
  marked : AreMarked l.placed (λ r. Has r l.ranks × (r < l.from)) (ranks_between l.lines.first l.lines.last) l.fn.numbers l.numbers;
  within : l.from ≤ RANK_LIMIT;
}

abbrev pub decreases-loop-run : goal.decreases-loop-run
decreases-loop-run l = RANK_LIMIT - l.from

abbrev pub invariant-loop-from : goal.invariant-loop-from
invariant-loop-from l = record {
  marked : AreMarked l.placed (λ r. Has r l.ranks × (r < l.from)) (ranks_between l.lines.first l.lines.last) l.fn.numbers l.numbers;
  begun : l.initial.from ≤ l.from;
  within : l.from ≤ RANK_LIMIT;
}

abbrev pub decreases-loop-from : goal.decreases-loop-from
decreases-loop-from l = RANK_LIMIT - l.from
