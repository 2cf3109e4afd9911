use Rattle.std.proofs.Common.{◌≡◌, ◌+◌, ◌++◌, ◌≤◌}
use Rattle.arena_tree.specs.ChainForest.{count_nodes, count_rows}
use Rattle.arena_tree.specs.Steps.{merge_steps, nodes_added, rows_added}
use Rattle.arena_tree.specs.Reading.{forest_at, LeadsToForest}
use Rattle.arena_tree.specs.Targets.{IsTarget, target_forest}
use Rattle.arena_tree.specs.Plans.{next_place}
use Rattle.arena_tree.proofs.merge.+plan_merge.Given as goal

abbrev pub decreases-plan_merge : goal.decreases-plan_merge
decreases-plan_merge l = count_nodes (forest_at l.from.nodes.now.items l.other)

abbrev pub invariant-loop-other : goal.invariant-loop-other
invariant-loop-other l = record {
  target : IsTarget l.nodes.items l.into;
  leads : LeadsToForest l.from.nodes.now.items l.other;
  base : l.plan.base ≡ l.fn.plan.base;
  same : l.plan.steps ++ merge_steps l.into.link (next_place l.plan) (target_forest l.nodes.items l.into) (forest_at l.from.nodes.now.items l.other)
      ≡ l.fn.plan.steps ++ merge_steps l.fn.into.link (next_place l.fn.plan) (target_forest l.nodes.items l.fn.into) (forest_at l.from.nodes.now.items l.fn.other);
  places : nodes_added l.plan.steps + count_rows (forest_at l.from.nodes.now.items l.other) ≤ nodes_added l.fn.plan.steps + count_rows (forest_at l.from.nodes.now.items l.fn.other);
  rows : rows_added l.plan.steps + count_rows (forest_at l.from.nodes.now.items l.other) ≤ rows_added l.fn.plan.steps + count_rows (forest_at l.from.nodes.now.items l.fn.other);
  less : count_nodes (forest_at l.from.nodes.now.items l.other) ≤ count_nodes (forest_at l.from.nodes.now.items l.fn.other);
}

abbrev pub decreases-loop-other : goal.decreases-loop-other
decreases-loop-other l = count_nodes (forest_at l.from.nodes.now.items l.other)
