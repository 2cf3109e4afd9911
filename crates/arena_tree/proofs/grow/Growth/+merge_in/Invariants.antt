use Rattle.std.proofs.Common.{◌≡◌, ◌+◌, ◌≤◌, length}
use Rattle.arena_tree.specs.Links.{linked}
use Rattle.arena_tree.specs.ChainForest.{count_rows}
use Rattle.arena_tree.specs.Targets.{IsTarget, target_forest}
use Rattle.arena_tree.specs.Growth.{CanGrow, grown, rows_grown}
use Rattle.arena_tree.proofs.grow.Growth.+merge_in.Given as goal

abbrev pub decreases-merge_in : goal.decreases-merge_in
decreases-merge_in l = count_rows (target_forest l.from.nodes.now.items l.other)

abbrev pub invariant-loop-other : goal.invariant-loop-other
invariant-loop-other l = record {
  into : CanGrow l.self.nodes.items l.into;
  other : IsTarget l.from.nodes.now.items l.other;
  same : grown (linked l.self.first l.self.nodes.items) l.into (target_forest l.from.nodes.now.items l.other)
      ≡ grown (linked l.fn.self.first l.fn.self.nodes.items) l.fn.into (target_forest l.from.nodes.now.items l.fn.other);
  rows : l.self.rows + rows_grown (linked l.self.first l.self.nodes.items) l.into (target_forest l.from.nodes.now.items l.other)
      ≡ l.fn.self.rows + rows_grown (linked l.fn.self.first l.fn.self.nodes.items) l.fn.into (target_forest l.from.nodes.now.items l.fn.other);
  few_nodes : length l.self.nodes.items + count_rows (target_forest l.from.nodes.now.items l.other) ≤ length l.fn.self.nodes.items + count_rows (target_forest l.from.nodes.now.items l.fn.other);
  few_rows : l.self.rows + count_rows (target_forest l.from.nodes.now.items l.other) ≤ l.fn.self.rows + count_rows (target_forest l.from.nodes.now.items l.fn.other);
  less : count_rows (target_forest l.from.nodes.now.items l.other) ≤ count_rows (target_forest l.from.nodes.now.items l.fn.other);
}

abbrev pub decreases-loop-other : goal.decreases-loop-other
decreases-loop-other l = count_rows (target_forest l.from.nodes.now.items l.other)
