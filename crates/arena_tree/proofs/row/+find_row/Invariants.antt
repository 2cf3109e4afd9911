use Rattle.std.proofs.Common.{◌≡◌, ◌+◌, ◌≤◌}
use Rattle.std.specs.Prelude.{slice_get}
use Rattle.arena_tree.specs.ChainForest.{count_nodes, count_rows, rows_of_chains}
use Rattle.arena_tree.specs.Reading.{forest_at, LeadsToForest}
use Rattle.arena_tree.specs.ReadingOrder.{shows}
use Rattle.arena_tree.proofs.row.+find_row.Given as goal

abbrev pub decreases-find_row : goal.decreases-find_row
decreases-find_row l = count_nodes (forest_at l.nodes.now.items l.at)

abbrev pub invariant-loop-at : goal.invariant-loop-at
invariant-loop-at l = record {
  leads : LeadsToForest l.nodes.items l.at;
  same : slice_get (shows l.depth (rows_of_chains (forest_at l.nodes.items l.fn.at))) l.fn.i ≡ slice_get (shows l.depth (rows_of_chains (forest_at l.nodes.items l.at))) l.i;
  left : l.i + count_rows (forest_at l.nodes.items l.fn.at) ≡ l.fn.i + count_rows (forest_at l.nodes.items l.at);
  less : count_nodes (forest_at l.nodes.items l.at) ≤ count_nodes (forest_at l.nodes.items l.fn.at);
  depth : l.depth + count_rows (forest_at l.nodes.items l.at) ≤ 8192;
}

abbrev pub decreases-loop-at : goal.decreases-loop-at
decreases-loop-at l = count_nodes (forest_at l.nodes.items l.at)
