use Rattle.std.proofs.Common.{◌≡◌, ◌≤◌, length}
use Rattle.std.specs.Vec.{vec_capacity}
use Rattle.prefix_tree.specs.Owned.{HasIncreasingPaths, entries_view}
use Rattle.prefix_tree.specs.Changes.{inserted}
use Rattle.prefix_tree.proofs.owned.insert_rows.Given as goal

abbrev pub invariant-loop-row : goal.invariant-loop-row
invariant-loop-row l = record {
  in_order : HasIncreasingPaths l.rows.items;
  room : length (inserted (entries_view l.rows.items) (entries_view l.row-iterator.rest.items)) ≤ vec_capacity l.rows;
  put : inserted (entries_view l.rows.items) (entries_view l.row-iterator.rest.items) ≡ inserted (entries_view l.fn.rows.items) (entries_view l.fn.changes.items);
}
