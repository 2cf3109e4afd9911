use Rattle.std.proofs.Common.{◌≡◌, ◌≤◌, length, map, take}
use Rattle.prefix_tree.specs.Owned.{entries_view, below_in}
use Rattle.prefix_tree.specs.Changes.{changed, new_among}
use Rattle.prefix_tree.proofs.owned.row_changes.Given as goal

abbrev pub invariant-loop-row : goal.invariant-loop-row
invariant-loop-row l = record {
  rows : entries_view l.changes.rows.items ≡ map (changed (below_in l.rows)) (entries_view (take l.row-index l.others));
  added : l.changes.added ≡ new_among (below_in l.rows) (entries_view (take l.row-index l.others));
  within_limit : l.changes.added ≤ length l.changes.rows.items;
}
