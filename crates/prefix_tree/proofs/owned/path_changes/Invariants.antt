use Rattle.std.proofs.Common.{◌≡◌, ◌≤◌, ◌+◌, ◌-◌, ◌++◌, length, map, drop}
use Rattle.prefix_tree.specs.Joined.{path_rows}
use Rattle.prefix_tree.specs.Owned.{entries_view, below_in}
use Rattle.prefix_tree.specs.Changes.{changed, new_among}
use Rattle.prefix_tree.proofs.owned.path_changes.Given as goal

abbrev pub invariant-loop-depth : goal.invariant-loop-depth
invariant-loop-depth l = record {
  rows : entries_view l.changes.rows.items ++ map (changed (below_in l.rows)) (drop (l.depth - 1) (path_rows l.ranks l.path)) ≡ map (changed (below_in l.rows)) (path_rows l.ranks l.path);
  added : l.changes.added + new_among (below_in l.rows) (drop (l.depth - 1) (path_rows l.ranks l.path)) ≡ new_among (below_in l.rows) (path_rows l.ranks l.path);
  within_limit : l.changes.added ≤ length l.changes.rows.items;
}
