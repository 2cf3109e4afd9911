use Rattle.std.proofs.Common.{◌≡◌, take}
use Rattle.prefix_tree.specs.Owned.{entries_view}
use Rattle.prefix_tree.proofs.owned.copy_rows.Given as goal

abbrev pub invariant-loop-row : goal.invariant-loop-row
invariant-loop-row l = entries_view l.all.items ≡ entries_view (take l.row-index l.rows)
