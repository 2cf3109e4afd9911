use Rattle.prefix_tree.specs.Owned.{entries_view}
use Rattle.prefix_tree.proofs.Places.{IsSearchedTo}
use Rattle.std.proofs.Common.{◌-◌}
use Rattle.prefix_tree.proofs.owned.find_row.Given as goal

abbrev pub invariant-loop-low : goal.invariant-loop-low
invariant-loop-low l = IsSearchedTo l.path (entries_view l.rows) l.low l.high

abbrev pub decreases-loop-low : goal.decreases-loop-low
decreases-loop-low l = l.high - l.low
