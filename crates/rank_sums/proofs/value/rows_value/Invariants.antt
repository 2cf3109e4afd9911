use Rattle.std.proofs.Common.{◌≡◌, ◌≤◌, ◌-◌, ◌*◌, ◌^◌, drop, length}
use Rattle.std.specs.FinMap as finmap
use Rattle.prefix_tree.specs.Tree.{rows_of}
use Rattle.rank_sums.specs.Folds.{IsWithin, joined, total}
use Rattle.rank_sums.specs.PartTrees.{row_total, tree_total}
use Rattle.rank_sums.proofs.value.rows_value.Given as goal

abbrev pub invariant-loop-row : goal.invariant-loop-row
invariant-loop-row g l = record {
  cursor : g.T.PrefixTree.is_cursor l.tree l.at;
  below_root : 1 ≤ l.at.row;
  value : joined l.fold l.value (total l.fold (row_total l.fold) (drop (l.at.row - 1) (finmap.entries (g.T.PrefixTree.tree l.tree).below))) ≡ tree_total l.fold (g.T.PrefixTree.tree l.tree);
  within : IsWithin ((l.at.row - 1) * 2 ^ 84) l.value;
}

abbrev pub decreases-loop-row : goal.decreases-loop-row
decreases-loop-row g l = length (rows_of (g.T.PrefixTree.tree l.tree)) - l.at.row
