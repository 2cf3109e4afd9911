use Rattle.std.proofs.Common.{◌≡◌, ◌≤◌, ◌-◌, ◌&&◌, ℕ, [], get_or, length, take}
use Rattle.std.specs.FinMap as finmap
use Rattle.rank_set.specs.Ranks.{has, none}
use Rattle.prefix_tree.specs.Tree.{rows_of}
use Rattle.std.specs.List.{list_any}
use Rattle.tree_view.specs.Views.{has_frame}
use Rattle.tree_view.specs.Selections.{place_of}
use Rattle.tree_view.proofs.selection.ranks_in_frame.Given as goal

abbrev pub invariant-loop-row : goal.invariant-loop-row
invariant-loop-row g l = record {
  cursor : g.T.PrefixTree.is_cursor l.tree l.at;
  below_root : 1 ≤ l.at.row;
  place : l.place ≡ place_of l.frame (get_or (rows_of (g.T.PrefixTree.tree l.tree)) (l.at.row - 1) ([], (none, none))).0;
  ranks : (r : ℕ) → has l.ranks r ≡ list_any (λ e. has_frame l.frame e.0 && has e.1.1 r) (take (l.at.row - 1) (finmap.entries (g.T.PrefixTree.tree l.tree).below));
}

abbrev pub decreases-loop-row : goal.decreases-loop-row
decreases-loop-row g l = length (rows_of (g.T.PrefixTree.tree l.tree)) - l.at.row
