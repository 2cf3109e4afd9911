use Rattle.std.proofs.Common.{◌≡◌, ◌≤◌, ◌-◌, [], get_or, length, take}
use Rattle.std.specs.FinMap as finmap
use Rattle.rank_set.specs.Ranks.{none}
use Rattle.prefix_tree.specs.Tree.{rows_of, tree_of}
use Rattle.tree_view.specs.Selections.{edited, ends_in, place_in}
use Rattle.tree_view.proofs.selection.selected.Given as goal

abbrev pub invariant-loop-row : goal.invariant-loop-row
invariant-loop-row g l = record {
  cursor : g.T.PrefixTree.is_cursor l.tree l.at;
  below_root : 1 ≤ l.at.row;
  frames : l.frames ≡ (get_or (rows_of (g.T.PrefixTree.tree l.tree)) (l.at.row - 1) ([], (none, none))).0;
  place : l.place ≡ place_in l.selection l.frames;
  kept : g.T.PrefixTree.tree l.kept ≡ tree_of (edited (ends_in l.selection) (take (l.at.row - 1) (finmap.entries (g.T.PrefixTree.tree l.tree).below))) l.covered;
}

abbrev pub decreases-loop-row : goal.decreases-loop-row
decreases-loop-row g l = length (rows_of (g.T.PrefixTree.tree l.tree)) - l.at.row
