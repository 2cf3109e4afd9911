use Rattle.std.proofs.Common.{◌≡◌, ◌≤◌, ◌-◌, ◌++◌, [], get_or, length, drop, map}
use Rattle.std.specs.List.{filter}
use Rattle.std.specs.FinMap as finmap
use Rattle.rank_set.specs.Ranks.{none}
use Rattle.prefix_tree.specs.Tree.{rows_of}
use Rattle.equiv_class.specs.SeenPaths.{ends_at, entries_view, has_ends, seen_in}
use Rattle.equiv_class.proofs.seen_paths.Given as goal

abbrev pub invariant-loop-row : goal.invariant-loop-row
invariant-loop-row g l = record {
  cursor : g.T.PrefixTree.is_cursor l.tree l.at;
  below_root : 1 ≤ l.at.row;
  frames : l.frames ≡ (get_or (rows_of (g.T.PrefixTree.tree l.tree)) (l.at.row - 1) ([], (none, none))).0;
  seen : entries_view l.seen.items ++ map ends_at (filter has_ends (drop (l.at.row - 1) (finmap.entries (g.T.PrefixTree.tree l.tree).below))) ≡ seen_in (g.T.PrefixTree.tree l.tree);
}

abbrev pub decreases-loop-row : goal.decreases-loop-row
decreases-loop-row g l = length (rows_of (g.T.PrefixTree.tree l.tree)) - l.at.row
