use Rattle.std.proofs.Common.{◌≡◌, ◌<◌, ◌-◌, ◌++◌, drop, length}
use Rattle.std.specs.List.{flat_map}
use Rattle.rank_set.specs.Text.{text_of}
use Rattle.prefix_tree.specs.Tree.{rows_of}
use Rattle.tree_text.specs.TreeText.{row_text, rows_text}
use Rattle.tree_text.proofs.rows.write_below.Given as goal

abbrev pub invariant-loop-chain : goal.invariant-loop-chain
invariant-loop-chain g l = record {
  cursor : g.T.PrefixTree.is_cursor l.tree l.at;
  below_root : 0 < l.at.row;
  label : l.label_text.items ≡ text_of l.label;
  lines : l.out.items ++ flat_map row_text (drop l.at.row (rows_of (g.T.PrefixTree.tree l.tree))) ≡ l.fn.out.items ++ rows_text (g.T.PrefixTree.tree l.tree);
}

abbrev pub decreases-loop-chain : goal.decreases-loop-chain
decreases-loop-chain g l = length (rows_of (g.T.PrefixTree.tree l.tree)) - l.at.row
