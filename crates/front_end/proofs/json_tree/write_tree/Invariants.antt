use Rattle.std.proofs.Common.{◌≡◌, ◌-◌, ◌++◌, drop, length, map}
use Rattle.std.specs.Prelude.{string_bytes}
use Rattle.rank_set.specs.Text.{text_of}
use Rattle.prefix_tree.specs.Tree.{rows_of}
use Rattle.front_end.specs.JsonValues.{row_data, tree_data}
use Rattle.json_text.specs.Tokens.{rest_tokens, value_tokens}
use Rattle.front_end.proofs.json_tree.write_tree.Given as goal

abbrev pub invariant-loop-row : goal.invariant-loop-row
invariant-loop-row g l = record {
  cursor : g.T.PrefixTree.is_cursor l.tree l.at;
  label : string_bytes l.label_text ≡ text_of l.label;
  rows : l.out ++ rest_tokens (map row_data (drop l.at.row (rows_of (g.T.PrefixTree.tree l.tree)))) ≡ l.fn.out ++ value_tokens (tree_data (g.T.PrefixTree.tree l.tree));
}

abbrev pub decreases-loop-row : goal.decreases-loop-row
decreases-loop-row g l = length (rows_of (g.T.PrefixTree.tree l.tree)) - l.at.row
