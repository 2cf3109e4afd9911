use Rattle.std.proofs.Common.{◌≡◌, ◌≤◌, ◌-◌, ◌++◌, true, drop, length}
use Rattle.std.specs.List.{flat_map, All}
use Rattle.std.specs.Str.{is_utf8}
use Rattle.prefix_tree.specs.Tree.{rows_of, frame_of}
use Rattle.packet_frame.specs.Sending.{HasText}
use Rattle.packet_frame.specs.Writing.{entry_bytes, rows_bytes}
use Rattle.packet_frame.proofs.encoding.put_rows.Given as goal

abbrev pub invariant-loop-chain : goal.invariant-loop-chain
invariant-loop-chain g l = record {
  cursor : g.T.PrefixTree.is_cursor l.tree l.at;
  below_root : 1 ≤ l.at.row;
  bytes : l.out.items ++ flat_map (entry_bytes l.places) (drop l.at.row (rows_of (g.T.PrefixTree.tree l.tree))) ≡ l.fn.out.items ++ rows_bytes (g.T.PrefixTree.tree l.tree);
  text : All (λ e. is_utf8 (frame_of e.0) ≡ true) (drop l.at.row (rows_of (g.T.PrefixTree.tree l.tree))) → HasText (g.T.PrefixTree.tree l.tree);
}

abbrev pub decreases-loop-chain : goal.decreases-loop-chain
decreases-loop-chain g l = length (rows_of (g.T.PrefixTree.tree l.tree)) - l.at.row
