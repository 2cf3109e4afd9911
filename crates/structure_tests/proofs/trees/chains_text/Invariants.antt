use Rattle.std.proofs.Common.{◌-◌, ◌<◌, length}
use Rattle.prefix_tree.specs.Tree.{rows_of}
use Rattle.structure_tests.proofs.trees.chains_text.Given as goal

abbrev pub invariant-loop-chain : goal.invariant-loop-chain
invariant-loop-chain g l = record {
  cursor : g.T.PrefixTree.is_cursor l.tree l.at;
  below_root : 0 < l.at.row;
}

abbrev pub decreases-loop-chain : goal.decreases-loop-chain
decreases-loop-chain g l = length (rows_of (g.T.PrefixTree.tree l.tree)) - l.at.row
