use Rattle.std.proofs.Common.{◌-◌, length}
use Rattle.prefix_tree.specs.Tree.{rows_of}
use Rattle.structure_tests.proofs.trees.walk_text.Given as goal

abbrev pub invariant-loop-row : goal.invariant-loop-row
invariant-loop-row g l = g.T.PrefixTree.is_cursor l.tree l.at

abbrev pub decreases-loop-row : goal.decreases-loop-row
decreases-loop-row g l = length (rows_of (g.T.PrefixTree.tree l.tree)) - l.at.row
