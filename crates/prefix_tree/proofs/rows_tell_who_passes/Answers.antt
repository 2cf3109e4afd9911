use Rattle.prefix_tree.proofs.TreeLemmas.{IsTreeOf-tree_of}
use Rattle.prefix_tree.proofs.TreeLaws.{pair_of_tree}
use Rattle.prefix_tree.proofs.rows_tell_who_passes.Goals as goal

pub returns : goal.returns
returns c = record { rows = λ P C. IsTreeOf-tree_of P C; pairs = λ P C r p. pair_of_tree P C p r }
