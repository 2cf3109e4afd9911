use Rattle.equiv_class.proofs.SamePairs.{classes_of_tree}
use Rattle.front_end.proofs.laws.classes_of_a_tree.Goals as goal

pub returns : goal.returns
returns c = classes_of_tree
