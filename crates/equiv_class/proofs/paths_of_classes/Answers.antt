use Rattle.equiv_class.proofs.Partition.{classes_have_own_paths}
use Rattle.equiv_class.proofs.PathsInOrder.{any-paths_of, paths_of-sorted}
use Rattle.equiv_class.proofs.paths_of_classes.Goals as goal

pub returns-clause-own : goal.returns-clause-own
returns-clause-own c = classes_have_own_paths

pub returns-clause-members : goal.returns-clause-members
returns-clause-members c = any-paths_of

pub returns-clause-order : goal.returns-clause-order
returns-clause-order c = paths_of-sorted
