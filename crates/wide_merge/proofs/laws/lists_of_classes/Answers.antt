use Rattle.wide_merge.proofs.ClassLists.{are_classes, classes_are}
use Rattle.wide_merge.proofs.laws.lists_of_classes.Goals as goal

pub returns-clause-are : goal.returns-clause-are
returns-clause-are c = classes_are

pub returns-clause-only : goal.returns-clause-only
returns-clause-only c = are_classes
