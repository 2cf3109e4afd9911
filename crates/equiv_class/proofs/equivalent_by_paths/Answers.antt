use Rattle.equiv_class.proofs.Equivalent.{equivalent-from_paths, paths-from_equivalent}
use Rattle.equiv_class.proofs.equivalent_by_paths.Goals as goal

pub returns-clause-same : goal.returns-clause-same
returns-clause-same c = equivalent-from_paths

pub returns-clause-equivalent : goal.returns-clause-equivalent
returns-clause-equivalent c = paths-from_equivalent
