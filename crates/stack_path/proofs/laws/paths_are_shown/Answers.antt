use Rattle.stack_path.proofs.ShownPaths.{kept_some, first_kept}
use Rattle.stack_path.proofs.laws.paths_are_shown.Goals as goal

pub returns-clause-kept : goal.returns-clause-kept
returns-clause-kept c = kept_some

pub returns-clause-first : goal.returns-clause-first
returns-clause-first c = first_kept
