use Rattle.stack_path.proofs.BareFrames.{kept_bare, first_bare, other_bare}
use Rattle.stack_path.proofs.laws.lines_change_no_frames.Goals as goal

pub returns-clause-kept : goal.returns-clause-kept
returns-clause-kept c = kept_bare

pub returns-clause-first : goal.returns-clause-first
returns-clause-first c = first_bare

pub returns-clause-other : goal.returns-clause-other
returns-clause-other c = other_bare
