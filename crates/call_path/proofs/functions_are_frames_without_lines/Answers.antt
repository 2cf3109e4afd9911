use Rattle.call_path.proofs.Functions.{function_of, function_stays, function_changes}
use Rattle.call_path.proofs.functions_are_frames_without_lines.Goals as goal

pub returns-clause-line : goal.returns-clause-line
returns-clause-line c = function_of

pub returns-clause-other : goal.returns-clause-other
returns-clause-other c = function_stays

pub returns-clause-changed : goal.returns-clause-changed
returns-clause-changed c = function_changes
