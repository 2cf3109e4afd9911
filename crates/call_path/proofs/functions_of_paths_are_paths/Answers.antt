use Rattle.call_path.proofs.Functions.{function_good, functions_good, functions_good_path, functions_len, functions_prefix}
use Rattle.call_path.proofs.functions_of_paths_are_paths.Goals as goal

pub returns-clause-frame : goal.returns-clause-frame
returns-clause-frame c = function_good

pub returns-clause-frames : goal.returns-clause-frames
returns-clause-frames c = functions_good

pub returns-clause-path : goal.returns-clause-path
returns-clause-path c = functions_good_path

pub returns-clause-len : goal.returns-clause-len
returns-clause-len c = functions_len

pub returns-clause-prefix : goal.returns-clause-prefix
returns-clause-prefix c = functions_prefix
