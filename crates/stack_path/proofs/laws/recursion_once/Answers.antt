use Rattle.stack_path.proofs.Settled.{cycles_free}
use Rattle.stack_path.proofs.LoopsSettled.{loops_once, once_again}
use Rattle.stack_path.proofs.laws.recursion_once.Goals as goal

pub returns-clause-again : goal.returns-clause-again
returns-clause-again c = once_again

pub returns-clause-cycles : goal.returns-clause-cycles
returns-clause-cycles c = cycles_free

pub returns-clause-loops : goal.returns-clause-loops
returns-clause-loops c = loops_once
