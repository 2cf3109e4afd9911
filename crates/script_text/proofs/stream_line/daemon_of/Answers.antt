use Rattle.std.proofs.Common.{refl}
use Rattle.script_text.proofs.stream_line.daemon_of.Goals as goal

pub returns-in-Some-clause-node : goal.returns-in-Some-clause-node
returns-in-Some-clause-node c = ((c.in-Some.ensures.exact c.in-Some.n).0 refl).0
