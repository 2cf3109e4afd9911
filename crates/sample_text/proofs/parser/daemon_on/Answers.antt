use Rattle.std.proofs.Common.{refl}
use Rattle.sample_text.proofs.parser.daemon_on.Goals as goal

pub returns-in-Some-clause-node : goal.returns-in-Some-clause-node
returns-in-Some-clause-node c = ((c.in-Some.ensures.exact c.in-Some.n).0 refl).0
