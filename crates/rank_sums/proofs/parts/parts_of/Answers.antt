use Rattle.std.proofs.Common.{arith}
use Rattle.rank_sums.proofs.PartMaking.{parts_fit}
use Rattle.rank_sums.proofs.parts.parts_of.Goals as goal

pub returns-clause-fit : goal.returns-clause-fit
returns-clause-fit c =
    parts_fit c.args.plan.now c.args.values.now c.args.fold c.invariant.ensures (λ d z lt e. c.loop-n.invariant.fit d z (omega (arith, lt, c.loop-n-test.false, c.nodes-n-end.ensures)) e)
