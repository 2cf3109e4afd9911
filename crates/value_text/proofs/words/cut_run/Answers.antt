use Rattle.std.proofs.Common.{arith}
use Rattle.value_text.proofs.UsualLines.{one_front, two_front}
use Rattle.value_text.proofs.words.cut_run.Goals as goal

pub returns-in-Some-clause-run : goal.returns-in-Some-clause-run
returns-in-Some-clause-run c = one_front c.args.text.now c.in-Some.rest.now c.in-Some.rank c.in-Some.ensures.number c.in-Some.ensures.below_limit

pub returns-clause-run : goal.returns-clause-run
returns-clause-run c =
    two_front c.args.text.now c.in_ok-first.rest.now c.in_ok-last.rest.now c.in_ok-first.first c.in_ok-last.last c.in_ok-first.ensures.number c.in_ok-last.ensures.number (omega (arith, c.if-last-first.false)) c.in_ok-last.ensures.below_limit
