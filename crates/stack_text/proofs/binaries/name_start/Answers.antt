use Rattle.std.proofs.Common.{◌∙◌, codes, sym, ap, arith}
use Rattle.stack_text.specs.Texts.{begins}
use Rattle.stack_text.proofs.Places.{first_here, first_later, first_nowhere}
use Rattle.stack_text.proofs.binaries.name_start.Goals as goal

pub loop-i-preserved : goal.loop-i-preserved
loop-i-preserved c =
    first_later (begins (codes " - ")) c.args.text.now c.loop-i.i c.loop-i.invariant c.loop-i-test.true
    (ap (begins (codes " - ")) (sym c.split_at.ensures.back) ∙ sym c.name_follows.ensures ∙ c.if-name_follows.false)

pub returns-then-name_follows-clause-value : goal.returns-then-name_follows-clause-value
returns-then-name_follows-clause-value c =
    first_here (begins (codes " - ")) c.args.text.now c.loop-i.i c.loop-i.invariant
    (ap (begins (codes " - ")) (sym c.split_at.ensures.back) ∙ sym c.name_follows.ensures ∙ c.if-name_follows.true)

pub returns-clause-value : goal.returns-clause-value
returns-clause-value c =
    first_nowhere (begins (codes " - ")) c.args.text.now c.loop-i.i c.loop-i.invariant
    (omega (arith, c.loop-i-test.false, c.loop-i.auto.i-end))
