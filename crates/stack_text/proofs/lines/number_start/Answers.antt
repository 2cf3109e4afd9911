use Rattle.std.proofs.Common.{◌∙◌, Bool, ℕ, List, sym, ap, arith}
use Rattle.std.specs.Prelude.{is_some}
use Rattle.stack_text.specs.Lines.{line_number}
use Rattle.stack_text.proofs.Places.{first_here, first_later, first_nowhere}
use Rattle.stack_text.proofs.lines.number_start.Goals as goal

abbrev test : List ℕ → Bool
test t = is_some (line_number t)

pub loop-i-preserved : goal.loop-i-preserved
loop-i-preserved c =
    first_later test c.args.text.now c.loop-i.i c.loop-i.invariant c.loop-i-test.true
    (ap test (sym c.split_at.ensures.back) ∙ ap is_some (sym c.line_number.ensures) ∙ sym c.is_some.ensures ∙ c.if-is_some.false)

pub returns-then-is_some-clause-value : goal.returns-then-is_some-clause-value
returns-then-is_some-clause-value c =
    first_here test c.args.text.now c.loop-i.i c.loop-i.invariant
    (ap test (sym c.split_at.ensures.back) ∙ ap is_some (sym c.line_number.ensures) ∙ sym c.is_some.ensures ∙ c.if-is_some.true)

pub returns-clause-value : goal.returns-clause-value
returns-clause-value c =
    first_nowhere test c.args.text.now c.loop-i.i c.loop-i.invariant
    (omega (arith, c.loop-i-test.false, c.loop-i.auto.i-end))
