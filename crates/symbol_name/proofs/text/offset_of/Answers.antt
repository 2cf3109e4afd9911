use Rattle.std.proofs.Common.{◌∙◌, sym, ap, arith}
use Rattle.symbol_name.specs.Texts.{begins_with}
use Rattle.symbol_name.proofs.Offsets.{offset_here, offset_later, offset_end}
use Rattle.symbol_name.proofs.text.offset_of.Goals as goal

pub loop-i-preserved : goal.loop-i-preserved
loop-i-preserved c =
    offset_later c.args.part.now c.args.text.now c.loop-i.i c.loop-i-test.true c.loop-i.invariant
    (ap (begins_with c.args.part.now) (sym c.split_at.ensures.back) ∙ sym c.begins_with.ensures ∙ c.if-begins_with.false)

pub returns-then-begins_with-clause-value : goal.returns-then-begins_with-clause-value
returns-then-begins_with-clause-value c =
    sym (offset_here c.args.part.now c.args.text.now c.loop-i.i c.loop-i.invariant
    (ap (begins_with c.args.part.now) (sym c.split_at.ensures.back) ∙ sym c.begins_with.ensures ∙ c.if-begins_with.true))

pub returns-clause-value : goal.returns-clause-value
returns-clause-value c =
    offset_end c.args.part.now c.args.text.now c.loop-i.i
    (omega (arith, c.loop-i-test.false, c.loop-i.auto.i-end)) c.loop-i.invariant
