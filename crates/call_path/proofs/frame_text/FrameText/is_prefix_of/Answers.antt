use Rattle.std.proofs.Common.{◌∙◌, sym, arith}
use Rattle.std.proofs.lemmas.Bool.{not-true, not-false}
use Rattle.std.specs.Cmp.Lexicographic.{texts_ties}
use Rattle.call_path.proofs.Orders.{prefix_other, prefix_same, prefix_long}
use Rattle.call_path.proofs.frame_text.FrameText.is_prefix_of.Goals as goal

pub returns-then-len : goal.returns-then-len
returns-then-len c = sym (prefix_long c.args.self.now c.args.other.now (omega arith))

pub returns-then-ne : goal.returns-then-ne
returns-then-ne c =
    sym (prefix_other c.args.self.now c.args.other.now c.loop-i.i c.frame.result.now c.frame-in-loop-i.result.now c.frame.ensures.frame c.frame-in-loop-i.ensures.frame
    (sym (texts_ties c.frame.result.now c.frame-in-loop-i.result.now) ∙ not-true _ (sym c.ne.ensures ∙ c.if-ne.true)))
    ∙ c.loop-i.invariant

pub loop-i-preserved : goal.loop-i-preserved
loop-i-preserved c =
    sym (prefix_same c.args.self.now c.args.other.now c.loop-i.i c.frame.result.now c.frame-in-loop-i.result.now c.frame.ensures.frame c.frame-in-loop-i.ensures.frame
    (sym (texts_ties c.frame.result.now c.frame-in-loop-i.result.now) ∙ not-false _ (sym c.ne.ensures ∙ c.if-ne.false)))
    ∙ c.loop-i.invariant
