use Rattle.std.proofs.Common.{◌≡◌, ◌∙◌, sym, ap, arith}
use Rattle.std.specs.Prelude.{Some}
use Rattle.std.proofs.lemmas.Bool.{not-true, not-false}
use Rattle.std.specs.Cmp.Lexicographic.{texts_ties, same_text}
use Rattle.arena_tree.proofs.SharedFrames.{one_more, parts, finish}
use Rattle.arena_tree.proofs.shared.common.Goals as goal

pub returns-then-ne-clause-split : goal.returns-then-ne-clause-split
returns-then-ne-clause-split c =
    let f = c.frame-in-loop-n.result.now in
    let g = c.frame.result.now in
    parts c.args.own.now c.args.other.now c.args.i c.args.j c.loop-n.n c.loop-n.invariant.known f g c.frame-in-loop-n.ensures.frame c.frame.ensures.frame
    (sym (texts_ties g f) ∙ not-true _ (sym c.ne.ensures ∙ c.if-ne.true))

pub loop-n-smaller : goal.loop-n-smaller
loop-n-smaller c = omega (arith, c.loop-n-test.true)

pub loop-n-preserved : goal.loop-n-preserved
loop-n-preserved c =
    let f = c.frame-in-loop-n.result.now in
    let g = c.frame.result.now in
    let same : g ≡ f = same_text g f (sym (not-false _ (sym c.ne.ensures ∙ c.if-ne.false))) in
    record {
      within = omega (arith, c.loop-n-test.true);
      known = one_more c.args.own.now c.args.other.now c.args.i c.args.j c.loop-n.n c.loop-n.invariant.known f c.frame-in-loop-n.ensures.frame (c.frame.ensures.frame ∙ ap (λ h. Some h) same);
    }

pub returns-clause-split : goal.returns-clause-split
returns-clause-split c =
    finish c.args.own.now c.args.other.now c.args.i c.args.j c.loop-n.n c.loop-n.invariant.known
    (omega (arith, c.loop-n.invariant.within, c.requires.own, c.len.ensures.len, c.len-2.ensures.len, c.min-most.ensures))
    (omega (arith, c.loop-n.invariant.within, c.requires.other, c.len.ensures.len, c.len-2.ensures.len, c.min-most.ensures))
    (λ a b. omega (arith, a, b, c.loop-n-test.false, c.len.ensures.len, c.len-2.ensures.len, c.min-most.ensures))
