use Rattle.std.proofs.Common.{◌≡◌, ◌+◌, ◌∙◌, sym, ap, take, drop, length, min, arith}
use Rattle.std.specs.Cmp.Lexicographic.{same_text, texts_ties}
use Rattle.std.proofs.lemmas.Bool.{not-true, not-false}
use Rattle.std.proofs.lemmas.List.{length-take-le, length-drop, drop-take}
use Rattle.call_path.proofs.Shared.{shared_end, shared_all, shared_other, shared_same}
use Rattle.call_path.proofs.ReadBack.{same_frames}
use Rattle.call_path.proofs.frame_text.FrameText.common.Goals as goal

pub returns-then-most-eq0 : goal.returns-then-most-eq0
returns-then-most-eq0 c =
    let p = c.args.self.now in
    let q = drop c.args.from c.args.other.now in
    let end = shared_end p q 0 (omega (arith, c.min-most.ensures, c.len.ensures.len, c.len-2.ensures.len, length-drop c.args.from c.args.other.now, c.if-most-eq0.true)) in
    sym end

pub returns-then-eq : goal.returns-then-eq
returns-then-eq c =
    let p = c.args.self.now in
    let q = drop c.args.from c.args.other.now in
    let most = c.min-most.result in
    let least : most ≡ min (length p) (length q) = omega (arith, c.min-most.ensures, c.len.ensures.len, c.len-2.ensures.len, length-drop c.args.from c.args.other.now) in
    let part = drop-take c.args.from most c.args.other.now in
    let long : length (take most p) ≡ length (drop c.args.from (take (c.args.from + most) c.args.other.now)) =
    length-take-le most p (omega (arith, least)) ∙ sym (ap length part ∙ length-take-le most q (omega (arith, least))) in
    let texts = same_text c.prefix_text.result.now c.part_text.result.now (sym (sym c.eq.ensures ∙ c.if-eq.true)) in
    let same = same_frames (take most p) (drop c.args.from (take (c.args.from + most) c.args.other.now)) c.prefix_text.ensures.good c.part_text.ensures.good long (sym c.prefix_text.ensures.text ∙ texts ∙ c.part_text.ensures.text) in
    sym (shared_all p q most least (same ∙ part))

pub returns-then-ne : goal.returns-then-ne
returns-then-ne c =
    let none = shared_other c.args.self.now c.args.other.now c.args.from c.loop-i.i c.frame.result.now c.frame-in-loop-i.result.now c.frame.ensures.frame c.frame-in-loop-i.ensures.frame
    (sym (texts_ties c.frame.result.now c.frame-in-loop-i.result.now) ∙ not-true _ (sym c.ne.ensures ∙ c.if-ne.true)) in
    omega (arith, none, c.loop-i.invariant)

pub loop-i-preserved : goal.loop-i-preserved
loop-i-preserved c =
    let more = shared_same c.args.self.now c.args.other.now c.args.from c.loop-i.i c.frame.result.now c.frame-in-loop-i.result.now c.frame.ensures.frame c.frame-in-loop-i.ensures.frame
    (sym (texts_ties c.frame.result.now c.frame-in-loop-i.result.now) ∙ not-false _ (sym c.ne.ensures ∙ c.if-ne.false)) in
    omega (arith, more, c.loop-i.invariant)

pub returns : goal.returns
returns c =
    let p = c.args.self.now in
    let q = drop c.args.from c.args.other.now in
    let at : c.loop-i.i ≡ c.min-most.result = omega (arith, c.loop-i.auto.i-end, c.loop-i-test.false) in
    let end = shared_end p q c.loop-i.i (omega (arith, at, c.min-most.ensures, c.len.ensures.len, c.len-2.ensures.len, length-drop c.args.from c.args.other.now)) in
    omega (arith, at, end, c.loop-i.invariant)
