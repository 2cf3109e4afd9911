use Rattle.std.proofs.Common.{◌∙◌, ℕ, ◌+◌, get_or, refl, sym, ap, arith}
use Rattle.std.specs.Prelude.{bit_and}
use Rattle.std.specs.Int.Bits.{and_zero_r}
use Rattle.rank_set.specs.Words.{word_at}
use Rattle.rank_set.proofs.Changes.{changed_start, changed_step, changed_to, kept, common_word, none_before, none_after}
use Rattle.rank_set.proofs.words.intersect_words.Goals as goal

pub loop-i-init : goal.loop-i-init
loop-i-init c = changed_start c.args.words.now (λ j w. bit_and w (word_at c.args.other_offset c.args.others.now (c.args.offset + j))) 0 (λ j lt. absurd (omega arith))

pub loop-i-preserved : goal.loop-i-preserved
loop-i-preserved c =
    let h = c.common_words-common.ensures in
    let m : ℕ = c.loop-i.i in
    let w : ℕ = get_or c.loop-i.words m 0 in
    changed_step c.args.words.now c.loop-i.words (λ j w. bit_and w (word_at c.args.other_offset c.args.others.now (c.args.offset + j))) m m 0 (m + 1) c.loop-i.invariant refl (omega (arith, c.loop-i-test.true, c.loop-i.invariant.len, h.within))
    (sym (ap (bit_and w) (none_before c.args.offset c.args.words.now c.args.other_offset c.args.others.now c.common_words-common.result.index c.common_words-common.result.other_index c.common_words-common.result.len h m c.loop-i-test.true) ∙ and_zero_r w)) refl

pub loop-i-2-init : goal.loop-i-2-init
loop-i-2-init c = changed_to c.args.words.now c.loop-i.words (λ j w. bit_and w (word_at c.args.other_offset c.args.others.now (c.args.offset + j))) c.loop-i.i (c.common_words-common.result.index + 0) c.loop-i.invariant (omega (arith, c.loop-i-test.false, c.loop-i.auto.i-end))

pub loop-i-2-preserved : goal.loop-i-2-preserved
loop-i-2-preserved c =
    let h = c.common_words-common.ensures in
    let i : ℕ = c.common_words-common.result.index in
    let j : ℕ = c.common_words-common.result.other_index in
    let m : ℕ = c.loop-i-2.i in
    let w : ℕ = get_or c.loop-i-2.words (i + m) 0 in
    changed_step c.args.words.now c.loop-i-2.words (λ j w. bit_and w (word_at c.args.other_offset c.args.others.now (c.args.offset + j))) (i + m) (i + m) _ (i + (m + 1)) c.loop-i-2.invariant refl (omega (arith, c.loop-i-2-test.true, c.loop-i-2.invariant.len, h.within))
    (ap (bit_and w) (sym (common_word c.args.offset c.args.words.now c.args.other_offset c.args.others.now i j c.common_words-common.result.len h m c.loop-i-2-test.true))) (omega arith)

pub loop-i-3-init : goal.loop-i-3-init
loop-i-3-init c = changed_to c.args.words.now c.loop-i-2.words (λ j w. bit_and w (word_at c.args.other_offset c.args.others.now (c.args.offset + j))) (c.common_words-common.result.index + c.loop-i-2.i) (c.common_words-common.result.index + c.common_words-common.result.len) c.loop-i-2.invariant (omega (arith, c.loop-i-2-test.false, c.loop-i-2.auto.i-end))

pub loop-i-3-preserved : goal.loop-i-3-preserved
loop-i-3-preserved c =
    let h = c.common_words-common.ensures in
    let m : ℕ = c.loop-i-3.i in
    let w : ℕ = get_or c.loop-i-3.words m 0 in
    changed_step c.args.words.now c.loop-i-3.words (λ j w. bit_and w (word_at c.args.other_offset c.args.others.now (c.args.offset + j))) m m 0 (m + 1) c.loop-i-3.invariant refl (omega (arith, c.loop-i-3-test.true, c.loop-i-3.invariant.len, c.loop-i-2.invariant.len))
    (sym (ap (bit_and w) (none_after c.args.offset c.args.words.now c.args.other_offset c.args.others.now c.common_words-common.result.index c.common_words-common.result.other_index c.common_words-common.result.len h m c.loop-i-3.auto.i (omega (arith, c.loop-i-3-test.true, c.loop-i-3.invariant.len, c.loop-i-2.invariant.len))) ∙ and_zero_r w)) refl

pub returns : goal.returns
returns c = kept c.args.offset c.args.words.now c.loop-i-3.words c.args.other_offset c.args.others.now c.loop-i-3.i c.loop-i-3.invariant (omega (arith, c.loop-i-3-test.false, c.loop-i-2.invariant.len))
