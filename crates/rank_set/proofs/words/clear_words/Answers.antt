use Rattle.std.proofs.Common.{◌∙◌, ℕ, ◌+◌, cond, nat_lt, get_or, refl, sym, ap, arith, w64}
use Rattle.std.specs.Prelude.{bit_and}
use Rattle.std.specs.Int.{bit_not}
use Rattle.std.proofs.lemmas.Bool.{lt-ltb, le-ltb}
use Rattle.rank_set.specs.Words.{word_at}
use Rattle.rank_set.proofs.WordSets.{word_at-small}
use Rattle.rank_set.proofs.Changes.{changed_start, changed_step, cleared, common_word}
use Rattle.rank_set.proofs.words.clear_words.Goals as goal

pub loop-i-init : goal.loop-i-init
loop-i-init c =
    let i : ℕ = c.common_words-common.result.index in
    let v : ℕ → ℕ = λ j. word_at c.args.other_offset c.args.others.now (c.args.offset + j) in
    changed_start c.args.words.now (λ j w. cond (nat_lt j i) w (bit_and w (bit_not w64 (v j)))) (i + 0) (λ j lt. ap (λ t. cond t (get_or c.args.words.now j 0) (bit_and (get_or c.args.words.now j 0) (bit_not w64 (v j)))) (lt-ltb j i (omega arith)))

pub loop-i-preserved : goal.loop-i-preserved
loop-i-preserved c =
    let i : ℕ = c.common_words-common.result.index in
    let j : ℕ = c.common_words-common.result.other_index in
    let m : ℕ = c.loop-i.i in
    let h = c.common_words-common.ensures in
    let v : ℕ → ℕ = λ q. word_at c.args.other_offset c.args.others.now (c.args.offset + q) in
    let w : ℕ = get_or c.loop-i.words (i + m) 0 in
    changed_step c.args.words.now c.loop-i.words (λ q x. cond (nat_lt q i) x (bit_and x (bit_not w64 (v q)))) (i + m) (i + m) _ (i + (m + 1)) c.loop-i.invariant refl (omega (arith, c.loop-i-test.true, c.loop-i.invariant.len, h.within))
    (ap (λ x. bit_and w (bit_not w64 x)) (sym (common_word c.args.offset c.args.words.now c.args.other_offset c.args.others.now i j c.common_words-common.result.len h m c.loop-i-test.true))
    ∙ sym (ap (λ t. cond t w (bit_and w (bit_not w64 (v (i + m))))) (le-ltb (i + m) i (omega arith)))) (omega arith)

pub returns : goal.returns
returns c =
    cleared c.args.offset c.args.words.now c.loop-i.words c.args.other_offset c.args.others.now c.common_words-common.result.index c.common_words-common.result.other_index c.common_words-common.result.len (c.common_words-common.result.index + c.loop-i.i)
    c.common_words-common.ensures (word_at-small c.args.other_offset c.args.others.now (λ i. omega (arith, c.type_inv.others i))) c.loop-i.invariant (omega (arith, c.loop-i-test.false))
