use Rattle.std.proofs.Common.{◌≡◌, ℕ, ◌+◌, inl, inr, sym, subst, ◌∙◌, arith}
use Rattle.std.specs.Prelude.{bit_and}
use Rattle.std.proofs.lemmas.Bool.{cases_lt}
use Rattle.rank_set.specs.Words.{word_at}
use Rattle.rank_set.proofs.WordSets.{word_at-small}
use Rattle.rank_set.proofs.CommonWords.{none_common, one_common, none_overlap, overlap_word}
use Rattle.rank_set.proofs.words.are_disjoint.Goals as goal

pub returns-then-words-common-ne0 : goal.returns-then-words-common-ne0
returns-then-words-common-ne0 c =
    let i : ℕ = c.common_words-common.result.index in
    let m : ℕ = c.loop-i.i in
    sym (one_common c.args.offset c.args.words.now c.args.other_offset c.args.others.now (c.args.offset + (i + m))
    (λ e. c.if-words-common-ne0.true (sym (overlap_word c.args.offset c.args.words.now c.args.other_offset c.args.others.now i c.common_words-common.result.other_index c.common_words-common.result.len m c.common_words-common.ensures c.loop-i-test.true) ∙ e))
    (word_at-small c.args.offset c.args.words.now (λ j. omega (arith, c.type_inv.words j)) (c.args.offset + (i + m))))

pub loop-i-preserved : goal.loop-i-preserved
loop-i-preserved c = λ q lt. elim (cases_lt q c.loop-i.i) [
  | inl before ↦ c.loop-i.invariant q before
  | inr here ↦
      let i : ℕ = c.common_words-common.result.index in
      let e : c.loop-i.i ≡ q = omega arith in
      subst (λ k. bit_and (word_at c.args.offset c.args.words.now (c.args.offset + (i + k))) (word_at c.args.other_offset c.args.others.now (c.args.offset + (i + k))) ≡ 0) e
      (overlap_word c.args.offset c.args.words.now c.args.other_offset c.args.others.now i c.common_words-common.result.other_index c.common_words-common.result.len c.loop-i.i c.common_words-common.ensures c.loop-i-test.true ∙ c.if-words-common-ne0.false)
]

pub returns : goal.returns
returns c =
    sym (none_common c.args.offset c.args.words.now c.args.other_offset c.args.others.now
    (none_overlap c.args.offset c.args.words.now c.args.other_offset c.args.others.now c.common_words-common.result.index c.common_words-common.result.other_index c.common_words-common.result.len c.loop-i.i c.common_words-common.ensures c.loop-i-test.false c.loop-i.invariant))
