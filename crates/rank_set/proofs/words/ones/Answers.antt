use Rattle.std.proofs.Common.{◌+◌, get_or, sym, ap, ◌∙◌, arith}
use Rattle.std.specs.Prelude.{count_ones}
use Rattle.std.specs.List.{sum_by}
use Rattle.rank_set.proofs.Changes.{few_more}
use Rattle.rank_set.proofs.Members.{size-ranks_in}
use Rattle.std.proofs.lemmas.List.Sums.{sum_by_more}
use Rattle.std.proofs.lemmas.List.{take_all}
use Rattle.rank_set.proofs.words.ones.Goals as goal

pub loop-word-preserved : goal.loop-word-preserved
loop-word-preserved c = record {
  ones = (λ i. c.loop-word.invariant.ones i + count_ones (get_or c.args.words.now c.loop-word.word-index 0)) ∙ sym (sum_by_more count_ones c.args.words.now c.loop-word.word-index 0 c.loop-word-test.true);
  within_limit = few_more c.loop-word.total c.loop-word.word-index (get_or c.args.words.now c.loop-word.word-index 0) c.loop-word.invariant.within_limit (omega (arith, c.type_inv.words c.loop-word.word-index));
}

pub returns-clause-ones : goal.returns-clause-ones
returns-clause-ones c = λ o. c.loop-word.invariant.ones ∙ ap (sum_by count_ones) (take_all c.loop-word.word-index _ c.loop-word-test.false) ∙ sym (size-ranks_in o c.args.words.now (λ k. omega (arith, c.type_inv.words k)))
