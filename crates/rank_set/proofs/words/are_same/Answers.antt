use Rattle.std.proofs.Common.{arith}
use Rattle.rank_set.specs.Words.{ranks_in}
use Rattle.rank_set.proofs.WordSets.{word_at-small, words_from_set, trimmed_same}
use Rattle.std.proofs.lemmas.Bool.{eqb-true}
use Rattle.rank_set.proofs.words.are_same.Goals as goal

pub returns-then-offset-other_offset : goal.returns-then-offset-other_offset
returns-then-offset-other_offset c = (
  λ yes. (λ i. ranks_in (c.if-offset-other_offset.true i) (c.are_equal.ensures.0 yes i)),
  λ same. c.are_equal.ensures.1 ((trimmed_same c.args.offset c.args.words.now c.args.other_offset c.args.others.now c.requires.trimmed c.requires.trimmed_others (words_from_set c.args.offset c.args.words.now c.args.other_offset c.args.others.now (word_at-small c.args.offset c.args.words.now (λ i. omega (arith, c.type_inv.words i))) (word_at-small c.args.other_offset c.args.others.now (λ i. omega (arith, c.type_inv.others i))) same)).1),
)

pub returns-else-offset-other_offset : goal.returns-else-offset-other_offset
returns-else-offset-other_offset c = (
  λ yes. absurd (c.if-offset-other_offset.false (eqb-true _ _ yes)),
  λ same. absurd (c.if-offset-other_offset.false ((trimmed_same c.args.offset c.args.words.now c.args.other_offset c.args.others.now c.requires.trimmed c.requires.trimmed_others (words_from_set c.args.offset c.args.words.now c.args.other_offset c.args.others.now (word_at-small c.args.offset c.args.words.now (λ i. omega (arith, c.type_inv.words i))) (word_at-small c.args.other_offset c.args.others.now (λ i. omega (arith, c.type_inv.others i))) same)).0)),
)
