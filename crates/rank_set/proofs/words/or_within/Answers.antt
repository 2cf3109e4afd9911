use Rattle.std.proofs.Common.{◌≡◌, ℕ, ◌<◌, inl, inr, eqb, false, sym, ap, ◌∙◌, arith}
use Rattle.std.proofs.lemmas.Bool.{cases_lt, eqb-true, eqb-false}
use Rattle.rank_set.specs.Ranks.{union}
use Rattle.rank_set.specs.Words.{word_at, ranks_in}
use Rattle.rank_set.proofs.WordSets.{word_at-small, union_none, no_ranks, ranks_in-union}
use Rattle.rank_set.proofs.Trimming.{HasBits}
use Rattle.rank_set.proofs.Spanning.{inner_from_spans, within_bits}
use Rattle.rank_set.proofs.words.or_within.Goals as goal

pub returns-then-is_empty-clause-ranks : goal.returns-then-is_empty-clause-ranks
returns-then-is_empty-clause-ranks c =
    union_none (ranks_in c.args.offset c.args.words.now) ∙ ap (union (ranks_in c.args.offset c.args.words.now)) (sym (no_ranks c.args.other_offset c.args.others.now (eqb-true _ _ (sym c.if-is_empty.ensures))))

some_words : (n : ℕ) → eqb n 0 ≡ false → 0 < n
some_words n e = elim (cases_lt 0 n) [ inl lt ↦ lt | inr none ↦ absurd (eqb-false n 0 e (omega arith)) ]

pub or_words-requires-clause-begins : goal.or_words-requires-clause-begins
or_words-requires-clause-begins c = (inner_from_spans c.args.offset c.args.words.now c.args.other_offset c.args.others.now c.requires.trimmed_others (word_at-small c.args.other_offset c.args.others.now (λ i. omega (arith, c.type_inv.others i))) (some_words _ (sym c.if-is_empty.ensures)) c.requires.spans).0

pub or_words-requires-clause-stops : goal.or_words-requires-clause-stops
or_words-requires-clause-stops c = (inner_from_spans c.args.offset c.args.words.now c.args.other_offset c.args.others.now c.requires.trimmed_others (word_at-small c.args.other_offset c.args.others.now (λ i. omega (arith, c.type_inv.others i))) (some_words _ (sym c.if-is_empty.ensures)) c.requires.spans).1

-- the words with the bits of the others
made : (c : goal.After-slice_known-2-1) → HasBits c.args.offset c.args.words.now (word_at c.args.other_offset c.args.others.now) c.args.offset c.or_words.new.words
made c =
    let more = some_words _ (sym c.if-is_empty.ensures) in
    let inner = inner_from_spans c.args.offset c.args.words.now c.args.other_offset c.args.others.now c.requires.trimmed_others (word_at-small c.args.other_offset c.args.others.now (λ i. omega (arith, c.type_inv.others i))) more c.requires.spans in
    within_bits c.args.offset c.args.words.now c.args.other_offset c.args.others.now c.or_words.new.words c.requires.trimmed c.requires.trimmed_others more inner.0 inner.1 c.or_words.auto.words c.or_words.ensures

pub returns-clause-trimmed : goal.returns-clause-trimmed
returns-clause-trimmed c = (made c).words

pub returns-clause-ranks : goal.returns-clause-ranks
returns-clause-ranks c = ranks_in-union c.args.offset c.or_words.new.words c.args.offset c.args.words.now c.args.other_offset c.args.others.now (made c).each
