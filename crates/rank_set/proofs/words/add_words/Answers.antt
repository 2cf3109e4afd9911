use Rattle.std.proofs.Common.{◌≡◌, ℕ, ◌<◌, ◌+◌, length, false, eqb, inl, inr, sym, ap, ◌∙◌, subst, arith}
use Rattle.std.proofs.lemmas.Bool.{eqb-true, eqb-false, cases_lt}
use Rattle.smallvec.proofs.SmallVecLemmas.{items-with_items}
use Rattle.rank_set.specs.Ranks.{union, union-none}
use Rattle.rank_set.specs.Words.{word_at, ranks_in, AreWords}
use Rattle.rank_set.proofs.WordSets.{word_at-below, union_none, no_ranks, ranks_in-union}
use Rattle.rank_set.proofs.Trimming.{HasBits, covered_bits, first_word, last_word}
use Rattle.rank_set.proofs.words.add_words.Goals as goal

pub returns-then-is_empty-clause-ok : goal.returns-then-is_empty-clause-ok
returns-then-is_empty-clause-ok c =
    union_none (ranks_in c.args.offset.now c.args.words.now.items) ∙ ap (union (ranks_in c.args.offset.now c.args.words.now.items)) (sym (no_ranks c.args.other_offset c.args.others.now (eqb-true _ _ (sym c.if-is_empty.ensures))))

pub returns-then-is_empty-2-clause-ok : goal.returns-then-is_empty-2-clause-ok
returns-then-is_empty-2-clause-ok c =
    let others = ranks_in c.args.other_offset c.args.others.now in
    ap (ranks_in c.args.other_offset) c.in_ok-words.ensures ∙ sym (union-none others)
    ∙ ap (λ ranks. union ranks others) (sym (no_ranks c.args.offset.now c.args.words.now.items (eqb-true _ _ (sym c.if-is_empty-2.ensures))))

some_words : (n : ℕ) → eqb n 0 ≡ false → 0 < n
some_words n e = elim (cases_lt 0 n) [ inl lt ↦ lt | inr none ↦ absurd (eqb-false n 0 e (omega arith)) ]

-- the words with the bits of the others
made : (c : goal.After-words-2-1) → HasBits c.args.offset.now c.args.words.now.items (word_at c.args.other_offset c.args.others.now) c.extend_to.new.offset c.or_words.new.words
made c =
    let some : 0 < length c.args.others.now = some_words (length c.args.others.now) (sym c.if-is_empty.ensures) in
    covered_bits c.args.offset.now c.args.words.now.items c.args.other_offset (c.args.other_offset + length c.args.others.now) c.extend_to.new.offset c.extend_to.new.words.items c.as_mut_slice-2.result.now c.or_words.new.words (word_at c.args.other_offset c.args.others.now)
    c.in_ok-extend_to.ensures.ok (omega arith) c.as_mut_slice-2.ensures.value c.or_words.auto.words c.or_words.ensures (word_at-below c.args.other_offset c.args.others.now)
    (omega (arith, first_word c.args.other_offset c.args.others.now, c.requires.trimmed_others.first some)) (omega (arith, last_word c.args.other_offset c.args.others.now some, c.requires.trimmed_others.last some))

pub returns-clause-trimmed : goal.returns-clause-trimmed
returns-clause-trimmed c = subst (AreWords c.extend_to.new.offset) (sym (items-with_items c.extend_to.new.words c.or_words.new.words (c.or_words.auto.words ∙ ap length c.as_mut_slice-2.ensures.value))) (made c).words

pub returns-clause-ok : goal.returns-clause-ok
returns-clause-ok c =
    ap (ranks_in c.extend_to.new.offset) (items-with_items c.extend_to.new.words c.or_words.new.words (c.or_words.auto.words ∙ ap length c.as_mut_slice-2.ensures.value))
    ∙ ranks_in-union c.extend_to.new.offset c.or_words.new.words c.args.offset.now c.args.words.now.items c.args.other_offset c.args.others.now (made c).each
