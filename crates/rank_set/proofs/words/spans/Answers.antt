use Rattle.std.proofs.Common.{◌+◌, ◌<◌, length, inl, inr, sym, ◌∙◌, arith}
use Rattle.std.proofs.lemmas.Bool.{cases_lt, eqb-true, eqb-false, le-leb, lt-leb}
use Rattle.rank_set.proofs.WordSets.{word_at-small}
use Rattle.rank_set.proofs.Spanning.{spans_nothing, spans_inner, spans_outer}
use Rattle.rank_set.proofs.words.spans.Goals as goal

pub returns-then-is_empty : goal.returns-then-is_empty
returns-then-is_empty c = c.if-is_empty.true ∙ sym (spans_nothing c.args.offset c.args.words.now c.args.other_offset c.args.others.now (eqb-true _ _ (sym c.if-is_empty.ensures)))

pub returns-then-offset-other_offset : goal.returns-then-offset-other_offset
returns-then-offset-other_offset c =
    let more : 0 < length c.args.others.now = elim (cases_lt 0 (length c.args.others.now)) [ inl lt ↦ lt | inr none ↦ absurd (eqb-false _ _ (sym c.if-is_empty.ensures) (omega arith)) ] in
    elim (cases_lt (c.args.offset + length c.args.words.now) (c.args.other_offset + length c.args.others.now)) [
      | inl past ↦ lt-leb _ _ past ∙ sym (spans_outer c.args.offset c.args.words.now c.args.other_offset c.args.others.now c.requires.trimmed_others (word_at-small c.args.other_offset c.args.others.now (λ i. omega (arith, c.type_inv.others i))) more (λ b. let stops = b.1 in omega (arith, stops, past)))
      | inr inside ↦ le-leb _ _ inside ∙ sym (spans_inner c.args.offset c.args.words.now c.args.other_offset c.args.others.now c.requires.trimmed (word_at-small c.args.offset c.args.words.now (λ i. omega (arith, c.type_inv.words i))) more c.if-offset-other_offset.true inside)
    ]

pub returns-else-offset-other_offset : goal.returns-else-offset-other_offset
returns-else-offset-other_offset c =
    let more : 0 < length c.args.others.now = elim (cases_lt 0 (length c.args.others.now)) [ inl lt ↦ lt | inr none ↦ absurd (eqb-false _ _ (sym c.if-is_empty.ensures) (omega arith)) ] in
    let before : c.args.other_offset < c.args.offset = c.if-offset-other_offset.false in
    lt-leb _ _ before ∙ sym (spans_outer c.args.offset c.args.words.now c.args.other_offset c.args.others.now c.requires.trimmed_others (word_at-small c.args.other_offset c.args.others.now (λ i. omega (arith, c.type_inv.others i))) more (λ b. let begins = b.0 in omega (arith, begins, before)))
