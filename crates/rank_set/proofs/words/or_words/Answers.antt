use Rattle.std.proofs.Common.{◌≡◌, ℕ, ◌≤◌, ◌+◌, ◌-◌, List, get_or, length, sym, ap, ◌∙◌, inl, inr, arith}
use Rattle.std.specs.Prelude.{bit_or}
use Rattle.std.specs.Int.Bits.{or_zero_r}
use Rattle.std.proofs.lemmas.Bool.{cases_lt}
use Rattle.rank_set.specs.Words.{word_at}
use Rattle.rank_set.proofs.Parts.{before_part, behind_part, part_len, part_word, within_part}
use Rattle.rank_set.proofs.WordSets.{word_at-below, word_at-from, word_at-beyond}
use Rattle.rank_set.proofs.words.or_words.Goals as goal

pub returns : goal.returns
returns c j = elim (cases_lt j a) [
  | inl lt ↦ before_part a k ws new inside long j lt ∙ unchanged (word_at-below p vs (o + j) (omega (arith, lt, begins)))
  | inr le ↦ elim (cases_lt j (a + k)) [
    | inl lt ↦
        let e : o + j - p ≡ j - a = omega (arith, le, begins) in
        within_part a k ws new inside long j le lt ∙ c.or_each.ensures (j - a)
        ∙ (λ i. bit_or (part_word a k ws j le lt i) (sym (word_at-from p vs (o + j) (omega (arith, le, begins)) ∙ ap (λ n. get_or vs n 0) e) i))
    | inr past ↦ behind_part a k ws new inside long j past ∙ unchanged (word_at-beyond p vs (o + j) (omega (arith, past, begins)))
  ]
]
  where
    o : ℕ
    o = c.args.offset

    p : ℕ
    p = c.args.other_offset

    ws : List ℕ
    ws = c.args.words.now

    vs : List ℕ
    vs = c.args.others.now

    new : List ℕ
    new = c.or_each.new.words

    a : ℕ
    a = p - o

    k : ℕ
    k = a + length vs - a

    begins : o ≤ p
    begins = c.requires.begins

    inside : a + k ≤ length ws
    inside = omega (arith, c.requires.stops, begins)

    long : length new ≡ k
    long = omega (arith, c.or_each.auto.words, part_len a k ws inside)

    unchanged : word_at p vs (o + j) ≡ 0 → get_or ws j 0 ≡ bit_or (get_or ws j 0) (word_at p vs (o + j))
    unchanged none = sym (ap (bit_or (get_or ws j 0)) none ∙ or_zero_r (get_or ws j 0))
