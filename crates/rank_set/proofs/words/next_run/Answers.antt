use Rattle.std.proofs.Common.{◌≡◌, ◌∙◌, ℕ, ◌<◌, ◌≤◌, ◌*◌, ◌/◌, ◌%◌, ◌+◌, ◌-◌, max, List, length, Bool, true, false, Option, None, Some, sym, ap, subst, inl, inr, arith}
use Rattle.std.specs.Prelude.{IfNone}
use Rattle.std.proofs.lemmas.Bool.{cases_lt, true≢false}
use Rattle.rank_set.specs.Words.{bit_in, ranks_in, IsNext}
use Rattle.rank_set.specs.Runs.{IsRun}
use Rattle.rank_set.proofs.WordSets.{has-ranks_in, no_bit, no_bit_past, word_at-below}
use Rattle.rank_set.proofs.RunSets.{run_from}
use Rattle.rank_set.proofs.words.next_run.Goals.{in-Some, in-None}
use Rattle.rank_set.proofs.words.next_run.Goals as goal

-- where no words are held, no bit is set
no_bit_before : (o : ℕ) (ws : List ℕ) (q : ℕ) → q < 64 * o → bit_in o ws q ≡ false
no_bit_before o ws q lt = no_bit _ (q % 64) (word_at-below o ws (q / 64) (omega (arith, lt)))

-- so the next bit is the next one from the words on
next_from_words : (o : ℕ) (ws : List ℕ) (from m p : ℕ) → m ≡ max from (64 * o) → IsNext o ws false m p → IsNext o ws false from p
next_from_words o ws from m p is next = record {
  start = omega (arith, is, next.start);
  end = next.end;
  bit = next.bit;
  before = λ q le lt. elim (cases_lt q m) [
    | inl low ↦ no_bit_before o ws q (omega (arith, is, le, low))
    | inr up ↦ next.before q up lt
  ];
}

told_none : {A : Type 0} (o : Option A) (P : Type 0) → P → IfNone o P
told_none None P p = p
told_none (Some a) P p = tt

pub returns-in_err-first-clause-none : goal.returns-in_err-first-clause-none
returns-in_err-first-clause-none c = told_none c.from_residual.result _ (λ q le. has-ranks_in c.args.offset c.args.words.now q ∙ elim (cases_lt q (64 * (c.args.offset + length c.args.words.now))) [
  | inl lt ↦ elim (cases_lt q c.max.result) [
    | inl before ↦ no_bit_before c.args.offset c.args.words.now q (omega (arith, le, before, c.max.ensures))
    | inr from ↦ c.in_err-first.ensures.none q from lt
  ]
  | inr past ↦ no_bit_past c.args.offset c.args.words.now q past
])

differ : (t : ℕ → Bool) (p q : ℕ) → p ≤ q → t p ≡ true → t q ≡ false → p < q
differ t p q le one none = elim (cases_lt p q) [ inl lt ↦ lt | inr ge ↦ let e : p ≡ q = omega arith in absurd (true≢false (sym one ∙ ap t e ∙ none)) ]

pub returns-clause-run : goal.returns-clause-run
returns-clause-run c =
    let first : ℕ = c.in_ok-first.first in
    let n : ℕ = 64 * (c.args.offset + length c.args.words.now) in
    let t : ℕ → Bool = bit_in c.args.offset c.args.words.now in
    let next = next_from_words c.args.offset c.args.words.now c.args.from c.max.result c.in_ok-first.first c.max.ensures c.in_ok-first.ensures.run in
    elim c.match-next_bit.branch [
      | in-Some w ↦
          let gap = w.in-Some.ensures.run in
          subst (λ e. IsRun (ranks_in c.args.offset c.args.words.now) c.args.from first (e - 1)) (sym w.end-is)
          (run_from c.args.offset c.args.words.now c.args.from first w.in-Some.gap next (differ t first w.in-Some.gap gap.start next.bit gap.bit) gap.before gap.bit)
      | in-None w ↦
          subst (λ e. IsRun (ranks_in c.args.offset c.args.words.now) c.args.from first (e - 1)) (sym w.end-is)
          (run_from c.args.offset c.args.words.now c.args.from first n next next.end (λ q le lt. w.in-None.ensures.none q le lt) (no_bit_past c.args.offset c.args.words.now n (omega arith)))
    ]
