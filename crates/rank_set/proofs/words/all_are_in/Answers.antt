use Rattle.std.proofs.Common.{◌≡◌, ◌≢◌, ℕ, ◌<◌, ◌≤◌, ◌+◌, ◌-◌, ◌^◌, List, length, get_or, false, nat_eq, sym, ap, ◌∙◌, subst, inl, inr, arith, w64, eqb-true}
use Rattle.std.specs.Prelude.{bit_and}
use Rattle.std.specs.Int.{bit_not}
use Rattle.rank_set.specs.Words.{word_at}
use Rattle.rank_set.proofs.WordSets.{word_at-below, word_at-from, word_at-beyond, word_at-small, subset_words, not_subset_words}
use Rattle.rank_set.proofs.Trimming.{first_word, last_word}
use Rattle.rank_set.proofs.Changes.{and_all}
use Rattle.std.proofs.lemmas.Bool.{cases_lt}
use Rattle.std.proofs.lemmas.Bool.Decides.{nat_tests}
use Rattle.rank_set.proofs.words.all_are_in.Goals as goal

pub returns-then-is_empty : goal.returns-then-is_empty
returns-then-is_empty c =
    let none : length c.args.words.now ≡ 0 = eqb-true (length c.args.words.now) 0 (sym c.is_empty.ensures ∙ c.if-is_empty.true) in
    sym (subset_words c.args.offset c.args.words.now c.args.other_offset c.args.others.now (word_at-small c.args.offset c.args.words.now (λ i. omega (arith, c.type_inv.words i))) (word_at-small c.args.other_offset c.args.others.now (λ i. omega (arith, c.type_inv.others i)))
    (λ j. ap (λ w. bit_and w (bit_not w64 (word_at c.args.other_offset c.args.others.now j))) (word_at-beyond c.args.offset c.args.words.now j (omega (arith, none, c.requires.nothing none)))))

-- there is a word
some : (n : ℕ) → nat_eq n 0 ≡ false → 0 < n
some n e = grind (arith, nat_tests)

-- a word that is not 0 and has no counterpart
alone : (w v : ℕ) → 0 < w → w < 2 ^ 64 → v ≡ 0 → bit_and w (bit_not w64 v) ≢ 0
alone w v some small none e = omega (arith, some, sym (ap (λ x. bit_and w (bit_not w64 x)) none ∙ and_all w small) ∙ e)

pub returns-then-offset-other_offset : goal.returns-then-offset-other_offset
returns-then-offset-other_offset c =
    let o = c.args.offset in
    let ws = c.args.words.now in
    let p = c.args.other_offset in
    let vs = c.args.others.now in
    let small = word_at-small o ws (λ i. omega (arith, c.type_inv.words i)) in
    sym (not_subset_words o ws p vs small (word_at-small p vs (λ i. omega (arith, c.type_inv.others i))) o
    (alone (word_at o ws o) (word_at p vs o) (let first = c.requires.first (some (length ws) (sym c.is_empty.ensures ∙ c.if-is_empty.false)) in omega (arith, first_word o ws, first)) (small o) (word_at-below p vs o c.if-offset-other_offset.true)))

pub returns-then-offset-words : goal.returns-then-offset-words
returns-then-offset-words c =
    let o = c.args.offset in
    let ws = c.args.words.now in
    let p = c.args.other_offset in
    let vs = c.args.others.now in
    let some = some (length ws) (sym c.is_empty.ensures ∙ c.if-is_empty.false) in
    let small = word_at-small o ws (λ i. omega (arith, c.type_inv.words i)) in
    sym (not_subset_words o ws p vs small (word_at-small p vs (λ i. omega (arith, c.type_inv.others i))) (o + length ws - 1)
    (alone (word_at o ws (o + length ws - 1)) (word_at p vs (o + length ws - 1)) (let last = c.requires.last some in omega (arith, last_word o ws some, last)) (small (o + length ws - 1)) (word_at-beyond p vs (o + length ws - 1) (omega (arith, c.if-offset-words.true, some)))))

pub loop-i-init : goal.loop-i-init
loop-i-init c = λ j lt. ap (λ w. bit_and w (bit_not w64 (word_at c.args.other_offset c.args.others.now j))) (word_at-below c.args.offset c.args.words.now j (omega arith))

-- the words that are compared at a step
module _ (o : ℕ) (ws : List ℕ) (p : ℕ) (vs : List ℕ) (begins : p ≤ o) (m : ℕ) where
  word_here : word_at o ws (o + m) ≡ get_or ws m 0
  word_here = let e : (o + m) - o ≡ m = omega arith in word_at-from o ws (o + m) (omega arith) ∙ ap (λ k. get_or ws k 0) e

  other_here : word_at p vs (o + m) ≡ get_or vs (o - p + m) 0
  other_here = let e : (o + m) - p ≡ o - p + m = omega (arith, begins) in word_at-from p vs (o + m) (omega (arith, begins)) ∙ ap (λ k. get_or vs k 0) e

  both_here : bit_and (word_at o ws (o + m)) (bit_not w64 (word_at p vs (o + m))) ≡ bit_and (get_or ws m 0) (bit_not w64 (get_or vs (o - p + m) 0))
  both_here = λ t. bit_and (word_here t) (bit_not w64 (other_here t))

pub returns-then-word-others-ne0 : goal.returns-then-word-others-ne0
returns-then-word-others-ne0 c =
    sym (not_subset_words c.args.offset c.args.words.now c.args.other_offset c.args.others.now (word_at-small c.args.offset c.args.words.now (λ i. omega (arith, c.type_inv.words i))) (word_at-small c.args.other_offset c.args.others.now (λ i. omega (arith, c.type_inv.others i))) (c.args.offset + c.loop-i.i)
    (λ e. c.if-word-others-ne0.true (sym (both_here c.args.offset c.args.words.now c.args.other_offset c.args.others.now c.if-offset-other_offset.false c.loop-i.i) ∙ e)))

pub loop-i-preserved : goal.loop-i-preserved
loop-i-preserved c = λ j lt. elim (cases_lt j (c.args.offset + c.loop-i.i)) [
  | inl before ↦ c.loop-i.invariant j before
  | inr here ↦
      let e : c.args.offset + c.loop-i.i ≡ j = omega arith in
      subst (λ k. bit_and (word_at c.args.offset c.args.words.now k) (bit_not w64 (word_at c.args.other_offset c.args.others.now k)) ≡ 0) e
      (both_here c.args.offset c.args.words.now c.args.other_offset c.args.others.now c.if-offset-other_offset.false c.loop-i.i ∙ c.if-word-others-ne0.false)
]

pub returns : goal.returns
returns c =
    sym (subset_words c.args.offset c.args.words.now c.args.other_offset c.args.others.now (word_at-small c.args.offset c.args.words.now (λ i. omega (arith, c.type_inv.words i))) (word_at-small c.args.other_offset c.args.others.now (λ i. omega (arith, c.type_inv.others i))) (λ j. elim (cases_lt j (c.args.offset + c.loop-i.i)) [
      | inl lt ↦ c.loop-i.invariant j lt
      | inr le ↦ ap (λ w. bit_and w (bit_not w64 (word_at c.args.other_offset c.args.others.now j))) (word_at-beyond c.args.offset c.args.words.now j (omega (arith, c.loop-i-test.false)))
    ]))
