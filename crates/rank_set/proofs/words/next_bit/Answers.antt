use Rattle.std.proofs.Common.{◌≡◌, ℕ, zero, suc, ◌<◌, ◌≤◌, ◌+◌, ◌-◌, ◌*◌, ◌/◌, ◌%◌, ◌^◌, List, get_or, refl, sym, ap, ◌∙◌, subst, arith, w64}
use Rattle.std.specs.Prelude.{bit_and}
use Rattle.std.specs.Int.{trailing_zeros}
use Rattle.rank_set.specs.Words.{word_at, IsNext}
use Rattle.rank_set.proofs.NextBits.{IsMask, IsMaskFrom, turned, nothing_here, found_here, first_mask, first_mask_from, whole_mask}
use Rattle.rank_set.proofs.WordSets.{word_at-from}
use Rattle.std.proofs.lemmas.Nat.{and_le_r}
use Rattle.rank_set.proofs.words.next_bit.Goals.{then-gap, else-gap}
use Rattle.rank_set.proofs.words.next_bit.Goals as goal

below_word : (n : ℕ) → n % 2 ^ 64 < 2 ^ 64
below_word n = omega arith

-- the word of a place that is in one of the words or behind them
first_word : (o from : ℕ) → 64 * o ≤ from → from / 64 ≡ o + (from / 64 - o)
first_word o from begins = omega (arith, begins)

pub loop-i-init : goal.loop-i-init
loop-i-init c =
    let from : ℕ = c.args.from in
    let at : from / 64 ≡ c.args.offset + (from / 64 - c.args.offset) = first_word c.args.offset from c.requires.begins in
    record {
      fits = below_word (18446744073709551615 * 2 ^ (from % 64));
      masks = subst (λ k. IsMask ((2 ^ 64 - 1) * 2 ^ (from % 64) % 2 ^ 64) from k) at (first_mask from);
      above = subst (λ k. IsMaskFrom ((2 ^ 64 - 1) * 2 ^ (from % 64) % 2 ^ 64) from k) at (first_mask_from from);
      before = λ q le lt. absurd (omega (arith, le, lt, at));
    }

-- a word by its place among all words
word_here : (o : ℕ) (ws : List ℕ) (i : ℕ) → get_or ws i 0 ≡ word_at o ws (o + i)
word_here o ws i = let e : o + i - o ≡ i = omega arith in sym (word_at-from o ws (o + i) (omega arith) ∙ ap (λ k. get_or ws k 0) e)

pub loop-i-preserved : goal.loop-i-preserved
loop-i-preserved c =
    let i : ℕ = c.loop-i.i in
    let word : ℕ = get_or c.args.words.now i 0 in
    let seen : c.if-gap.seen ≡ turned c.args.gap word = elim c.if-gap.branch [
      | then-gap w ↦ w.seen-is ∙ ap (λ b. turned b word) (sym w.if-gap.true)
      | else-gap w ↦ w.seen-is ∙ ap (λ b. turned b word) (sym w.if-gap.false)
    ] in
    record {
      fits = omega arith;
      masks = whole_mask c.args.from (c.args.offset + (i + 1));
      above = λ b lt one. omega (arith, c.loop-i.auto.i, c.requires.begins);
      before = λ q le lt. nothing_here c.args.offset c.args.words.now c.args.from (c.args.offset + i) c.args.gap word c.loop-i.mask (word_here c.args.offset c.args.words.now i) (omega (arith, c.type_inv.words i)) c.loop-i.invariant.masks c.loop-i.invariant.before
          ((λ j. bit_and (sym seen j) c.loop-i.mask) ∙ c.if-left-ne0.false) q le (omega (arith, lt));
    }

positive : (n : ℕ) → (n ≡ 0 → ⊥) → 0 < n
positive zero f = absurd (f refl)
positive (suc n) f = omega arith

pub returns-then-left-ne0-clause-run : goal.returns-then-left-ne0-clause-run
returns-then-left-ne0-clause-run c =
    let i : ℕ = c.loop-i.i in
    let word : ℕ = get_or c.args.words.now i 0 in
    let seen : c.if-gap.seen ≡ turned c.args.gap word = elim c.if-gap.branch [
      | then-gap w ↦ w.seen-is ∙ ap (λ b. turned b word) (sym w.if-gap.true)
      | else-gap w ↦ w.seen-is ∙ ap (λ b. turned b word) (sym w.if-gap.false)
    ] in
    let some : 0 < bit_and (turned c.args.gap word) c.loop-i.mask = positive _ (λ e. c.if-left-ne0.true ((λ j. bit_and (seen j) c.loop-i.mask) ∙ e)) in
    subst (λ s. IsNext c.args.offset c.args.words.now c.args.gap c.args.from (64 * (c.args.offset + i) + trailing_zeros w64 (bit_and s c.loop-i.mask))) (sym seen)
    (found_here c.args.offset c.args.words.now c.args.from (c.args.offset + i) c.args.gap word c.loop-i.mask (word_here c.args.offset c.args.words.now i) (omega (arith, c.type_inv.words i)) c.loop-i.invariant.masks c.loop-i.invariant.before
    c.loop-i.invariant.above (omega (arith, c.loop-i-test.true)) some (omega (arith, and_le_r (turned c.args.gap word) c.loop-i.mask, c.loop-i.invariant.fits)))

pub returns-clause-none : goal.returns-clause-none
returns-clause-none c = λ q le lt. c.loop-i.invariant.before q le (omega (arith, lt, c.loop-i-test.false, c.loop-i.auto.i))
