-- Ranks that two sets have in common, by their words.
use Rattle.std.proofs.Common.{◌≡◌, ◌≢◌, ℕ, ◌+◌, ◌-◌, ◌*◌, ◌/◌, ◌%◌, ◌^◌, ◌<◌, ◌≤◌, true, false, ◌&&◌, eqb, List, length, get_or, sym, ap, ◌∙◌, inl, inr, arith, w64}
use Rattle.std.specs.Prelude.{bit_and}
use Rattle.std.specs.Int.{trailing_zeros}
use Rattle.std.specs.Int.Bits.{and_zero_r}
use Rattle.std.proofs.lemmas.Bool.{cases_lt, ne_eqb, true≢false}
use Rattle.std.proofs.lemmas.Nat.{and_le_l}
use Rattle.std.proofs.lemmas.Nat.Bits.{bit_at-trailing_zeros}
use Rattle.rank_set.specs.Ranks.{Ranks, none, has, those, size, is_empty, has-none, has-those, same_ranks}
use Rattle.rank_set.specs.Words.{is_bit, word_at, ranks_in, IsOverlap}
use Rattle.rank_set.proofs.WordSets.{word_at-below, word_at-from, word_at-beyond, no_bit, is_bit-and, has-ranks_in}
use Rattle.rank_set.proofs.Changes.{common_word, none_before, none_after}

module _ (o : ℕ) (ws : List ℕ) (p : ℕ) (vs : List ℕ) where
  -- whether a rank is in both sets
  both_have : (r : ℕ) → has (those (λ q. has (ranks_in p vs) q) (ranks_in o ws)) r ≡ is_bit (bit_and (word_at o ws (r / 64)) (word_at p vs (r / 64))) (r % 64)
  both_have r =
      has-those (λ q. has (ranks_in p vs) q) (ranks_in o ws) r ∙ (λ i. has-ranks_in o ws r i && has-ranks_in p vs r i)
      ∙ sym (is_bit-and (word_at o ws (r / 64)) (word_at p vs (r / 64)) (r % 64))

  -- no word has a bit of both
  pub none_common : ((k : ℕ) → bit_and (word_at o ws k) (word_at p vs k) ≡ 0) → is_empty (those (λ q. has (ranks_in p vs) q) (ranks_in o ws)) ≡ true
  none_common each =
      let e : those (λ q. has (ranks_in p vs) q) (ranks_in o ws) ≡ none = same_ranks _ _ (λ r. both_have r ∙ no_bit _ (r % 64) (each (r / 64)) ∙ sym (has-none r)) in
      ap is_empty e

  -- a word has a bit of both
  pub one_common : (k : ℕ) → bit_and (word_at o ws k) (word_at p vs k) ≢ 0 → word_at o ws k < 2 ^ 64 → is_empty (those (λ q. has (ranks_in p vs) q) (ranks_in o ws)) ≡ false
  one_common k some small =
      let w : ℕ = bit_and (word_at o ws k) (word_at p vs k) in
      let z : ℕ = trailing_zeros w64 w in
      let facts = bit_at-trailing_zeros w64 w (omega (arith, some)) (omega (arith, and_le_l (word_at o ws k) (word_at p vs k), small)) in
      let low : z < 64 = facts.0 in
      let d : (64 * k + z) / 64 ≡ k = omega (arith, low) in
      let m : (64 * k + z) % 64 ≡ z = omega (arith, low) in
      let there : has (those (λ q. has (ranks_in p vs) q) (ranks_in o ws)) (64 * k + z) ≡ true =
      both_have (64 * k + z) ∙ (λ i. is_bit (bit_and (word_at o ws (d i)) (word_at p vs (d i))) (m i)) ∙ ap (λ x. eqb x 1) facts.1 in
      not_empty (those (λ q. has (ranks_in p vs) q) (ranks_in o ws)) (64 * k + z) there
    where
      not_empty : (s : Ranks) (r : ℕ) → has s r ≡ true → is_empty s ≡ false
      not_empty s r there = ne_eqb (size s) 0 (λ e. absurd (true≢false (sym there ∙ ap (λ t. has t r) (Rattle.rank_set.specs.Ranks.none_from_size s e) ∙ has-none r)))

  -- words that have no bit in common where they overlap have none
  pub none_overlap : (i j n m : ℕ) → IsOverlap o ws p vs i j n → n ≤ m → ((q : ℕ) → q < m → bit_and (word_at o ws (o + (i + q))) (word_at p vs (o + (i + q))) ≡ 0) → (k : ℕ) → bit_and (word_at o ws k) (word_at p vs k) ≡ 0
  none_overlap i j n m h all each k = elim (cases_lt k o) [
    | inl low ↦ ap (λ w. bit_and w (word_at p vs k)) (word_at-below o ws k low) ∙ zero_left (word_at p vs k)
    | inr up ↦
        let e : o + (k - o) ≡ k = omega arith in
        let other_none : word_at p vs (o + (k - o)) ≡ 0 → bit_and (word_at o ws k) (word_at p vs k) ≡ 0 = λ zero. ap (λ q. bit_and (word_at o ws k) (word_at p vs q)) (sym e) ∙ ap (bit_and (word_at o ws k)) zero ∙ and_zero_r (word_at o ws k) in
        elim (cases_lt (k - o) i) [
          | inl before ↦ other_none (none_before o ws p vs i j n h (k - o) before)
          | inr from ↦ elim (cases_lt (k - o) (i + n)) [
            | inl inside ↦
                let d : o + (i + (k - o - i)) ≡ k = omega arith in
                ap (λ q. bit_and (word_at o ws q) (word_at p vs q)) (sym d) ∙ each (k - o - i) (omega arith)
            | inr after ↦ elim (cases_lt (k - o) (length ws)) [
              | inl within ↦ other_none (none_after o ws p vs i j n h (k - o) after within)
              | inr past ↦ ap (λ w. bit_and w (word_at p vs k)) (word_at-beyond o ws k (omega arith)) ∙ zero_left (word_at p vs k)
            ]
          ]
        ]
  ]
    where
      zero_left : (w : ℕ) → bit_and 0 w ≡ 0
      zero_left w = omega (arith, and_le_l 0 w)

  -- the words at a place of the overlap
  pub overlap_word : (i j n m : ℕ) → IsOverlap o ws p vs i j n → m < n → bit_and (word_at o ws (o + (i + m))) (word_at p vs (o + (i + m))) ≡ bit_and (get_or ws (i + m) 0) (get_or vs (j + m) 0)
  overlap_word i j n m h lt =
      let e : o + (i + m) - o ≡ i + m = omega arith in
      let here : word_at o ws (o + (i + m)) ≡ get_or ws (i + m) 0 = word_at-from o ws (o + (i + m)) (omega arith) ∙ ap (λ k. get_or ws k 0) e in
      (λ t. bit_and (here t) (common_word o ws p vs i j n h m lt t))
