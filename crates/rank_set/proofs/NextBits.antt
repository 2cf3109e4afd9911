-- The next place where a bit is set, or is not.
use Rattle.std.proofs.Common.{◌≡◌, ℕ, ◌+◌, ◌-◌, ◌*◌, ◌/◌, ◌%◌, ◌^◌, ◌<◌, ◌≤◌, Bool, true, false, not, cond, ◌&&◌, eqb, List, length, refl, sym, ap, ◌∙◌, subst, inl, inr, arith, w64}
use Rattle.std.specs.Prelude.{bit_and}
use Rattle.std.specs.Int.{bit_at, bit_not, trailing_zeros}
use Rattle.std.proofs.lemmas.Bool.{cases_lt, true≢false, and_parts}
use Rattle.std.proofs.lemmas.Nat.Bits.{bit_at-trailing_zeros, bit_at_mask_inside, bit_at_mask_below, bit_at_ones, ones_shl}
use Rattle.rank_set.specs.Words.{is_bit, word_at, bit_in, IsNext}
use Rattle.rank_set.proofs.WordSets.{is_bit-and, is_bit-not, no_bit}

-- a word, or its complement
abbrev pub turned : Bool → ℕ → ℕ
turned gap w = cond gap (bit_not w64 w) w

-- a bit that is left of a word is the one that is looked for
pub bit_turned : (gap : Bool) (w i : ℕ) → w < 2 ^ 64 → i < 64 → is_bit (turned gap w) i ≡ true → is_bit w i ≡ not gap
bit_turned true w i small lt e = flip (is_bit w i) (sym (is_bit-not w i small lt) ∙ e)
  where
    flip : (b : Bool) → not b ≡ true → b ≡ false
    flip true e = absurd (true≢false (sym e))
    flip false e = refl
bit_turned false w i small lt e = e

-- a bit that is not left of a word is the other one
pub no_bit_turned : (gap : Bool) (w i : ℕ) → w < 2 ^ 64 → i < 64 → is_bit (turned gap w) i ≡ false → is_bit w i ≡ gap
no_bit_turned true w i small lt e = flip (is_bit w i) (sym (is_bit-not w i small lt) ∙ e)
  where
    flip : (b : Bool) → not b ≡ false → b ≡ true
    flip true e = refl
    flip false e = absurd (true≢false e)
no_bit_turned false w i small lt e = e

-- the bits from a place on
abbrev pub IsMask : ℕ → ℕ → ℕ → Type 0
IsMask mask from k = (i : ℕ) → i < 64 → from ≤ 64 * k + i → is_bit mask i ≡ true

-- a mask has no bits before a place
abbrev pub IsMaskFrom : ℕ → ℕ → ℕ → Type 0
IsMaskFrom mask from k = (i : ℕ) → i < 64 → is_bit mask i ≡ true → from ≤ 64 * k + i

unmasked : (a b : Bool) → (a && b) ≡ false → b ≡ true → a ≡ false
unmasked true b e one = absurd (true≢false (sym one ∙ e))
unmasked false b e one = refl

module _ (o : ℕ) (ws : List ℕ) (from k : ℕ) (gap : Bool) (w mask : ℕ) (is : w ≡ word_at o ws k) (small : w < 2 ^ 64) (masks : IsMask mask from k) (before : (q : ℕ) → from ≤ q → q < 64 * k → bit_in o ws q ≡ gap) where
  left : ℕ
  left = bit_and (turned gap w) mask

  in_word : (i : ℕ) → i < 64 → bit_in o ws (64 * k + i) ≡ is_bit w i
  in_word i lt =
      let d : (64 * k + i) / 64 ≡ k = omega arith in
      let m : (64 * k + i) % 64 ≡ i = omega arith in
      (λ j. is_bit (word_at o ws (d j)) (m j)) ∙ ap (λ x. is_bit x i) (sym is)

  clear_bit : (i : ℕ) → i < 64 → from ≤ 64 * k + i → is_bit (bit_and (turned gap w) mask) i ≡ false → bit_in o ws (64 * k + i) ≡ gap
  clear_bit i lt le e = in_word i lt ∙ no_bit_turned gap w i small lt (unmasked (is_bit (turned gap w) i) (is_bit mask i) (sym (is_bit-and (turned gap w) mask i) ∙ e) (masks i lt le))

  split : (q : ℕ) → 64 * k ≤ q → 64 * k + (q - 64 * k) ≡ q
  split q le = omega arith

  -- where no bit is left of word k, all its bits from the place on are the other ones
  pub nothing_here : bit_and (turned gap w) mask ≡ 0 → (q : ℕ) → from ≤ q → q < 64 * (k + 1) → bit_in o ws q ≡ gap
  nothing_here e q le lt = elim (cases_lt q (64 * k)) [
    | inl low ↦ before q le low
    | inr up ↦
        let s : 64 * k + (q - 64 * k) ≡ q = split q up in
        subst (λ x. bit_in o ws x ≡ gap) s (clear_bit (q - 64 * k) (omega arith) (omega arith) (no_bit _ (q - 64 * k) e))
  ]

  -- the lowest bit that is left of word k is the next one
  pub found_here : IsMaskFrom mask from k → k < o + length ws → 0 < bit_and (turned gap w) mask → bit_and (turned gap w) mask < 2 ^ 64 → IsNext o ws gap from (64 * k + trailing_zeros w64 (bit_and (turned gap w) mask))
  found_here above inside some fits =
      let v : ℕ = bit_and (turned gap w) mask in
      let z : ℕ = trailing_zeros w64 v in
      let facts = bit_at-trailing_zeros w64 v some fits in
      let low : z < 64 = facts.0 in
      let set_bit : (is_bit (turned gap w) z && is_bit mask z) ≡ true = sym (is_bit-and (turned gap w) mask z) ∙ ap (λ x. eqb x 1) facts.1 in
      let parts = and_parts (is_bit (turned gap w) z) (is_bit mask z) set_bit in
      record {
        start = above z low parts.1;
        end = omega (arith, low);
        bit = in_word z low ∙ bit_turned gap w z small low parts.0;
        before = λ q le lt. elim (cases_lt q (64 * k)) [
          | inl lower ↦ before q le lower
          | inr up ↦
              let s : 64 * k + (q - 64 * k) ≡ q = split q up in
              let zero_bit : bit_at v (q - 64 * k) ≡ 0 = facts.2 (q - 64 * k) (omega arith) in
              subst (λ x. bit_in o ws x ≡ gap) s (clear_bit (q - 64 * k) (omega (arith, low)) (omega arith) (ap (λ x. eqb x 1) zero_bit))
        ];
      }

-- the mask of the word that the place is in has its bits from there on
pub first_mask : (from : ℕ) → IsMask ((2 ^ 64 - 1) * 2 ^ (from % 64) % 2 ^ 64) from (from / 64)
first_mask from i lt le = ap (λ m. is_bit m i) (ones_shl 64 (from % 64) (omega arith)) ∙ ap (λ x. eqb x 1) (bit_at_mask_inside (from % 64) 64 i (omega arith) lt)

-- the mask of the word that the place is in has no others
pub first_mask_from : (from : ℕ) → IsMaskFrom ((2 ^ 64 - 1) * 2 ^ (from % 64) % 2 ^ 64) from (from / 64)
first_mask_from from i lt one = elim (cases_lt i (from % 64)) [
  | inl low ↦ absurd (true≢false (sym one ∙ ap (λ m. is_bit m i) (ones_shl 64 (from % 64) (omega arith)) ∙ ap (λ x. eqb x 1) (bit_at_mask_below (from % 64) 64 i low)))
  | inr up ↦ omega arith
]

-- all ones have the bits from any place on
pub whole_mask : (from k : ℕ) → IsMask (2 ^ 64 - 1) from k
whole_mask from k i lt le = ap (λ x. eqb x 1) (bit_at_ones 64 i lt)
