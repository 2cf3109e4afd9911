-- Bits of words that are shifted.
use Rattle.std.proofs.Common.{◌≡◌, ℕ, suc, ◌+◌, ◌-◌, ◌*◌, ◌/◌, ◌%◌, ◌^◌, ◌<◌, ◌≤◌, nat_le, Bool, true, false, ◌&&◌, eqb, [], ◌∷◌, get_or, refl, sym, ap, ◌∙◌, inl, inr, arith, w64}
use Rattle.std.specs.Prelude.{bit_and, bit_or}
use Rattle.std.specs.Int.{bit_at, trailing_zeros}
use Rattle.std.proofs.lemmas.Bool.{cases_lt, true≢false}
use Rattle.std.proofs.lemmas.Nat.{shr-shr, pow_pos}
use Rattle.std.proofs.lemmas.Nat.Bits.{bit_at-trailing_zeros, bit_at-zero, bit_at_ones, bit_at_ones_above, bit_at_above, bit_at_cat_low, bit_at_cat_high, ones_shr}
use Rattle.rank_set.specs.Ranks.{has}
use Rattle.rank_set.specs.Words.{is_bit, word_at, ranks_in}
use Rattle.rank_set.proofs.WordSets.{has-ranks_in, is_bit-and, no_bit, word_at-below, word_at-from, word_at-beyond}

-- a bit of a word that is shifted right
pub shr_bit : (n k i : ℕ) → is_bit (n / 2 ^ k) i ≡ is_bit n (k + i)
shr_bit n k i = ap (λ x. eqb x 1) (ap (λ x. x % 2) (shr-shr n k i))

-- a bit past the end of a word
pub high_bit : (n i : ℕ) → n < 2 ^ 64 → 64 ≤ i → is_bit n i ≡ false
high_bit n i small le = ap (λ x. eqb x 1) (bit_at_above n 64 i small le)

parts_of : (n : ℕ) → n / 2 ^ 64 * 2 ^ 64 + n % 2 ^ 64 ≡ n
parts_of n = omega arith

-- a bit of a word that is shifted left
pub shl_bit : (n k i : ℕ) → i < 64 → is_bit (n * 2 ^ k % 2 ^ 64) i ≡ (nat_le k i && is_bit n (i - k))
shl_bit n k i lt =
    sym (ap (λ x. eqb x 1) (bit_at_cat_low (n * 2 ^ k / 2 ^ 64) 64 (n * 2 ^ k % 2 ^ 64) i lt)) ∙ ap (λ x. is_bit x i) (parts_of (n * 2 ^ k)) ∙ ap (λ x. is_bit x i) none ∙ elim (cases_lt i k) [
      | inl low ↦ ap (λ x. eqb x 1) (bit_at_cat_low n k 0 i low ∙ bit_at-zero i) ∙ sym (ap (λ b. b && is_bit n (i - k)) (le_false low))
      | inr up ↦ ap (λ x. eqb x 1) (bit_at_cat_high n k 0 i (some k) up) ∙ sym (ap (λ b. b && is_bit n (i - k)) (le_true up))
    ]
  where
    none : n * 2 ^ k ≡ n * 2 ^ k + 0
    none = omega arith

    some : (j : ℕ) → 0 < 2 ^ j
    some j = pow_pos j

    le_false : i < k → nat_le k i ≡ false
    le_false a = grind (arith, a)

    le_true : k ≤ i → nat_le k i ≡ true
    le_true a = grind (arith, a)

-- the first bits of a word
pub low_bit : (n len i : ℕ) → len < 64 → i ≤ len → is_bit (bit_and n ((2 ^ 64 - 1) / 2 ^ (63 - len))) i ≡ is_bit n i
low_bit n len i small le = is_bit-and n _ i ∙ ap (λ x. is_bit n i && eqb x 1) (ap (λ m. bit_at m i) (low_mask len small) ∙ bit_at_ones (len + 1) i (omega arith)) ∙ and_true (is_bit n i)
  where
    and_true : (b : Bool) → (b && true) ≡ b
    and_true true = refl
    and_true false = refl

    low_mask : (len : ℕ) → len < 64 → (2 ^ 64 - 1) / 2 ^ (63 - len) ≡ 2 ^ (len + 1) - 1
    low_mask len small = let n : 64 - (63 - len) ≡ len + 1 = omega arith in ones_shr 64 (63 - len) (omega arith) ∙ ap (λ k. 2 ^ k - 1) n

-- and none after them
pub no_low_bit : (n len i : ℕ) → len < 64 → len < i → is_bit (bit_and n ((2 ^ 64 - 1) / 2 ^ (63 - len))) i ≡ false
no_low_bit n len i small lt = is_bit-and n _ i ∙ ap (λ x. is_bit n i && eqb x 1) (ap (λ m. bit_at m i) (low_mask len small) ∙ bit_at_ones_above (len + 1) i (omega arith)) ∙ and_false (is_bit n i)
  where
    and_false : (b : Bool) → (b && false) ≡ false
    and_false true = refl
    and_false false = refl

    low_mask : (len : ℕ) → len < 64 → (2 ^ 64 - 1) / 2 ^ (63 - len) ≡ 2 ^ (len + 1) - 1
    low_mask len small = let n : 64 - (63 - len) ≡ len + 1 = omega arith in ones_shr 64 (63 - len) (omega arith) ∙ ap (λ k. 2 ^ k - 1) n

-- the numbers of one word
pub word_bit : (k w i : ℕ) → w < 2 ^ 64 → has (ranks_in k (w ∷ [])) (64 * k + i) ≡ is_bit w i
word_bit k w i small = has-ranks_in k (w ∷ []) (64 * k + i) ∙ elim (cases_lt i 64) [
  | inl lt ↦
      let d : (64 * k + i) / 64 ≡ k = omega arith in
      let m : (64 * k + i) % 64 ≡ i = omega arith in
      let z : k - k ≡ 0 = omega arith in
      (λ j. is_bit (word_at k (w ∷ []) (d j)) (m j)) ∙ ap (λ x. is_bit x i) (word_at-from k (w ∷ []) k (omega arith) ∙ ap (λ n. get_or (w ∷ []) n 0) z)
  | inr le ↦ no_bit _ _ (word_at-beyond k (w ∷ []) ((64 * k + i) / 64) (omega arith)) ∙ sym (high_bit w i small le)
]

-- and no other has a number below them
pub word_low : (k w q : ℕ) → q < 64 * k → has (ranks_in k (w ∷ [])) q ≡ false
word_low k w q lt = has-ranks_in k (w ∷ []) q ∙ no_bit _ _ (word_at-below k (w ∷ []) (q / 64) (omega (arith, lt)))

-- or past them
pub word_high : (k w q : ℕ) → 64 * (k + 1) ≤ q → has (ranks_in k (w ∷ [])) q ≡ false
word_high k w q le = has-ranks_in k (w ∷ []) q ∙ no_bit _ _ (word_at-beyond k (w ∷ []) (q / 64) (omega (arith, le)))

-- the lowest bit of a word that is not 0
pub lowest : (w : ℕ) → 0 < w → w < 2 ^ 64 → (trailing_zeros w64 w < 64) × (is_bit w (trailing_zeros w64 w) ≡ true) × ((i : ℕ) → i < trailing_zeros w64 w → is_bit w i ≡ false)
lowest w some small =
    let f = bit_at-trailing_zeros w64 w some small in
    (f.0, ap (λ x. eqb x 1) f.1, λ i lt. ap (λ x. eqb x 1) (f.2 i lt))

-- a word with a bit is not 0
pub some_bit : (w i : ℕ) → is_bit w i ≡ true → 0 < w
some_bit w i one = elim (cases_lt 0 w) [ inl lt ↦ lt | inr none ↦ absurd (true≢false (sym one ∙ no_bit w i (omega arith))) ]

-- one word alone among all
pub one_word_or : (k v w j : ℕ) → word_at k (bit_or v w ∷ []) j ≡ bit_or (word_at k (v ∷ []) j) (word_at k (w ∷ []) j)
one_word_or k v w j = elim (cases_lt j k) [
  | inl below ↦ word_at-below k (bit_or v w ∷ []) j below ∙ sym (λ i. bit_or (word_at-below k (v ∷ []) j below i) (word_at-below k (w ∷ []) j below i))
  | inr up ↦ elim (cases_lt j (suc k)) [
    | inl here ↦
        let z : j - k ≡ 0 = omega (arith, here, up) in
        word_at-from k (bit_or v w ∷ []) j up ∙ ap (λ n. get_or (bit_or v w ∷ []) n 0) z
        ∙ sym (λ i. bit_or ((word_at-from k (v ∷ []) j up ∙ ap (λ n. get_or (v ∷ []) n 0) z) i) ((word_at-from k (w ∷ []) j up ∙ ap (λ n. get_or (w ∷ []) n 0) z) i))
    | inr past ↦
        let le : k + 1 ≤ j = omega (arith, past) in
        word_at-beyond k (bit_or v w ∷ []) j le ∙ sym (λ i. bit_or (word_at-beyond k (v ∷ []) j le i) (word_at-beyond k (w ∷ []) j le i))
  ]
]
