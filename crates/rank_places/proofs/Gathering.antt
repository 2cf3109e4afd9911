-- Words that are put one behind the other.
use Rattle.std.proofs.Common.{◌≡◌, ℕ, zero, suc, ◌+◌, ◌-◌, ◌*◌, ◌/◌, ◌%◌, ◌^◌, ◌<◌, ◌≤◌, nat_le, Bool, true, false, ◌&&◌, ◌||◌, List, [], ◌∷◌, ◌++◌, length, get_or, replicate, refl, sym, ap, ◌∙◌, subst, inl, inr, arith, w64}
use Rattle.std.specs.Prelude.{bit_or}
use Rattle.std.specs.Int.{trailing_zeros}
use Rattle.std.proofs.lemmas.Bool.{cases_lt, true≢false, or_cases, and_parts}
use Rattle.std.proofs.lemmas.Nat.{shr_le}
use Rattle.rank_set.specs.declared.TheConstants.{RANK_LIMIT, WORD_LIMIT}
use Rattle.rank_set.specs.Ranks.{Ranks, none, has, union, has-union, same_ranks}
use Rattle.rank_set.specs.Words.{is_bit, word_at, ranks_in}
use Rattle.rank_set.proofs.WordSets.{has-ranks_in, is_bit-or, ranks_in-same, ranks_in-none, union_none, all_zeros}
use Rattle.rank_set.proofs.WordLists.{ranks_in-push}
use Rattle.rank_set.proofs.Trimming.{padded_word}
use Rattle.rank_places.proofs.Bits.{shr_bit, shl_bit, word_bit, word_low, word_high, lowest, some_bit, one_word_or}

or_assoc : (x y z : Bool) → ((x || y) || z) ≡ (x || (y || z))
or_assoc true y z = refl
or_assoc false y z = refl

or_false : (x : Bool) → (x || false) ≡ x
or_false true = refl
or_false false = refl

pub union_assoc : (s t u : Ranks) → union (union s t) u ≡ union s (union t u)
union_assoc s t u = same_ranks _ _ (λ q.
    has-union (union s t) u q ∙ ap (λ b. b || has u q) (has-union s t q) ∙ or_assoc (has s q) (has t q) (has u q)
    ∙ sym (has-union s (union t u) q ∙ ap (λ b. has s q || b) (has-union t u q)))

-- a word of no bits has no numbers
pub no_word : (k : ℕ) → ranks_in k (0 ∷ []) ≡ none
no_word k = all_zeros k (0 ∷ []) zeros
  where
    zeros : (j : ℕ) → (let w : ℕ = 0 in get_or (w ∷ []) j 0 ≡ w)
    zeros zero = refl
    zeros (suc j) = refl

-- zeros behind words add no numbers
zeros_behind : (o : ℕ) (ws : List ℕ) (n : ℕ) → ranks_in o (ws ++ replicate n 0) ≡ ranks_in o ws
zeros_behind o ws n = ranks_in-same o (ws ++ replicate n 0) o ws (λ k. subst (λ m. word_at o ((replicate m 0 ++ ws) ++ replicate n 0) k ≡ word_at o ws k) (let e : o - o ≡ 0 = omega arith in e) (padded_word o ws o n (λ _. omega arith) k))

-- words, zeros, and a word
pub flushed : (o p : ℕ) (ws zs : List ℕ) (n k w : ℕ) → (length ws ≡ 0 → p ≡ k) → (0 < length ws → p ≡ o) → zs ≡ ws ++ replicate n 0 → p + length zs ≡ k → ranks_in p (zs ++ w ∷ []) ≡ union (ranks_in o ws) (ranks_in k (w ∷ []))
flushed o p ws zs n k w none some is end =
    ranks_in-push p zs w ∙ (λ i. union (ranks_in p (is i)) (ranks_in (end i) (w ∷ []))) ∙ ap (λ s. union s (ranks_in k (w ∷ []))) (zeros_behind p ws n ∙ same ws some)
  where
    same : (xs : List ℕ) → (0 < length xs → p ≡ o) → ranks_in p xs ≡ ranks_in o xs
    same [] at = ranks_in-none p ∙ sym (ranks_in-none o)
    same (x ∷ xs) at = ap (λ q. ranks_in q (x ∷ xs)) (at (omega arith))

-- one word with the bits of two
pub word_or : (k v w : ℕ) → ranks_in k (bit_or v w ∷ []) ≡ union (ranks_in k (v ∷ [])) (ranks_in k (w ∷ []))
word_or k v w = same_ranks _ _ (λ q.
    has-ranks_in k (bit_or v w ∷ []) q ∙ ap (λ x. is_bit x (q % 64)) (here q) ∙ is_bit-or (word_at k (v ∷ []) (q / 64)) (word_at k (w ∷ []) (q / 64)) (q % 64)
    ∙ (λ i. sym (has-ranks_in k (v ∷ []) q) i || sym (has-ranks_in k (w ∷ []) q) i) ∙ sym (has-union (ranks_in k (v ∷ [])) (ranks_in k (w ∷ [])) q))
  where
    here : (q : ℕ) → word_at k (bit_or v w ∷ []) (q / 64) ≡ bit_or (word_at k (v ∷ []) (q / 64)) (word_at k (w ∷ []) (q / 64))
    here q = one_word_or k v w (q / 64)

-- a word that is not 0 has a number
pub has_some : (k w : ℕ) → 0 < w → w < 2 ^ 64 → (q : ℕ) × (has (ranks_in k (w ∷ [])) q ≡ true) × (q / 64 ≡ k)
has_some k w some small =
    let f = lowest w some small in
    (64 * k + trailing_zeros w64 w, word_bit k w (trailing_zeros w64 w) small ∙ f.1, omega (arith, f.0))

-- and neither is one with its bits and others
pub some_or : (v w : ℕ) → 0 < w → w < 2 ^ 64 → 0 < bit_or v w
some_or v w some small =
    let f = lowest w some small in
    some_bit (bit_or v w) (trailing_zeros w64 w) (is_bit-or v w (trailing_zeros w64 w) ∙ ap (λ b. is_bit v (trailing_zeros w64 w) || b) f.1 ∙ or_true (is_bit v (trailing_zeros w64 w)))
  where
    or_true : (b : Bool) → (b || true) ≡ true
    or_true true = refl
    or_true false = refl

-- a number of the second set is one of both
pub last_there : (s t : Ranks) (q : ℕ) → has t q ≡ true → has (union s t) q ≡ true
last_there s t q one = has-union s t q ∙ ap (λ b. has s q || b) one ∙ or_true (has s q)
  where
    or_true : (b : Bool) → (b || true) ≡ true
    or_true true = refl
    or_true false = refl

-- a word of no bits adds nothing
pub union_no_word : (s : Ranks) (k : ℕ) → s ≡ union s (ranks_in k (0 ∷ []))
union_no_word s k = union_none s ∙ ap (union s) (sym (no_word k))

-- the first word is put where there is none
pub first_word : (o p k : ℕ) (ws : List ℕ) (i w : ℕ) → length ws ≡ 0 → union (ranks_in p ws) (ranks_in i (w ∷ [])) ≡ union (union (ranks_in o ws) (ranks_in k (0 ∷ []))) (ranks_in i (w ∷ []))
first_word o p k [] i w e = ap (λ s. union s (ranks_in i (w ∷ []))) (ranks_in-none p ∙ sym (ranks_in-none o) ∙ union_none (ranks_in o []) ∙ ap (union (ranks_in o [])) (sym (no_word k)))
first_word o p k (x ∷ ws) i w e = absurd (omega (arith, e))

-- bits from a place on, in the word of the place and the one after it
module _ (at bits k s low high : ℕ) (parts : at ≡ 64 * k + s) (inside : s < 64) (small : bits < 2 ^ 64) (low_is : low ≡ bits * 2 ^ s % 2 ^ 64) (high_is : high ≡ bits / 2 / 2 ^ (63 - s)) where
  low_small : low < 2 ^ 64
  low_small = let e : bits * 2 ^ s % 2 ^ 64 < 2 ^ 64 = omega arith in subst (λ n. n < 2 ^ 64) (sym low_is) e

  high_small : high < 2 ^ 64
  high_small = omega (arith, high_is, small, shr_le (bits / 2) (63 - s))

  low_bit_is : (i : ℕ) → i < 64 → is_bit low i ≡ (nat_le s i && is_bit bits (i - s))
  low_bit_is i lt = ap (λ x. is_bit x i) low_is ∙ shl_bit bits s i lt

  high_bit_is : (i : ℕ) → is_bit high i ≡ is_bit bits (64 - s + i)
  high_bit_is i =
      let e : 1 + (63 - s + i) ≡ 64 - s + i = omega (arith, inside) in
      ap (λ x. is_bit x i) high_is ∙ shr_bit (bits / 2) (63 - s) i ∙ shr_bit bits 1 (63 - s + i) ∙ ap (is_bit bits) e

  le_true : (a b : ℕ) → a ≤ b → nat_le a b ≡ true
  le_true a b le = grind (arith, le)

  le_false : (a b : ℕ) → b < a → nat_le a b ≡ false
  le_false a b lt = grind (arith, lt)

  le_moved : (i : ℕ) → nat_le at (64 * k + i) ≡ nat_le s i
  le_moved i = elim (cases_lt i s) [
    | inl lt ↦ le_false at (64 * k + i) (omega (arith, parts, lt)) ∙ sym (le_false s i lt)
    | inr le ↦ le_true at (64 * k + i) (omega (arith, parts, le)) ∙ sym (le_true s i le)
  ]

  pub two_words : (q : ℕ) → (has (ranks_in k (low ∷ [])) q || has (ranks_in (k + 1) (high ∷ [])) q) ≡ (nat_le at q && is_bit bits (q - at))
  two_words q = elim (cases_lt q (64 * k)) [
    | inl below ↦
        (λ i. word_low k low q below i || word_low (k + 1) high q (omega (arith, below)) i) ∙ sym (ap (λ b. b && is_bit bits (q - at)) (le_false at q (omega (arith, parts, below))))
    | inr up ↦ elim (cases_lt q (64 * (k + 1))) [
      | inl first ↦
          let i : ℕ = q - 64 * k in
          let e : 64 * k + i ≡ q = omega (arith, up) in
          let d : i - s ≡ q - at = omega (arith, up, parts) in
          ap (λ b. has (ranks_in k (low ∷ [])) q || b) (word_low (k + 1) high q first) ∙ or_false (has (ranks_in k (low ∷ [])) q)
          ∙ ap (has (ranks_in k (low ∷ []))) (sym e) ∙ word_bit k low i low_small ∙ low_bit_is i (omega (arith, first, up))
          ∙ (λ j. sym (le_moved i) j && is_bit bits (d j)) ∙ ap (λ x. nat_le at x && is_bit bits (q - at)) e
      | inr second ↦
          let i : ℕ = q - 64 * (k + 1) in
          let e : 64 * (k + 1) + i ≡ q = omega (arith, second) in
          let d : 64 - s + i ≡ q - at = omega (arith, second, parts, inside) in
          ap (λ b. b || has (ranks_in (k + 1) (high ∷ [])) q) (word_high k low q second)
          ∙ ap (has (ranks_in (k + 1) (high ∷ []))) (sym e) ∙ word_bit (k + 1) high i high_small ∙ high_bit_is i ∙ ap (is_bit bits) d
          ∙ sym (ap (λ b. b && is_bit bits (q - at)) (le_true at q (omega (arith, second, parts, inside))))
    ]
  ]

  -- the numbers are below the limit, so the words are
  pub low_within : ((i : ℕ) → is_bit bits i ≡ true → at + i < RANK_LIMIT) → 0 < low → k < WORD_LIMIT
  low_within below some =
      let f = lowest low some low_small in
      let one = and_parts (nat_le s (trailing_zeros w64 low)) (is_bit bits (trailing_zeros w64 low - s)) (sym (low_bit_is (trailing_zeros w64 low) f.0) ∙ f.1) in
      omega (arith, below (trailing_zeros w64 low - s) one.1, parts)

  pub high_within : ((i : ℕ) → is_bit bits i ≡ true → at + i < RANK_LIMIT) → 0 < high → k + 1 < WORD_LIMIT
  high_within below some =
      let f = lowest high some high_small in
      omega (arith, below (64 - s + trailing_zeros w64 high) (sym (high_bit_is (trailing_zeros w64 high)) ∙ f.1), parts, inside)

  -- what stands before the second
  pub high_above : (c : Ranks) → ((q : ℕ) → has c q ≡ true → q < at) → (q : ℕ) → has (union c (ranks_in k (low ∷ []))) q ≡ true → q / 64 ≤ k + 1
  high_above c above q one = elim (or_cases (has c q) (has (ranks_in k (low ∷ [])) q) (sym (has-union c (ranks_in k (low ∷ [])) q) ∙ one)) [
    | inl old ↦ omega (arith, above q old, parts, inside)
    | inr new ↦ elim (cases_lt q (64 * (k + 1))) [
      | inl lt ↦ omega (arith, lt)
      | inr past ↦ absurd (true≢false (sym new ∙ word_high k low q past))
    ]
  ]

  pub put_both : (c : Ranks) (q : ℕ) → has (union (union c (ranks_in k (low ∷ []))) (ranks_in (k + 1) (high ∷ []))) q ≡ (has c q || (nat_le at q && is_bit bits (q - at)))
  put_both c q =
      has-union (union c (ranks_in k (low ∷ []))) (ranks_in (k + 1) (high ∷ [])) q ∙ ap (λ b. b || has (ranks_in (k + 1) (high ∷ [])) q) (has-union c (ranks_in k (low ∷ [])) q)
      ∙ or_assoc (has c q) (has (ranks_in k (low ∷ [])) q) (has (ranks_in (k + 1) (high ∷ [])) q) ∙ ap (λ b. has c q || b) (two_words q)
