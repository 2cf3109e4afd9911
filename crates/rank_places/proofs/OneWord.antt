-- The numbers of one word, from a number on.
use Rattle.std.proofs.Common.{◌≡◌, ℕ, ◌+◌, ◌-◌, ◌*◌, ◌/◌, ◌^◌, ◌<◌, ◌≤◌, true, false, [], ◌∷◌, sym, ap, ◌∙◌, inl, inr, arith, w64}
use Rattle.std.specs.Prelude.{bit_and}
use Rattle.std.specs.Int.{trailing_zeros}
use Rattle.std.proofs.lemmas.Bool.{cases_lt, true≢false}
use Rattle.std.proofs.lemmas.Nat.{shr_le, shr-shr}
use Rattle.rank_set.specs.Ranks.{Ranks, has}
use Rattle.rank_set.specs.Words.{is_bit, ranks_in}
use Rattle.rank_set.proofs.WordSets.{no_bit}
use Rattle.rank_places.proofs.Bits.{shr_bit, low_bit, no_low_bit, word_bit, word_high, word_low, lowest}

module _ (k w : ℕ) (small : w < 2 ^ 64) where
  abbrev numbers : Ranks
  numbers = ranks_in k (w ∷ [])

  -- none is below the word's first
  pub from_word : (x : ℕ) → has numbers x ≡ true → 64 * k ≤ x
  from_word x one = elim (cases_lt x (64 * k)) [
    | inl low ↦ absurd (true≢false (sym one ∙ word_low k w x low))
    | inr up ↦ up
  ]

  pub whole_rest : w ≡ w / 2 ^ (64 * k - 64 * k)
  whole_rest = let e : 64 * k - 64 * k ≡ 0 = omega arith in let f : w ≡ w / 1 = omega arith in f ∙ ap (λ j. w / 2 ^ j) (sym e)

  module _ (from rest : ℕ) (low : 64 * k ≤ from) (is : rest ≡ w / 2 ^ (from - 64 * k)) where
    rest_small : rest < 2 ^ 64
    rest_small = omega (arith, is, small, shr_le w (from - 64 * k))

    rest_bit : (i : ℕ) → is_bit rest i ≡ has numbers (from + i)
    rest_bit i =
        let e : 64 * k + (from - 64 * k + i) ≡ from + i = omega (arith, low) in
        ap (λ x. is_bit x i) is ∙ shr_bit w (from - 64 * k) i ∙ sym (word_bit k w (from - 64 * k + i) small) ∙ ap (has numbers) e

    -- where no bit is left, no number is
    pub nothing_left : rest ≡ 0 → (x : ℕ) → from ≤ x → has numbers x ≡ false
    nothing_left none x le =
        let e : from + (x - from) ≡ x = omega (arith, le) in
        ap (has numbers) (sym e) ∙ sym (rest_bit (x - from)) ∙ no_bit rest (x - from) none

    module _ (some : 0 < rest) where
      abbrev zeros : ℕ
      zeros = trailing_zeros w64 rest

      abbrev first : ℕ
      first = from + zeros

      -- the next number
      pub first_there : has numbers first ≡ true
      first_there = sym (rest_bit zeros) ∙ (lowest rest some rest_small).1

      pub first_gap : (x : ℕ) → from ≤ x → x < first → has numbers x ≡ false
      first_gap x le lt =
          let e : from + (x - from) ≡ x = omega (arith, le) in
          ap (has numbers) (sym e) ∙ sym (rest_bit (x - from)) ∙ (lowest rest some rest_small).2 (x - from) (omega (arith, le, lt))

      pub zeros_few : zeros < 64
      zeros_few = (lowest rest some rest_small).0

      pub first_near : first < 64 * k + 64
      first_near = elim (cases_lt first (64 * (k + 1))) [
        | inl lt ↦ omega (arith, lt)
        | inr past ↦ absurd (true≢false (sym first_there ∙ word_high k w first past))
      ]

      module _ (len : ℕ) (few : len < 64) where
        abbrev pub bits : ℕ
        bits = bit_and (rest / 2 ^ zeros) ((2 ^ 64 - 1) / 2 ^ (63 - len))

        -- its bits, and those of the numbers behind it
        pub bits_in : (i : ℕ) → i ≤ len → is_bit bits i ≡ has numbers (first + i)
        bits_in i le =
            let e : from + (zeros + i) ≡ first + i = omega arith in
            low_bit (rest / 2 ^ zeros) len i few le ∙ shr_bit rest zeros i ∙ rest_bit (zeros + i) ∙ ap (has numbers) e

        pub bits_past : (i : ℕ) → len < i → is_bit bits i ≡ false
        bits_past i lt = no_low_bit (rest / 2 ^ zeros) len i few lt

        pub bits_few : (i : ℕ) → is_bit bits i ≡ true → i ≤ len
        bits_few i one = elim (cases_lt len i) [
          | inl past ↦ absurd (true≢false (sym one ∙ bits_past i past))
          | inr le ↦ le
        ]

        -- what is left then
        pub next_rest : rest / 2 ^ zeros / 2 ^ len / 2 ≡ w / 2 ^ ((first + len + 1) - 64 * k)
        next_rest =
            let e : from - 64 * k + zeros + len + 1 ≡ (first + len + 1) - 64 * k = omega (arith, low) in
            ap (λ x. x / 2 ^ zeros / 2 ^ len / 2) is ∙ ap (λ x. x / 2 ^ len / 2) (shr-shr w (from - 64 * k) zeros) ∙ ap (λ x. x / 2) (shr-shr w (from - 64 * k + zeros) len)
            ∙ shr-shr w (from - 64 * k + zeros + len) 1 ∙ ap (λ j. w / 2 ^ j) e
