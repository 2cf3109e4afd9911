-- Words that write a number.
use Rattle.std.proofs.Common.{◌≡◌, ◌∙◌, ℕ, ◌≤◌, Bool, true, false, cond, nat_eq, nat_le, List, [], ◌∷◌, length, None, Some, refl, sym, ap, subst, arith, w64, to_z, of_z, FitsSigned}
use Rattle.std.proofs.Math.IntN.{ℤ, pos, negsuc, neg_ℤ}
use Rattle.std.specs.Option.{option_map, unwrap_or}
use Rattle.std.proofs.lemmas.Bool.{and_parts}
use Rattle.std.proofs.lemmas.Bool.Decides.{nat_tests}
use Rattle.std.proofs.lemmas.Int.{ints, to_z-of_z}
use Rattle.rank_set.specs.Digits.{value_after}
use Rattle.value_text.specs.Numbers.{IsSmall}
use Rattle.value_text.specs.Words.{is_size, size_in, number_text}

pub number_none : (word : List ℕ) → length word ≡ 0 → None ≡ number_text word
unfolding number_text
number_none [] none = refl
number_none (b ∷ rest) none = absurd (omega (arith, none))

module _ (word : List ℕ) (b : ℕ) (rest : List ℕ) (is : word ≡ b ∷ rest) where
  pub number_minus : nat_eq b 45 ≡ true → number_text word ≡ option_map (λ size. neg_ℤ (pos size)) (size_in rest)
  unfolding number_text
  number_minus minus = ap number_text is ∙ ap (λ t. cond t (option_map (λ size. neg_ℤ (pos size)) (size_in rest)) (option_map pos (size_in (b ∷ rest)))) minus

  pub number_plain : nat_eq b 45 ≡ false → number_text word ≡ option_map pos (size_in word)
  unfolding number_text
  number_plain plain =
      ap number_text is
      ∙ ap (λ t. cond t (option_map (λ size. neg_ℤ (pos size)) (size_in rest)) (option_map pos (size_in (b ∷ rest)))) plain
      ∙ ap (λ w. option_map pos (size_in w)) (sym is)

-- a number that a word writes is small
size_is_small : (digits : List ℕ) → is_size digits ≡ true → value_after 0 digits ≤ 1000000000000
size_is_small digits e = at_most (value_after 0 digits) (and_parts _ (nat_le (value_after 0 digits) 1000000000000) e).1
  where
    at_most : (n : ℕ) → nat_le n 1000000000000 ≡ true → n ≤ 1000000000000
    at_most n e = grind (arith, nat_tests)

plain_small : (n : ℕ) → n ≤ 1000000000000 → IsSmall (pos n)
plain_small n le = (omega (arith, ints, le), omega (arith, ints, le))

minus_small : (n : ℕ) → n ≤ 1000000000000 → IsSmall (neg_ℤ (pos n))
minus_small n le = (omega (arith, ints, le), omega (arith, ints, le))

one_of : (digits : List ℕ) (sign : ℕ → ℤ) (z : ℤ) → ((n : ℕ) → n ≤ 1000000000000 → IsSmall (sign n)) → option_map sign (size_in digits) ≡ Some z → IsSmall z
one_of digits sign z small e = by (is_size digits) refl e
  where
    by : (b : Bool) → is_size digits ≡ b → option_map sign (cond b (Some (value_after 0 digits)) None) ≡ Some z → IsSmall z
    by true size e = let same : sign (value_after 0 digits) ≡ z = ap (λ o. unwrap_or o (sign (value_after 0 digits))) e in subst IsSmall same (small (value_after 0 digits) (size_is_small digits size))
    by false size e = cc

pub number_small : (word : List ℕ) (z : ℤ) → number_text word ≡ Some z → IsSmall z
unfolding number_text
number_small [] z e = cc
number_small (b ∷ rest) z e = by (nat_eq b 45) e
  where
    by : (t : Bool) → cond t (option_map (λ size. neg_ℤ (pos size)) (size_in rest)) (option_map pos (size_in (b ∷ rest))) ≡ Some z → IsSmall z
    by true e = one_of rest (λ size. neg_ℤ (pos size)) z minus_small e
    by false e = one_of (b ∷ rest) pos z plain_small e

-- a small number fits its type
small_fits : (z : ℤ) → IsSmall z → FitsSigned w64 z
small_fits (pos n) small = record { sfits = omega (arith, ints, small.1) }
small_fits (negsuc n) small = record { sfits = omega (arith, ints, small.0) }

pub stays : (z : ℤ) → IsSmall z → to_z w64 (of_z w64 z) ≡ z
stays z small = to_z-of_z w64 z (small_fits z small)

-- the number of a word whose size is read
module _ (word : List ℕ) (b : ℕ) (rest : List ℕ) (is : word ≡ b ∷ rest) (size : ℕ) (low : size ≤ 1000000000000) (z : ℤ) where
  pub minus_read : nat_eq b 45 ≡ true → Some size ≡ size_in rest → z ≡ neg_ℤ (pos size) → Some (to_z w64 (of_z w64 z)) ≡ number_text word
  minus_read minus read signed =
      ap Some (stays z (subst IsSmall (sym signed) (minus_small size low)) ∙ signed)
      ∙ ap (option_map (λ size. neg_ℤ (pos size))) read
      ∙ sym (number_minus word b rest is minus)

  pub plain_read : nat_eq b 45 ≡ false → Some size ≡ size_in word → z ≡ pos size → Some (to_z w64 (of_z w64 z)) ≡ number_text word
  plain_read plain read signed =
      ap Some (stays z (subst IsSmall (sym signed) (plain_small size low)) ∙ signed)
      ∙ ap (option_map pos) read
      ∙ sym (number_plain word b rest is plain)

-- a word whose size is none
module _ (word : List ℕ) (b : ℕ) (rest : List ℕ) (is : word ≡ b ∷ rest) where
  pub minus_none : nat_eq b 45 ≡ true → None ≡ size_in rest → None ≡ number_text word
  minus_none minus none = ap (option_map (λ size. neg_ℤ (pos size))) none ∙ sym (number_minus word b rest is minus)

  pub plain_none : nat_eq b 45 ≡ false → None ≡ size_in word → None ≡ number_text word
  plain_none plain none = ap (option_map pos) none ∙ sym (number_plain word b rest is plain)
