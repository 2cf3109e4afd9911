-- Words that are compared one by one.
use Rattle.std.proofs.Common.{◌≡◌, ◌∙◌, ℕ, ◌+◌, ◌%◌, ◌^◌, ◌<◌, ◌≤◌, Bool, true, nat_eq, List, length, get_or, refl, sym, ap, inl, inr, arith, eqb-true, eq-eqb}
use Rattle.std.specs.Prelude.{◌&&◌, bit_or}
use Rattle.std.specs.Int.{bit_at}
use Rattle.std.specs.Int.Bits.{bit_xor, xor_self}
use Rattle.std.specs.Cmp.{both_ways}
use Rattle.std.proofs.lemmas.Nat.{le_or_l, le_or_r}
use Rattle.std.proofs.lemmas.Nat.Bits.{bit_at_xor, bit_at-lt, bit_at-zero, same_from_bits_below}
use Rattle.std.proofs.lemmas.Bool.{cases_lt, and_parts}
use Rattle.std.proofs.lemmas.List.{ext_get_or}

-- words without a bit that differs are the same
same_bits : (x y : ℕ) → x < 2 ^ 64 → y < 2 ^ 64 → bit_xor x y ≡ 0 → x ≡ y
same_bits x y small small_too none = same_from_bits_below 64 x y small small_too (λ i lt.
    equal (bit_at x i) (bit_at y i) (bit_at-lt x i) (bit_at-lt y i) (sym (bit_at_xor x y i) ∙ ap (λ w. bit_at w i) none ∙ bit_at-zero i))
  where
    equal : (a b : ℕ) → a < 2 → b < 2 → (a + b) % 2 ≡ 0 → a ≡ b
    equal a b lt lt_too even = omega (arith, lt, lt_too, even)

-- no bit differs so far, and none in two words more
pub no_bit_differs : (d x y : ℕ) → x < 2 ^ 64 → y < 2 ^ 64 → nat_eq (bit_or d (bit_xor x y)) 0 ≡ (nat_eq d 0 && nat_eq x y)
no_bit_differs d x y small small_too = both_ways _ _
    (λ e.
    let none : bit_or d (bit_xor x y) ≡ 0 = eqb-true _ _ e in
    (λ i. eq-eqb d 0 (omega (arith, none, le_or_l d (bit_xor x y))) i && eq-eqb x y (same_bits x y small small_too (omega (arith, none, le_or_r d (bit_xor x y)))) i))
    (λ e.
    let parts = and_parts (nat_eq d 0) (nat_eq x y) e in
    eq-eqb _ 0 ((λ i. bit_or (eqb-true d 0 parts.0 i) (bit_xor x (sym (eqb-true x y parts.1) i))) ∙ ap (bit_or 0) (xor_self x)))

-- the first words are the same, as far as the test says
pub record AreSame (same : Bool) (i : ℕ) (xs ys : List ℕ) : Type 0 where
  pub forth : same ≡ true → (j : ℕ) → j < i → get_or xs j 0 ≡ get_or ys j 0
  pub back : xs ≡ ys → same ≡ true

pub none_same : (xs ys : List ℕ) → AreSame true 0 xs ys
none_same xs ys = record { forth = λ e j lt. absurd (omega (arith, lt)); back = λ e. refl }

pub one_more : (same : Bool) (i : ℕ) (xs ys : List ℕ) (x y : ℕ) → x ≡ get_or xs i 0 → y ≡ get_or ys i 0 → AreSame same i xs ys → AreSame (same && nat_eq x y) (i + 1) xs ys
one_more same i xs ys x y left right h = record {
  forth = λ e j lt. (
      let parts = and_parts same (nat_eq x y) e in
      elim (cases_lt j i) [
        | inl below ↦ h.forth parts.0 j below
        | inr from ↦ let at : j ≡ i = omega (arith, lt, from) in ap (λ k. get_or xs k 0) at ∙ sym left ∙ eqb-true x y parts.1 ∙ right ∙ ap (λ k. get_or ys k 0) (sym at)
      ]
      );
  back = λ e. (λ k. h.back e k && eq-eqb x y (left ∙ ap (λ zs. get_or zs i 0) e ∙ sym right) k);
}

pub all_same : (same : Bool) (i : ℕ) (xs ys : List ℕ) → length xs ≡ length ys → length xs ≤ i → AreSame same i xs ys → (same ≡ true → xs ≡ ys) × (xs ≡ ys → same ≡ true)
all_same same i xs ys long all h = (λ e. ext_get_or 0 xs ys long (λ j lt. h.forth e j (omega (arith, lt, all))), h.back)
