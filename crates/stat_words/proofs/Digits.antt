-- What `parse` makes of digits, and the number that they are read as.
use Rattle.std.proofs.Common.{◌≡◌, ◌∙◌, ◌<◌, ◌≤◌, ◌^◌, ◌&&◌, ℕ, Bool, true, false, List, [], ◌∷◌, length, refl, sym, ap, nat_le, nat_lt, arith}
use Rattle.std.specs.Prelude.{None, Result, Err}
use Rattle.std.specs.Char.{is_ascii_digit}
use Rattle.std.specs.List.{list_all}
use Rattle.std.specs.Result.{OkIff}
use Rattle.std.specs.Str.{all_ascii_digits}
use Rattle.std.specs.Str.Parse.{ParsesUnsigned, digits_value}
use Rattle.std.proofs.lemmas.Bool.{ltb-true}
use Rattle.std.proofs.lemmas.Bool.Decides.{nat_tests}
use Rattle.std.proofs.lemmas.Str.Parse.{numerals_by_value, tells_all_ascii_digits, parse_digits}
use Rattle.stat_words.specs.Values.{in_range, is_number, number_between}

same_test : (ds : List ℕ) → list_all is_ascii_digit ds ≡ all_ascii_digits ds
same_test [] = refl
same_test (d ∷ ds) = ap (λ b. is_ascii_digit d && b) (same_test ds)

-- what `parse` makes of digits: their number, where it fits
parsed : {E : Type 0} (ds : List ℕ) (r : Result ℕ E) → ParsesUnsigned 64 10 ds r
    → list_all is_ascii_digit ds ≡ true → OkIff r ((0 < length ds) × (digits_value 10 ds < 2 ^ 64)) (digits_value 10 ds)
parsed ds r h all =
    parse_digits (numerals_by_value (λ xs. all_ascii_digits xs ≡ true) tells_all_ascii_digits) 64 ds r h
    (sym (same_test ds) ∙ all)

first_of_three : (a b c : Bool) → (a && (b && c)) ≡ true → a ≡ true
first_of_three true b c e = refl
first_of_three false b c e = e

third_of_three : (a b c : Bool) → (a && (b && c)) ≡ true → c ≡ true
third_of_three true true c e = e
third_of_three true false true e = refl
third_of_three true false false e = e
third_of_three false b true e = refl
third_of_three false b false e = e

are_digits : (ds : List ℕ) → is_number ds ≡ true → list_all is_ascii_digit ds ≡ true
are_digits ds e = third_of_three (nat_lt 0 (length ds)) (nat_le (length ds) 20) (list_all is_ascii_digit ds) e

not_empty : (ds : List ℕ) → is_number ds ≡ true → 0 < length ds
not_empty ds e =
    ltb-true 0 (length ds) (first_of_three (nat_lt 0 (length ds)) (nat_le (length ds) 20) (list_all is_ascii_digit ds) e)

above : (low high n : ℕ) → high < n → in_range low high n ≡ None
above low high n gt = grind (arith, nat_tests)

not_below : (a b : ℕ) → (a < b → ⊥) → b ≤ a
not_below a b impossible = omega arith

-- what doesn't fit is above each range
pub number_is_above : (E : Type 0) (ds : List ℕ) (error : E) (low high : ℕ) → high < 2 ^ 64 → is_number ds ≡ true
    → ParsesUnsigned {E = E} 64 10 ds (Err error) → number_between low high ds ≡ None
number_is_above E ds error low high fits e h =
    let large : 2 ^ 64 ≤ digits_value 10 ds =
    not_below _ _ (λ lt. parsed {E = E} ds (Err error) h (are_digits ds e) (not_empty ds e, lt)) in
    rw e (above low high (digits_value 10 ds) (omega arith))
