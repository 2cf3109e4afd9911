-- Numbers in decimal digits, names that end in them, and their positions among other names.
use Rattle.std.proofs.Common.{◌≡◌, ◌≢◌, ℕ, zero, suc, ◌+◌, ◌^◌, ◌≤◌, ◌<◌, ◌⊎◌, inl, inr, Bool, true, false, not, ◌||◌, ◌&&◌, nat_eq, List, [], ◌∷◌, ◌++◌, length, drop, map, get_or, None, Some, refl, sym, ap, ◌∙◌, subst, arith, rules, append_assoc, length-append}
use Rattle.std.specs.Char.{is_ascii_digit}
use Rattle.std.specs.Fmt.{decimal}
use Rattle.std.specs.List.{position_or_len, list_all, AllByRecursion, range_with_len}
use Rattle.std.specs.Str.{bytes_eq}
use Rattle.std.proofs.lemmas.Bool.{lt-ltb, le-ltb}
use Rattle.std.proofs.lemmas.Bool.Decides.{nat_tests}
use Rattle.std.proofs.lemmas.Fmt.{digits_decimal, digits_value-decimal, decimal_digit, decimal_injective, decimal_nonempty, first_decimal, length-decimal-le}
use Rattle.std.proofs.lemmas.List.FromFn.{map-range_with_len_more}
use Rattle.std.proofs.lemmas.Slice.Eq.{bytes_eq-Decides}
use Rattle.std.proofs.lemmas.Str.Parse.{IsNumeralModel, numerals_by_fold}
use Rattle.rank_set.specs.Digits.{value_after}
use Rattle.overlay_setup.specs.Names.{IsName, is_host_byte, begins, number_of}
use Rattle.generated_job.proofs.Statements.{AreNew}

-- ---- numbers

own : IsNumeralModel (λ ds. list_all is_ascii_digit ds ≡ true) (value_after 0)
own = numerals_by_fold _ (search rules) value_after (search rules)

pub decimal_digits : (n : ℕ) → n < 2 ^ 64 → list_all is_ascii_digit (decimal n) ≡ true
decimal_digits = digits_decimal own

pub decimal_value : (n : ℕ) → n < 2 ^ 64 → value_after 0 (decimal n) ≡ n
decimal_value = digits_value-decimal own

no_zero_first : (ds : List ℕ) → 48 < get_or ds 0 0 → begins 48 ds ≡ false
no_zero_first [] h = absurd (omega arith)
no_zero_first (d ∷ ds) h = grind (arith, nat_tests)

no_leading_zero : (n : ℕ) → n < 2 ^ 64 → (nat_eq (length (decimal n)) 1 || not (begins 48 (decimal n))) ≡ true
no_leading_zero zero small = ap (λ ds. nat_eq (length ds) 1 || not (begins 48 ds)) (decimal_digit 0 (omega arith))
no_leading_zero (suc n) small = ap (λ b. nat_eq (length (decimal (suc n))) 1 || not b) (no_zero_first (decimal (suc n)) (first_decimal (suc n) (omega arith) small)) ∙ or_true _
  where
    or_true : (b : Bool) → (b || true) ≡ true
    or_true true = refl
    or_true false = refl

-- ---- names of one letter and a number

pub letter_name : (h n : ℕ) → is_host_byte h ≡ true → n < 65536 → IsName (h ∷ 58 ∷ decimal n)
letter_name h n host small = record {
  host = h ∷ [];
  index = decimal n;
  parts = refl;
  host_bytes = ap (λ b. b && true) host;
  has_host = omega arith;
  host_within_limit = omega arith;
  digits = decimal_digits n (omega arith);
  has_digits = decimal_nonempty n (omega arith);
  digits_within_limit = length-decimal-le 5 n (omega arith) (omega arith) (omega arith);
  no_leading_zero = no_leading_zero n (omega arith);
}

false_from : (b : Bool) → (b ≡ true → ⊥) → b ≡ false
false_from true wrong = absurd (wrong refl)
false_from false wrong = refl

pub letter_names_differ : (h i j : ℕ) → i < 65536 → j < 65536 → i ≢ j → bytes_eq (h ∷ 58 ∷ decimal i) (h ∷ 58 ∷ decimal j) ≡ false
letter_names_differ h i j p q other = false_from _ (λ e. other (decimal_injective i j (omega arith) (omega arith) (ap (drop 2) ((bytes_eq-Decides (h ∷ 58 ∷ decimal i) (h ∷ 58 ∷ decimal j)).0 e))))

-- ---- positions

-- a name that none of some names is
abbrev pub IsNoneOf : List ℕ → List (List ℕ) → Type 0
IsNoneOf name names = AllByRecursion (λ x. bytes_eq name x ≡ false) names

pub none_append : (name : List ℕ) (xs ys : List (List ℕ)) → IsNoneOf name xs → IsNoneOf name ys → IsNoneOf name (xs ++ ys)
none_append name [] ys first second = second
none_append name (x ∷ xs) ys first second = (first.0, none_append name xs ys first.1 second)

position_none : (p : List ℕ → Bool) (xs : List (List ℕ)) → AllByRecursion (λ x. p x ≡ false) xs → position_or_len p xs ≡ length xs
position_none p [] all = refl
position_none p (x ∷ xs) all = rw all.0 (rw (position_none p xs all.1) (omega arith))

position_seam : (p : List ℕ → Bool) (xs : List (List ℕ)) (y : List ℕ) (ys : List (List ℕ)) → AllByRecursion (λ x. p x ≡ false) xs → p y ≡ true → position_or_len p (xs ++ y ∷ ys) ≡ length xs
position_seam p [] y ys all one = rw one refl
position_seam p (x ∷ xs) y ys all one = rw all.0 (rw (position_seam p xs y ys all.1 one) (omega arith))

-- a name that is none of the names has no number
pub number_none : (name : List ℕ) (names : List (List ℕ)) → IsNoneOf name names → number_of name names ≡ None
unfolding number_of
number_none name names all = rw (position_none (bytes_eq name) names all) (rw (le-ltb (length names) (length names) (omega arith)) refl)

-- a name's number is how many names come before its first position
pub number_seam : (name : List ℕ) (xs ys : List (List ℕ)) → IsNoneOf name xs → number_of name (xs ++ name ∷ ys) ≡ Some (length xs)
unfolding number_of
number_seam name xs ys all =
    let same : bytes_eq name name ≡ true = (bytes_eq-Decides name name).1 refl in
    let len : length (xs ++ name ∷ ys) ≡ length xs + length (name ∷ ys) = length-append xs (name ∷ ys) in
    rw (position_seam (bytes_eq name) xs name ys all same) (rw (lt-ltb (length xs) (length (xs ++ name ∷ ys)) (omega arith)) refl)

-- ---- rows of names

-- names by number, of which no two below a bound are the same
module _ (named : ℕ → List ℕ) (bound : ℕ) (differ : (i j : ℕ) → i < bound → j < bound → i ≢ j → bytes_eq (named i) (named j) ≡ false) where
  pub none_of_row : (j a n : ℕ) → j < bound → a + n ≤ bound → (j < a) ⊎ (a + n ≤ j) → IsNoneOf (named j) (map named (range_with_len a n))
  none_of_row j a zero low high apart = tt
  none_of_row j a (suc n) low high apart = (differ j a low (omega arith) (elim apart [ inl l ↦ (λ e. omega arith) | inr r ↦ (λ e. omega arith) ]), none_of_row j (a + 1) n low (omega arith) (elim apart [ inl l ↦ inl (omega arith) | inr r ↦ inr (omega arith) ]))

  -- a row behind another is new, where none of its names is one of some others
  pub row_is_new : (others : List (List ℕ)) → ((j : ℕ) → j < bound → IsNoneOf (named j) others) → (r n : ℕ) → r + n ≤ bound → AreNew (others ++ map named (range_with_len 0 r)) (map named (range_with_len r n))
  row_is_new others apart r zero high = tt
  row_is_new others apart r (suc n) high = (
    number_none (named r) (others ++ map named (range_with_len 0 r)) (none_append (named r) others _ (apart r (omega arith)) (none_of_row r 0 r (omega arith) (omega arith) (inr (omega arith)))),
    subst (λ names. AreNew names (map named (range_with_len (r + 1) n)))
        (ap (λ t. others ++ t) (map-range_with_len_more named 0 r r (omega arith)) ∙ sym (append_assoc others (map named (range_with_len 0 r)) (named r ∷ [])))
        (row_is_new others apart (r + 1) n (omega arith)),
  )
