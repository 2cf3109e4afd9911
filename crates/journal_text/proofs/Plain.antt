-- Bytes above the space, of which names and numbers consist.
use Rattle.std.proofs.Common.{◌≡◌, ◌<◌, ◌+◌, ◌^◌, ◌%◌, ℕ, Bool, true, not, nat_eq, nat_lt, List, [], ◌∷◌, ◌++◌, refl, ◌∙◌, arith}
use Rattle.std.specs.List.{list_all}
use Rattle.std.specs.Fmt.{decimal}
use Rattle.std.proofs.lemmas.Bool.{and_parts, and_from, lt-ltb}
use Rattle.std.proofs.lemmas.Bool.Decides.{nat_tests}
use Rattle.std.proofs.lemmas.Fmt.{decimal_by_steps}
use Rattle.std.proofs.lemmas.List.Folds.{list_all-append}
use Rattle.journal_text.specs.Words.{has_no_space}

-- a byte above the space
abbrev pub is_plain : ℕ → Bool
is_plain b = nat_lt 32 b

-- a weaker test
pub weaker : {X : Type 0} (p q : X → Bool) → ((x : X) → p x ≡ true → q x ≡ true) → (xs : List X) → list_all p xs ≡ true → list_all q xs ≡ true
weaker p q h [] e = refl
weaker p q h (x ∷ xs) e = let parts = and_parts (p x) (list_all p xs) e in and_from (q x) (list_all q xs) (h x parts.0) (weaker p q h xs parts.1)

-- both parts pass a test
pub both : {X : Type 0} (p : X → Bool) (xs ys : List X) → list_all p xs ≡ true → list_all p ys ≡ true → list_all p (xs ++ ys) ≡ true
both p xs ys e f = list_all-append p xs ys ∙ and_from (list_all p xs) (list_all p ys) e f

plain_digit : (d : ℕ) → d < 10 → list_all is_plain ((48 + d) ∷ []) ≡ true
plain_digit d below = and_from (nat_lt 32 (48 + d)) true (lt-ltb 32 (48 + d) (omega arith)) refl

last_digit : (n : ℕ) → n % 10 < 10
last_digit n = omega arith

-- a number is written by such bytes
pub plain_number : (n : ℕ) → n < 2 ^ 64 → list_all is_plain (decimal n) ≡ true
plain_number = decimal_by_steps (λ n ds. list_all is_plain ds ≡ true) plain_digit (λ n ds large e. both is_plain ds ((48 + n % 10) ∷ []) e (plain_digit (n % 10) (last_digit n)))

no_space_by : (b : ℕ) → is_plain b ≡ true → not (nat_eq b 32) ≡ true
no_space_by b e = grind (arith, nat_tests)

-- so there is no space
pub plain_no_space : (text : List ℕ) → list_all is_plain text ≡ true → has_no_space text ≡ true
plain_no_space text e = weaker is_plain (λ b. not (nat_eq b 32)) no_space_by text e
