-- Texts of a rank and of a run of ranks, as they are read.
use Rattle.std.proofs.Common.{◌≡◌, ℕ, ◌+◌, ◌≤◌, ◌<◌, Bool, true, false, not, cond, nat_eq, nat_le, List, [], ◌∷◌, ◌++◌, length, take, drop, Ok, Err, refl, sym, ap, ◌∙◌, subst, arith, append-nil, length-append}
use Rattle.std.specs.Char.{is_ascii_digit}
use Rattle.std.specs.Fmt.{decimal}
use Rattle.std.specs.List.{prefix_len, list_all}
use Rattle.std.proofs.Math.Seq.{drop-append_seam, take-append_seam}
use Rattle.std.proofs.lemmas.Bool.{and_parts}
use Rattle.std.proofs.lemmas.Bool.Decides.{nat_tests}
use Rattle.std.proofs.lemmas.Fmt.{decimal_nonempty}
use Rattle.rank_set.specs.Ranks.{none, union, union-none}
use Rattle.rank_set.specs.Runs.{ranks_between}
use Rattle.rank_set.specs.Digits.{digits_len, value_after}
use Rattle.rank_set.specs.RanksText.{number, number_at, second_at, item_at, items, before_first, ranks_at, ranks_text}
use Rattle.rank_set.specs.declared.read.RanksError.TheVariants.{BadNumber, OverLimit}
use Rattle.rank_set.proofs.Reading.{item_alone, item_run, second_ends, item_good_ranks, no_items}
use Rattle.generated_job.proofs.Lines.{all_both, all_weaker}
use Rattle.generated_job.proofs.Names.{decimal_digits, decimal_value}
use Rattle.generated_job.proofs.Tokens.{prefix_stops}

prefix_all : (p : ℕ → Bool) (xs : List ℕ) → list_all p xs ≡ true → prefix_len p xs ≡ length xs
prefix_all p [] all = refl
prefix_all p (x ∷ xs) all =
    let parts = and_parts (p x) (list_all p xs) all in
    rw parts.0 (rw (prefix_all p xs parts.1) (omega arith))

some_digits : (k : ℕ) → 0 < k → nat_eq k 0 ≡ false
some_digits k some = grind (arith, nat_tests)

within_limit : (n : ℕ) → n < 1048576 → nat_le 1048576 n ≡ false
within_limit n few = grind (arith, nat_tests)

-- a number that a text begins with
module _ (n : ℕ) (few : n < 1048576) (rest : List ℕ) (len : digits_len (decimal n ++ rest) ≡ length (decimal n)) where
  value_here : number (decimal n ++ rest) ≡ n
  value_here = ap (λ k. value_after 0 (take k (decimal n ++ rest))) len ∙ ap (value_after 0) (take-append_seam (decimal n) rest) ∙ decimal_value n (omega arith)

  number_here : (place : ℕ) → number_at place (decimal n ++ rest) ≡ Ok n
  number_here place =
      ap (λ k. cond (nat_eq k 0) (Err (BadNumber place)) (cond (nat_le 1048576 (number (decimal n ++ rest))) (Err (OverLimit place)) (Ok (number (decimal n ++ rest))))) len
      ∙ ap (λ b. cond b (Err (BadNumber place)) (cond (nat_le 1048576 (number (decimal n ++ rest))) (Err (OverLimit place)) (Ok (number (decimal n ++ rest))))) (some_digits (length (decimal n)) (decimal_nonempty n (omega arith)))
      ∙ ap (λ m. cond (nat_le 1048576 m) (Err (OverLimit place)) (Ok m)) value_here
      ∙ ap (λ b. cond b (Err (OverLimit place)) (Ok n)) (within_limit n few)

  left_here : drop (digits_len (decimal n ++ rest)) (decimal n ++ rest) ≡ rest
  left_here = ap (λ k. drop k (decimal n ++ rest)) len ∙ drop-append_seam (decimal n) rest

alone_len : (n : ℕ) → n < 1048576 → digits_len (decimal n ++ []) ≡ length (decimal n)
alone_len n few = ap digits_len (append-nil (decimal n)) ∙ prefix_all is_ascii_digit (decimal n) (decimal_digits n (omega arith))

dash_len : (n : ℕ) (rest : List ℕ) → n < 1048576 → digits_len (decimal n ++ 45 ∷ rest) ≡ length (decimal n)
dash_len n rest few = prefix_stops is_ascii_digit (decimal n) 45 rest (decimal_digits n (omega arith)) refl

-- ---- items

no_comma : (b : ℕ) → (is_ascii_digit b ≡ true) → nat_eq b 44 ≡ false
no_comma b e = grind (arith, nat_tests)

-- no comma among some bytes
abbrev is_other : ℕ → Bool
is_other b = not (nat_eq b 44)

digit_other : (b : ℕ) → is_ascii_digit b ≡ true → is_other b ≡ true
digit_other b e = ap not (no_comma b e)

not_true : (b : Bool) → not b ≡ true → b ≡ false
not_true true e = sym e
not_true false e = refl

one_item : (text : List ℕ) → list_all is_other text ≡ true → items text ≡ text ∷ []
unfolding items
one_item [] all = refl
one_item (b ∷ text) all =
    let parts = and_parts (is_other b) (list_all is_other text) all in
    rw (not_true (nat_eq b 44) parts.0, items) (ap (before_first b) (one_item text parts.1))

text_items : (text : List ℕ) → 0 < length text → ranks_text text ≡ ranks_at 0 none (items text)
text_items [] some = absurd (omega arith)
text_items (b ∷ text) some = refl

one_read : (text : List ℕ) (first last : ℕ) → 0 < length text → list_all is_other text ≡ true → item_at 0 text ≡ Ok (first, last) → ranks_text text ≡ Ok (ranks_between first last)
one_read text first last some all item =
    text_items text some
    ∙ ap (ranks_at 0 none) (one_item text all)
    ∙ item_good_ranks 0 none text [] (first, last) item
    ∙ no_items (0 + length text + 1) (union none (ranks_between first last))
    ∙ ap Ok (union-none (ranks_between first last))

decimal_other : (n : ℕ) → n < 1048576 → list_all is_other (decimal n) ≡ true
decimal_other n few = all_weaker is_ascii_digit is_other digit_other (decimal n) (decimal_digits n (omega arith))

-- a rank alone
pub rank_read : (n : ℕ) → n < 1048576 → ranks_text (decimal n) ≡ Ok (ranks_between n n)
rank_read n few = one_read (decimal n) n n (decimal_nonempty n (omega arith)) (decimal_other n few) item
  where
    item : item_at 0 (decimal n) ≡ Ok (n, n)
    item = subst (λ t. item_at 0 t ≡ Ok (n, n)) (append-nil (decimal n)) (item_alone 0 (decimal n ++ []) n (number_here n few [] (alone_len n few) 0) (left_here n few [] (alone_len n few)))

-- a run of ranks
module _ (a b : ℕ) (le : a ≤ b) (few : b < 1048576) where
  abbrev text : List ℕ
  text = decimal a ++ 45 ∷ decimal b

  abbrev place : ℕ
  place = 0 + digits_len text + 1

  pub run_read : ranks_text (decimal a ++ 45 ∷ decimal b) ≡ Ok (ranks_between a b)
  run_read =
      one_read text a b (omega (arith, length-append (decimal a) (45 ∷ decimal b))) (all_both is_other (decimal a) (45 ∷ decimal b) (decimal_other a (omega arith)) (decimal_other b few))
      (item_run 0 text a (number_here a (omega arith) (45 ∷ decimal b) (dash_len a (decimal b) (omega arith)) 0) 45 (decimal b) (left_here a (omega arith) (45 ∷ decimal b) (dash_len a (decimal b) (omega arith))) refl
      ∙ ap (second_at a place (decimal b)) (subst (λ t. number_at place t ≡ Ok b) (append-nil (decimal b)) (number_here b few [] (alone_len b few) place))
      ∙ second_ends a b place (decimal b) le (subst (λ t. drop (digits_len t) t ≡ []) (append-nil (decimal b)) (left_here b few [] (alone_len b few))))
