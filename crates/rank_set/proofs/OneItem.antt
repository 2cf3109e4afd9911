-- Texts that are one item, and ranks that lie in one word.
use Rattle.std.proofs.Common.{rules, ◌≡◌, ℕ, suc, ◌+◌, ◌-◌, ◌/◌, ◌<◌, ◌≤◌, Bool, true, false, not, cond, nat_eq, nat_lt, List, [], ◌∷◌, length, get_or, take, drop, min, Ok, Err, Result, refl, sym, ap, ◌∙◌, subst, inl, inr, arith}
use Rattle.std.specs.Prelude.{bit_or}
use Rattle.std.specs.Char.{is_ascii_digit}
use Rattle.std.specs.Int.Bits.{or_zero_l}
use Rattle.std.proofs.lemmas.Bool.{cases_lt, cases_Bool, true≢false, eqb-true, eq-eqb, ne_eqb, lt-leb}
use Rattle.std.proofs.lemmas.List.{drop_all, take_all, length-take}
use Rattle.rank_set.specs.declared.TheConstants.{RANK_LIMIT}
use Rattle.rank_set.specs.declared.read.RanksError.{RanksError}
use Rattle.rank_set.specs.declared.read.RanksError.TheVariants.{BadNumber, Backward, OverLimit}
use Rattle.rank_set.specs.Digits.{digits_len, value_after}
use Rattle.rank_set.specs.Ranks.{none, union}
use Rattle.rank_set.specs.RanksText.{number_at, ends_at, second_at, after_first, item_from, item_at, item_len, ranks_text}
use Rattle.rank_set.specs.Runs.{ranks_between}
use Rattle.rank_set.specs.Words.{word_at, run_word, ranks_in, AreWords}
use Rattle.rank_set.proofs.Reading.{last_good, item_alone}
use Rattle.rank_set.proofs.RunSets.{no_run_word, some_run_word, ranks_in-run}
use Rattle.rank_set.proofs.WordSets.{word_at-below, word_at-from, word_at-beyond, ranks_in-none}

-- where no words are held, each is 0
no_words : (k : ℕ) → word_at 0 [] k ≡ 0
no_words k = word_at-beyond 0 [] k (omega arith)

-- a run in one word
module _ (first last w : ℕ) (some : first ≤ last) (limit : last < RANK_LIMIT) (one : first / 64 ≡ last / 64) (is : w ≡ run_word first last (first / 64)) where
  each_word : (k : ℕ) → word_at (first / 64) (w ∷ []) k ≡ run_word first last k
  each_word k = elim (cases_lt k (first / 64)) [
    | inl below ↦ word_at-below (first / 64) (w ∷ []) k below ∙ sym ((no_run_word first last k).0 below)
    | inr from ↦ elim (cases_lt (first / 64) k) [
      | inl beyond ↦ word_at-beyond (first / 64) (w ∷ []) k (omega (arith, beyond)) ∙ sym ((no_run_word first last k).1 (omega (arith, beyond, one)))
      | inr up_to ↦
          let at : k ≡ first / 64 = omega (arith, from, up_to) in
          let front : k - first / 64 ≡ 0 = omega (arith, at) in
          word_at-from (first / 64) (w ∷ []) k from ∙ ap (λ i. get_or (w ∷ []) i 0) front ∙ is ∙ ap (run_word first last) (sym at)
    ]
  ]

  pub one_word_trimmed : AreWords (first / 64) (w ∷ [])
  one_word_trimmed =
      let more : 0 < w = subst (λ x. 0 < x) (sym is) (some_run_word first last some).0 in
      record {
        within_limit = omega (arith, some, limit);
        nothing = λ e. absurd (omega (arith, e));
        first = λ _. more;
        last = λ _. more;
      }

  pub one_word_ranks : ranks_in (first / 64) (w ∷ []) ≡ union none (ranks_between first last)
  one_word_ranks =
      ranks_in-run 0 [] (first / 64) (w ∷ []) first last (λ k. each_word k ∙ sym (ap (λ v. bit_or v (run_word first last k)) (no_words k) ∙ or_zero_l (run_word first last k)))
      ∙ ap (λ s. union s (ranks_between first last)) (ranks_in-none 0)

-- a digit is no comma
digit_no_comma : (b : ℕ) → is_ascii_digit b ≡ true → not (nat_eq b 44) ≡ true
digit_no_comma b digit = search rules

-- a text of digits is one item
digits_are_item : (text : List ℕ) → digits_len text ≡ length text → item_len text ≡ length text
digits_are_item [] e = refl
digits_are_item (b ∷ rest) e = elim (cases_Bool (is_ascii_digit b)) [
  | inl digit ↦
      let less : digits_len rest ≡ length rest = let more : digits_len (b ∷ rest) ≡ 1 + digits_len rest = ap (λ t. cond t (1 + digits_len rest) 0) digit in omega (arith, more, e) in
      let all : 1 + length rest ≡ length (b ∷ rest) = omega arith in
      ap (λ t. cond t (1 + item_len rest) 0) (digit_no_comma b digit) ∙ ap (λ n. 1 + n) (digits_are_item rest less) ∙ all
  | inr other ↦ absurd (let stops : digits_len (b ∷ rest) ≡ 0 = ap (λ t. cond t (1 + digits_len rest) 0) other in omega (arith, stops, e))
]

-- the digits of the digits that a text begins with
digits_of_digits : (text : List ℕ) → digits_len (take (digits_len text) text) ≡ digits_len text
digits_of_digits [] = refl
digits_of_digits (b ∷ rest) = elim (cases_Bool (is_ascii_digit b)) [
  | inl digit ↦
      let n : ℕ = digits_len rest in
      let more : digits_len (b ∷ rest) ≡ suc n = ap (λ t. cond t (1 + n) 0) digit ∙ (let e : 1 + n ≡ suc n = omega arith in e) in
      ap (λ m. digits_len (take m (b ∷ rest))) more ∙ ap (λ t. cond t (1 + digits_len (take n rest)) 0) digit
      ∙ ap (λ m. 1 + m) (digits_of_digits rest) ∙ (let e : 1 + n ≡ suc n = omega arith in e) ∙ sym more
  | inr other ↦
      let none : digits_len (b ∷ rest) ≡ 0 = ap (λ t. cond t (1 + digits_len rest) 0) other in
      ap (λ m. digits_len (take m (b ∷ rest))) none ∙ sym none
]

-- a number that is below the limit is read
number_read : (offset : ℕ) (item : List ℕ) (number : ℕ) → 0 < digits_len item → value_after 0 (take (digits_len item) item) ≡ number → number < RANK_LIMIT → number_at offset item ≡ Ok number
number_read offset item number some is small =
    (λ i. cond (ne_eqb (digits_len item) 0 (λ e. omega (arith, e, some)) i) (Err (BadNumber offset)) (cond (lt-leb RANK_LIMIT (value_after 0 (take (digits_len item) item)) (omega (arith, is, small)) i) (Err (OverLimit offset)) (Ok (is i))))

-- the item goes on after its digits: what is left of it, and of the text
after_digits : (text : List ℕ) → (item_len text ≡ digits_len text + item_len (drop (digits_len text) text)) × (length text ≡ digits_len text + length (drop (digits_len text) text))
after_digits [] = (refl, refl)
after_digits (b ∷ rest) = elim (cases_Bool (is_ascii_digit b)) [
  | inl digit ↦
      let n : ℕ = digits_len rest in
      let one_more : 1 + n ≡ suc n = omega arith in
      let len : digits_len (b ∷ rest) ≡ suc n = ap (λ t. cond t (1 + n) 0) digit ∙ one_more in
      let item : item_len (b ∷ rest) ≡ 1 + item_len rest = ap (λ t. cond t (1 + item_len rest) 0) (digit_no_comma b digit) in
      let left : drop (digits_len (b ∷ rest)) (b ∷ rest) ≡ drop n rest = ap (λ k. drop k (b ∷ rest)) len in
      (omega (arith, len, item, ap item_len left, (after_digits rest).0), omega (arith, len, ap length left, (after_digits rest).1))
  | inr other ↦
      let len : digits_len (b ∷ rest) ≡ 0 = ap (λ t. cond t (1 + digits_len rest) 0) other in
      let left : drop (digits_len (b ∷ rest)) (b ∷ rest) ≡ b ∷ rest = ap (λ k. drop k (b ∷ rest)) len in
      (omega (arith, len, ap item_len left), omega (arith, len, ap length left))
]

refused : {A : Type 0} (e : RanksError) (x : A) → Err e ≡ Ok x → ⊥
refused {A} e x is = true≢false (ap failed is)
  where
    failed : Result A RanksError → Bool
    failed (Err e) = true
    failed (Ok x) = false

-- at the end nothing is left
nothing_more : (offset : ℕ) (t : List ℕ) (r x : ℕ × ℕ) → ends_at offset t r ≡ Ok x → length t ≡ 0
nothing_more offset [] r x is = refl
nothing_more offset (b ∷ t) r x is = absurd (refused (BadNumber offset) x is)

-- the second number ends the item
second_whole : (first offset : ℕ) (text : List ℕ) (n : Result ℕ RanksError) (x : ℕ × ℕ) → second_at first offset text n ≡ Ok x → item_len text ≡ length text
second_whole first offset text (Err e) x is = absurd (refused e x is)
second_whole first offset text (Ok second) x is =
    let end = ends_at (offset + digits_len text) (drop (digits_len text) text) (first, second) in
    elim (cases_Bool (nat_lt second first)) [
      | inl less ↦ absurd (refused (Backward offset) x (sym (ap (λ t. cond t (Err (Backward offset)) end) less) ∙ is))
      | inr more ↦
          let gone = nothing_more (offset + digits_len text) (drop (digits_len text) text) (first, second) x (sym (ap (λ t. cond t (Err (Backward offset)) end) more) ∙ is) in
          digits_are_item text (omega (arith, gone, (after_digits text).1))
    ]

-- what follows the first number ends the item
rest_whole : (first offset : ℕ) (rest : List ℕ) (x : ℕ × ℕ) → after_first first offset rest ≡ Ok x → item_len rest ≡ length rest
rest_whole first offset [] x is = refl
rest_whole first offset (b ∷ rest) x is =
    let second = second_at first (offset + 1) rest (number_at (offset + 1) rest) in
    elim (cases_Bool (nat_eq b 45)) [
      | inl dash ↦
          let whole = second_whole first (offset + 1) rest (number_at (offset + 1) rest) x (sym (ap (λ t. cond t second (Err (BadNumber offset))) dash) ∙ is) in
          let is_dash : b ≡ 45 = eqb-true b 45 dash in
          let item : item_len (b ∷ rest) ≡ 1 + item_len rest = ap (λ t. cond (not t) (1 + item_len rest) 0) (ne_eqb b 44 (λ e. omega (arith, e, is_dash))) in
          omega (arith, item, whole)
      | inr other ↦ absurd (refused (BadNumber offset) x (sym (ap (λ t. cond t second (Err (BadNumber offset))) other) ∙ is))
    ]

-- what reads as one item has no comma
item_whole : (offset : ℕ) (text : List ℕ) (x : ℕ × ℕ) → item_at offset text ≡ Ok x → item_len text ≡ length text
unfolding item_at
item_whole offset text x is = by (number_at offset text) is
  where
    by : (n : Result ℕ RanksError) → item_from offset text n ≡ Ok x → item_len text ≡ length text
    by (Err e) is = absurd (refused e x is)
    by (Ok first) is = omega (arith, after_digits text, rest_whole first (offset + digits_len text) (drop (digits_len text) text) x is)

all_dropped : (text : List ℕ) → drop (length text) text ≡ []
all_dropped [] = refl
all_dropped (b ∷ rest) = all_dropped rest

all_taken : (text : List ℕ) → text ≡ take (length text) text
all_taken [] = refl
all_taken (b ∷ rest) = ap (λ t. b ∷ t) (all_taken rest)

-- a text that reads as one item is read
pub item_is_text : (text : List ℕ) (first last : ℕ) → 0 < length text → item_at 0 text ≡ Ok (first, last) → ranks_text text ≡ Ok (union none (ranks_between first last))
item_is_text [] first last some good = absurd (omega (arith, some))
item_is_text (b ∷ rest) first last some good =
    let text : List ℕ = b ∷ rest in
    last_good 0 (length text) none text text [] (sym (item_whole 0 text (first, last) good)) (all_taken text) (sym (all_dropped text)) (first, last) good refl

-- a number at the front of a text, at whose end or before a comma it ends
module _ (text rest : List ℕ) (number len : ℕ) (value : number ≡ min RANK_LIMIT (value_after 0 (take (digits_len text) text))) (is : len ≡ digits_len text)
    (some : 0 < len) (small : number < RANK_LIMIT) (back : rest ≡ drop len text) (ends : item_len rest ≡ 0) where
  -- is the first item
  pub number_len : len ≡ item_len text
  number_len =
      let split = (after_digits text).0 in
      omega (arith, split, is, ap item_len (back ∙ ap (λ n. drop n text) is), ends)

  -- and its only rank
  pub number_alone : (offset : ℕ) → item_at offset (take (item_len text) text) ≡ Ok (number, number)
  number_alone offset =
      let n : ℕ = digits_len text in
      let item : List ℕ = take n text in
      let own : digits_len item ≡ n = digits_of_digits text in
      let short : length item ≤ n = omega (arith, length-take n text) in
      let same : take (digits_len item) item ≡ item = ap (λ m. take m item) own ∙ take_all n item short in
      let v : ℕ = value_after 0 item in
      let exact : v ≡ number = omega (arith, value, small) in
      let read : number_at offset item ≡ Ok number = number_read offset item number (omega (arith, own, is, some)) (ap (value_after 0) same ∙ exact) small in
      ap (λ m. item_at offset (take m text)) (sym number_len ∙ is)
      ∙ item_alone offset item number read (ap (λ m. drop m item) own ∙ drop_all n item short)

-- no item is left before the end of a text, nor before a comma
pub none_at_end : (text : List ℕ) → length text ≡ 0 → item_len text ≡ 0
none_at_end [] e = refl
none_at_end (b ∷ text) e = absurd (omega (arith, e))

pub none_at_comma : (text : List ℕ) → 0 < length text → get_or text 0 0 ≡ 44 → item_len text ≡ 0
none_at_comma [] some is = absurd (omega (arith, some))
none_at_comma (b ∷ text) some is = ap (λ t. cond (not t) (1 + item_len text) 0) (eq-eqb b 44 is)
