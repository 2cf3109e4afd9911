-- Words that write ranks write at least one.
use Rattle.std.proofs.Common.{◌≡◌, ◌≢◌, ◌∙◌, ℕ, ◌+◌, ◌≤◌, Bool, true, false, cond, not, ◌&&◌, nat_eq, nat_lt, List, [], ◌∷◌, length, take, drop, Result, Ok, Err, refl, sym, ap, subst, arith}
use Rattle.std.proofs.lemmas.Bool.{true≢false}
use Rattle.std.proofs.lemmas.Bool.Decides.{nat_tests}
use Rattle.rank_set.specs.declared.read.RanksError.{RanksError}
use Rattle.rank_set.specs.declared.read.RanksError.TheVariants.{BadNumber, Backward}
use Rattle.rank_set.specs.Ranks.{Ranks, none, has, Has, union, has-none, has-union}
use Rattle.rank_set.specs.Runs.{ranks_between}
use Rattle.rank_set.specs.Digits.{digits_len}
use Rattle.rank_set.specs.RanksText.{number_at, ends_at, second_at, after_first, item_from, item_at, item_len, ranks_at, ranks_text}
use Rattle.rank_set.proofs.RunSets.{has-ranks_between}
use Rattle.rank_set.proofs.Reading.{items_first, item_bad_ranks, item_good_ranks, no_items}
use Rattle.text_lines.specs.declared.text_error.TextError.{TextError}
use Rattle.text_lines.specs.RanksWords.{ranks_or_error, ranks_on}
use Rattle.sample_text.proofs.Sets.{or_first, or_second}

-- a range doesn't go backward
abbrev Increasing : Result (ℕ × ℕ) RanksError → Type 0
Increasing (Err e) = Unit {0}
Increasing (Ok range) = range.0 ≤ range.1

ends_increase : (place : ℕ) (text : List ℕ) (range : ℕ × ℕ) → range.0 ≤ range.1 → Increasing (ends_at place text range)
ends_increase place [] range le = le
ends_increase place (b ∷ rest) range le = tt

not_below : (a b : ℕ) → nat_lt a b ≡ false → b ≤ a
not_below a b e = grind (arith, nat_tests)

second_increasing : (first place : ℕ) (text : List ℕ) (r : Result ℕ RanksError) → Increasing (second_at first place text r)
second_increasing first place text (Err e) = tt
second_increasing first place text (Ok second) = by (nat_lt second first) refl
  where
    by : (t : Bool) → nat_lt second first ≡ t → Increasing (cond t (Err (Backward place)) (ends_at (place + digits_len text) (drop (digits_len text) text) (first, second)))
    by true e = tt
    by false e = ends_increase (place + digits_len text) (drop (digits_len text) text) (first, second) (not_below second first e)

after_increasing : (first place : ℕ) (text : List ℕ) → Increasing (after_first first place text)
after_increasing first place [] = let e : first ≤ first = omega arith in e
after_increasing first place (b ∷ rest) = by (nat_eq b 45)
  where
    by : (t : Bool) → Increasing (cond t (second_at first (place + 1) rest (number_at (place + 1) rest)) (Err (BadNumber place)))
    by true = second_increasing first (place + 1) rest (number_at (place + 1) rest)
    by false = tt

item_increasing : (place : ℕ) (text : List ℕ) → Increasing (item_at place text)
unfolding item_at
item_increasing place text = by (number_at place text)
  where
    by : (r : Result ℕ RanksError) → Increasing (item_from place text r)
    by (Err e) = tt
    by (Ok first) = after_increasing first (place + digits_len text) (drop (digits_len text) text)

-- a rank that is read
abbrev Keeps : ℕ → Result Ranks RanksError → Type 0
Keeps x (Err e) = Unit {0}
Keeps x (Ok ranks) = Has x ranks

keeps : (x : ℕ) (rest : List (List ℕ)) (place : ℕ) (ranks : Ranks) → Has x ranks → Keeps x (ranks_at place ranks rest)
keeps x [] place ranks there = subst (Keeps x) (sym (no_items place ranks)) there
keeps x (item ∷ rest) place ranks there = by (item_at place item) refl (λ p more. keeps x rest p more)
  where
    by : (r : Result (ℕ × ℕ) RanksError) → item_at place item ≡ r → ((p : ℕ) (more : Ranks) → Has x more → Keeps x (ranks_at p more rest)) → Keeps x (ranks_at place ranks (item ∷ rest))
    by (Err e) is later = subst (Keeps x) (sym (item_bad_ranks place ranks item rest e is)) tt
    by (Ok range) is later = subst (Keeps x) (sym (item_good_ranks place ranks item rest range is))
        (later (place + length item + 1) (union ranks (ranks_between range.0 range.1)) (has-union ranks (ranks_between range.0 range.1) x ∙ or_first (has ranks x) _ there))

-- some rank is read
abbrev HasSome : Result Ranks RanksError → Type 0
HasSome (Err e) = Unit {0}
HasSome (Ok ranks) = (x : ℕ) × Has x ranks

some_of : (x : ℕ) (r : Result Ranks RanksError) → Keeps x r → HasSome r
some_of x (Err e) h = tt
some_of x (Ok ranks) h = (x, h)

starts : (a b : ℕ) → a ≤ b → (not (nat_lt a a) && not (nat_lt b a)) ≡ true
starts a b le = grind (arith, nat_tests)

item_some : (place : ℕ) (ranks : Ranks) (item : List ℕ) (rest : List (List ℕ)) → HasSome (ranks_at place ranks (item ∷ rest))
item_some place ranks item rest = by (item_at place item) refl (item_increasing place item)
  where
    by : (r : Result (ℕ × ℕ) RanksError) → item_at place item ≡ r → Increasing r → HasSome (ranks_at place ranks (item ∷ rest))
    by (Err e) is le = subst HasSome (sym (item_bad_ranks place ranks item rest e is)) tt
    by (Ok range) is le = subst HasSome (sym (item_good_ranks place ranks item rest range is))
        (some_of range.0 _ (keeps range.0 rest (place + length item + 1) (union ranks (ranks_between range.0 range.1))
        (has-union ranks (ranks_between range.0 range.1) range.0 ∙ or_second (has ranks range.0) _ (has-ranks_between range.0 range.1 range.0 ∙ starts range.0 range.1 le))))

text_some : (text : List ℕ) → HasSome (ranks_text text)
text_some [] = tt
text_some (b ∷ rest) = subst (λ is. HasSome (ranks_at 0 none is)) (sym (items_first (b ∷ rest))) (item_some 0 none (take (item_len (b ∷ rest)) (b ∷ rest)) _)

abbrev WritesSome : Result Ranks TextError → Type 0
WritesSome (Err e) = Unit {0}
WritesSome (Ok ranks) = (x : ℕ) × Has x ranks

or_error_some : (number : ℕ) (r : Result Ranks RanksError) → HasSome r → WritesSome (ranks_or_error number r)
or_error_some number (Err e) h = tt
or_error_some number (Ok ranks) h = h

word_some : (number : ℕ) (word : List ℕ) → WritesSome (ranks_on number word)
unfolding ranks_on
word_some number word = or_error_some number (ranks_text word) (text_some word)

-- ranks that a word writes are not none
pub not_none : (number : ℕ) (word : List ℕ) (ranks : Ranks) → ranks_on number word ≡ Ok ranks → ranks ≢ none
not_none number word ranks read none_is =
    let some = subst WritesSome read (word_some number word) in
    true≢false (sym some.1 ∙ ap (λ s. has s some.0) none_is ∙ has-none some.0)
