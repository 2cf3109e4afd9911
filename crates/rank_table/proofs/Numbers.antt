-- The numbers of a table's ranks, word by word.
use Rattle.std.proofs.Common.{◌≡◌, ◌≢◌, ℕ, ◌+◌, ◌-◌, ◌/◌, ◌%◌, ◌<◌, ◌≤◌, List, length, get_or, set, replicate, refl, ap, sym, ◌∙◌, inl, inr, arith}
use Rattle.std.proofs.lemmas.Bool.{cases_lt}
use Rattle.std.proofs.lemmas.List.{get_or-replicate, get_or_past, get_or_read_under, get_or-set_same, get_or-set_other, length-replicate}
use Rattle.std.proofs.lemmas.List.FromFn.{get_or-map-range_with_len, length-map-range_with_len}
use Rattle.rank_table.specs.declared.WordNumbers.{WordNumbers}
use Rattle.rank_table.specs.declared.WordNumbers.TheVariants.{Same}
use Rattle.rank_table.specs.Numbers.{numbers_of, number_at, numbers_below}

-- each rank of a word with one number has it
pub same_at : (n i : ℕ) → i < 64 → get_or (numbers_of (Same n)) i 0 ≡ n
same_at n i lt = get_or-replicate 64 i n 0 lt

-- a word that has the number
abbrev pub word_at : List WordNumbers → ℕ → WordNumbers
word_at words k = get_or words k (Same 0)

-- the ranks of a word have what its places have
pub in_word : (words : List WordNumbers) (k r : ℕ) → r / 64 ≡ k → number_at words r ≡ get_or (numbers_of (word_at words k)) (r % 64) 0
in_word words k r is = ap (λ j. get_or (numbers_of (word_at words j)) (r % 64) 0) is

-- ranks from `at` on to before `base + stop`, in one word, of which places have a number
pub run_step : (words : List WordNumbers) (number first at stop same : ℕ) → stop ≤ 64 → same ≤ stop
    → ((i : ℕ) → at % 64 ≤ i → i < same → get_or (numbers_of (word_at words (at / 64))) i 0 ≡ number)
    → ((r : ℕ) → first ≤ r → r < at → number_at words r ≡ number)
    → (r : ℕ) → first ≤ r → r < at - at % 64 + same → number_at words r ≡ number
run_step words number first at stop same high within here before r ge lt = elim (cases_lt r at) [
  | inl low ↦ before r ge low
  | inr from ↦ in_word words (at / 64) r (omega (arith, from, lt, high, within)) ∙ here (r % 64) (omega (arith, from, lt, high, within)) (omega (arith, from, lt, high, within))
]

-- the rank where the run ends
pub end_at : (words : List WordNumbers) (at same : ℕ) → same < 64 → number_at words (at - at % 64 + same) ≡ get_or (numbers_of (word_at words (at / 64))) same 0
end_at words at same lt = in_word words (at / 64) (at - at % 64 + same) (omega (arith, lt)) ∙ ap (λ i. get_or (numbers_of (word_at words (at / 64))) i 0) (omega (arith, lt))

-- one word changes
module _ (words : List WordNumbers) (k : ℕ) (word : WordNumbers) (inside : k < length words) where
  pub other_word : (r : ℕ) → r / 64 ≢ k → number_at (set words k word) r ≡ number_at words r
  other_word r ne = ap (λ w. get_or (numbers_of w) (r % 64) 0) (get_or-set_other words k (r / 64) word (Same 0) ne)

  pub own_word : (r : ℕ) → r / 64 ≡ k → number_at (set words k word) r ≡ get_or (numbers_of word) (r % 64) 0
  own_word r is = in_word (set words k word) k r is ∙ ap (λ w. get_or (numbers_of w) (r % 64) 0) (get_or-set_same words k word (Same 0) inside)

-- all words have the number 0
pub zero_words : (n r : ℕ) → number_at (replicate n (Same 0)) r ≡ 0
zero_words n r = elim (cases_lt (r / 64) n) [
  | inl lt ↦ ap (λ w. get_or (numbers_of w) (r % 64) 0) (get_or-replicate n (r / 64) (Same 0) (Same 0) lt) ∙ same_at 0 (r % 64) (omega arith)
  | inr le ↦ ap (λ w. get_or (numbers_of w) (r % 64) 0) (get_or_past (replicate n (Same 0)) (r / 64) (Same 0) (omega (arith, le, length-replicate n (Same 0)))) ∙ same_at 0 (r % 64) (omega arith)
]

-- what a contract sees
pub below_end : (words : List WordNumbers) (end r : ℕ) → r < end → get_or (numbers_below words end) r 0 ≡ number_at words r
below_end words end r lt = get_or-map-range_with_len (number_at words) 0 end r r 0 lt (omega arith)

pub long : (words : List WordNumbers) (end : ℕ) → length (numbers_below words end) ≡ end
long words end = length-map-range_with_len (number_at words) 0 end

pub past_end : (words : List WordNumbers) (end r : ℕ) → end ≤ r → get_or (numbers_below words end) r 0 ≡ 0
past_end words end r le = get_or_past (numbers_below words end) r 0 (omega (arith, le, long words end))

-- a rank whose number is the same keeps what a contract sees
pub kept : (words words' : List WordNumbers) (end r : ℕ) → number_at words' r ≡ number_at words r → get_or (numbers_below words' end) r 0 ≡ get_or (numbers_below words end) r 0
kept words words' end r same = elim (cases_lt r end) [
  | inl lt ↦ below_end words' end r lt ∙ same ∙ sym (below_end words end r lt)
  | inr le ↦ past_end words' end r le ∙ sym (past_end words end r le)
]

-- in a table of zeros each number is 0
pub zeros : (words : List WordNumbers) (n end r : ℕ) → words ≡ replicate n (Same 0) → get_or (numbers_below words end) r 0 ≡ 0
zeros words n end r is = elim (cases_lt r end) [
  | inl lt ↦ below_end words end r lt ∙ ap (λ ws. number_at ws r) is ∙ zero_words n r
  | inr le ↦ past_end words end r le
]

-- a word that was read
pub word_read : (words : List WordNumbers) (k : ℕ) (word : WordNumbers) → word ≡ get_or words k word → k < length words → word_at words k ≡ word
word_read words k word is inside = sym (get_or_read_under words k (length words) word (Same 0) is inside refl)
