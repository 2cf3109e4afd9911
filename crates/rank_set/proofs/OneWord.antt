-- The ranks of a single word.
use Rattle.std.proofs.Common.{◌≡◌, ℕ, zero, suc, refl, ◌+◌, ◌-◌, ◌*◌, ◌/◌, ◌%◌, ◌^◌, ◌<◌, ◌≤◌, nat_lt, true, false, eqb, List, [], ◌∷◌, get_or, sym, ap, ◌∙◌, inl, inr, arith, w64}
use Rattle.std.proofs.Math.Nat.{div-lt_iff_lt-mul, div-add-mod, mod-lt, mul_comm}
use Rattle.std.specs.Prelude.{bit_and}
use Rattle.std.specs.Int.{bit_at, bit_not, trailing_zeros}
use Rattle.std.specs.Int.Bits.{and_zero_l}
use Rattle.std.specs.List.{list_all}
use Rattle.std.proofs.lemmas.Bool.{cases_Bool, cases_lt, cases_eq, true≢false, eqb-true, eqb-false, ltb-true, lt-ltb}
use Rattle.std.proofs.lemmas.Nat.{pow_pos}
use Rattle.std.proofs.lemmas.Nat.Bits.{bit_at-trailing_zeros, bit_at_above, bit_at_cat_high}
use Rattle.rank_set.specs.Ranks.{none, has, in_order, is_subset, has-in_order, all_pass, all_have}
use Rattle.rank_set.specs.Words.{is_bit, word_at, ranks_in}
use Rattle.rank_set.proofs.WordSets.{all_zeros, word_at-below, word_at-from, word_at-beyond, has-ranks_in, subset_words, not_subset_words}
use Rattle.rank_set.proofs.Spanning.{rank_within}

-- the word itself
one_here : (o w : ℕ) → word_at o (w ∷ []) o ≡ w
one_here o w = let e : o - o ≡ 0 = omega arith in word_at-from o (w ∷ []) o (omega arith) ∙ ap (λ i. get_or (w ∷ []) i 0) e

-- all others are 0
one_other : (o w k : ℕ) → (k ≡ o → ⊥) → word_at o (w ∷ []) k ≡ 0
one_other o w k other = elim (cases_lt k o) [
  | inl lt ↦ word_at-below o (w ∷ []) k lt
  | inr le ↦ word_at-beyond o (w ∷ []) k (elim (cases_lt o k) [ inl lt ↦ omega arith | inr same ↦ absurd (other (omega arith)) ])
]

one_small : (o w : ℕ) → w < 2 ^ 64 → (k : ℕ) → word_at o (w ∷ []) k < 2 ^ 64
one_small o w small k = elim (cases_eq k o) [
  | inl same ↦ omega (arith, ap (word_at o (w ∷ [])) same, one_here o w)
  | inr other ↦ omega (arith, one_other o w k other)
]

-- the ranks of a word are in a set exactly where the word has no bit that the set's word lacks
pub covers_is : (o w p : ℕ) (vs : List ℕ) → w < 2 ^ 64 → ((k : ℕ) → word_at p vs k < 2 ^ 64) → eqb (bit_and w (bit_not w64 (word_at p vs o))) 0 ≡ is_subset (ranks_in o (w ∷ [])) (ranks_in p vs)
covers_is o w p vs small others =
    let here : bit_and (word_at o (w ∷ []) o) (bit_not w64 (word_at p vs o)) ≡ bit_and w (bit_not w64 (word_at p vs o)) = ap (λ x. bit_and x (bit_not w64 (word_at p vs o))) (one_here o w) in
    elim (cases_Bool (eqb (bit_and w (bit_not w64 (word_at p vs o))) 0)) [
      | inl yes_all ↦ yes_all ∙ sym (subset_words o (w ∷ []) p vs (one_small o w small) others (λ k. elim (cases_eq k o) [
        | inl same ↦ ap (λ j. bit_and (word_at o (w ∷ []) j) (bit_not w64 (word_at p vs j))) same ∙ here ∙ eqb-true _ 0 yes_all
        | inr other ↦ ap (λ x. bit_and x (bit_not w64 (word_at p vs k))) (one_other o w k other) ∙ and_zero_l (bit_not w64 (word_at p vs k))
      ]))
      | inr not_all ↦ not_all ∙ sym (not_subset_words o (w ∷ []) p vs (one_small o w small) others o (λ e. eqb-false _ 0 not_all (sym here ∙ e)))
    ]

-- a rank of a word has a bit of it
one_bit : (o w r : ℕ) → has (ranks_in o (w ∷ [])) r ≡ true → (r / 64 ≡ o) × (is_bit w (r % 64) ≡ true)
one_bit o w r one =
    let inside = rank_within o (w ∷ []) r one in
    let e : r / 64 ≡ o = omega (arith, inside.0, inside.1) in
    (e, sym (has-ranks_in o (w ∷ []) r ∙ ap (λ k. is_bit (word_at o (w ∷ []) k) (r % 64)) e ∙ ap (λ x. is_bit x (r % 64)) (one_here o w)) ∙ one)

-- a bit of a word is a rank
bit_one : (o w i : ℕ) → i < 64 → is_bit w i ≡ true → has (ranks_in o (w ∷ [])) (64 * o + i) ≡ true
bit_one o w i lt one =
    let d : (64 * o + i) / 64 ≡ o = omega arith in
    let m : (64 * o + i) % 64 ≡ i = omega arith in
    has-ranks_in o (w ∷ []) (64 * o + i) ∙ (λ j. is_bit (word_at o (w ∷ []) (d j)) (m j)) ∙ ap (λ x. is_bit x i) (one_here o w) ∙ one

all_below : (o w count : ℕ) → ((i : ℕ) → i < 64 → is_bit w i ≡ true → 64 * o + i < count) → list_all (λ r. nat_lt r count) (in_order (ranks_in o (w ∷ []))) ≡ true
all_below o w count each = all_pass (λ r. nat_lt r count) (in_order (ranks_in o (w ∷ []))) (λ r one.
    let b = one_bit o w r (has-in_order (ranks_in o (w ∷ [])) r ∙ one) in
    lt-ltb r count (omega (arith, b.0, each (r % 64) (omega arith) b.1)))

not_below : (o w count i : ℕ) → i < 64 → is_bit w i ≡ true → count ≤ 64 * o + i → list_all (λ r. nat_lt r count) (in_order (ranks_in o (w ∷ []))) ≡ false
not_below o w count i lt one past = elim (cases_Bool (list_all (λ r. nat_lt r count) (in_order (ranks_in o (w ∷ []))))) [
  | inl all ↦
      let below : 64 * o + i < count = ltb-true (64 * o + i) count (all_have (λ r. nat_lt r count) (in_order (ranks_in o (w ∷ []))) (64 * o + i) all (sym (has-in_order (ranks_in o (w ∷ [])) (64 * o + i)) ∙ bit_one o w i lt one)) in
      absurd (omega arith)
  | inr other ↦ other
]

-- a word whose last rank is below the count
pub below_whole : (o w count room : ℕ) → room ≡ count - 64 * o → 64 ≤ room → list_all (λ r. nat_lt r count) (in_order (ranks_in o (w ∷ []))) ≡ true
below_whole o w count room is wide = all_below o w count (λ i lt _. omega arith)

-- a word whose bits from a place on are tested
pub below_is : (o w count room : ℕ) → w < 2 ^ 64 → room ≡ count - 64 * o → eqb (w / 2 ^ room) 0 ≡ list_all (λ r. nat_lt r count) (in_order (ranks_in o (w ∷ [])))
below_is o w count room small is = elim (cases_lt 0 (w / 2 ^ room)) [
  | inl some ↦
      let v : ℕ = w / 2 ^ room in
      let whole : v * 2 ^ room + w % 2 ^ room ≡ w = ap (λ x. x + w % 2 ^ room) (mul_comm v (2 ^ room)) ∙ div-add-mod w (2 ^ room) in
      let fits : v < 2 ^ 64 = omega (arith, smaller w room) in
      let facts = bit_at-trailing_zeros w64 v some fits in
      let i : ℕ = room + trailing_zeros w64 v in
      let z : i - room ≡ trailing_zeros w64 v = omega arith in
      let bit : bit_at w i ≡ 1 = ap (λ x. bit_at x i) (sym whole) ∙ bit_at_cat_high v room (w % 2 ^ room) i (mod-lt w (pow_pos room)) (omega arith) ∙ ap (bit_at v) z ∙ facts.1 in
      let inside : i < 64 = elim (cases_lt i 64) [ inl lt ↦ lt | inr le ↦ absurd (omega (arith, bit, bit_at_above w 64 i small le)) ] in
      ne (w / 2 ^ room) some ∙ sym (not_below o w count i inside (ap (λ x. eqb x 1) bit) (omega arith))
  | inr none ↦
      let zero_there : w / 2 ^ room ≡ 0 = omega arith in
      let low : w < 2 ^ room = omega (arith, (div-lt_iff_lt-mul {k = 2 ^ room} {x = w} {y = 1} (pow_pos room)).0 (omega arith)) in
      ap (λ x. eqb x 0) zero_there ∙ sym (all_below o w count (λ i lt one. elim (cases_lt i room) [
        | inl under ↦ omega arith
        | inr past ↦ absurd (true≢false (sym one ∙ ap (λ x. eqb x 1) (bit_at_above w room i low past)))
      ]))
]
  where
    ne : (x : ℕ) → 0 < x → eqb x 0 ≡ false
    ne x lt = Rattle.std.proofs.lemmas.Bool.ne_eqb x 0 (λ e. omega (arith, e))

    smaller : (w room : ℕ) → w / 2 ^ room ≤ w
    smaller w room = Rattle.std.proofs.Math.Nat.div-le_self w (2 ^ room)

-- no bits are no ranks
pub empty_word : (o w : ℕ) → w ≡ 0 → ranks_in o (w ∷ []) ≡ none
empty_word o w nothing = all_zeros o (w ∷ []) (λ j. each j)
  where
    each : (j : ℕ) → get_or (w ∷ []) j 0 ≡ 0
    each zero = nothing
    each (suc j) = refl

-- a word with bits has a rank
pub word_member : (o w : ℕ) → w < 2 ^ 64 → 0 < w → (r : ℕ) × (r / 64 ≡ o) × (has (ranks_in o (w ∷ [])) r ≡ true)
word_member o w small some =
    let i : ℕ = trailing_zeros w64 w in
    let facts = bit_at-trailing_zeros w64 w some small in
    (64 * o + i, omega (arith, facts.0), bit_one o w i facts.0 (ap (λ x. eqb x 1) facts.1))
