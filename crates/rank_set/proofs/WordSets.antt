-- Sets of ranks by their words.
use Rattle.std.proofs.Common.{◌≡◌, ◌≢◌, ℕ, zero, suc, ◌+◌, ◌-◌, ◌*◌, ◌/◌, ◌%◌, ◌^◌, ◌<◌, ◌≤◌, max, min, Bool, true, false, not, ◌||◌, ◌&&◌, eqb, List, [], ◌∷◌, ◌++◌, length, get_or, refl, sym, ap, ◌∙◌, subst, inl, inr, arith, w64, map}
use Rattle.std.specs.Prelude.{bit_and, bit_or}
use Rattle.std.specs.Int.{bit_at, bit_not}
use Rattle.std.specs.List.{range_with_len}
use Rattle.std.specs.Ordering.{nat_cmp, eq_by_cmp}
use Rattle.std.specs.Cmp.{unsigned_tied}
use Rattle.std.proofs.lemmas.Bool.{cases_lt, eq-eqb, lt-ltb, le-ltb, true≢false}
use Rattle.std.proofs.lemmas.List.{get_or_past}
use Rattle.std.proofs.lemmas.List.Folds.{list_any_at}
use Rattle.std.proofs.lemmas.List.FromFn.{length-range_with_len, get_or-range_with_len, length-map-range_with_len, get_or-map-range_with_len, map-range_with_len_more}
use Rattle.std.proofs.lemmas.Nat.Bits.{bit_at_and, bit_at_or, bit_at_not, bit_at-zero, bit_at-lt, same_from_bits_below, shr_and_one}
use Rattle.std.proofs.lemmas.Nat.{and_le_l}
use Rattle.std.proofs.lemmas.Grind.{same_number_lists}
use Rattle.rank_set.specs.Ranks.{Ranks, none, has, union, those, set_of, has-none, has-set_of, has-union, has-those, same_ranks, is_subset, subset_has, subset_from}
use Rattle.rank_set.specs.Words.{is_bit, word_at, bit_in, ranks_in, AreWords}

-- before the first word there are zeros
pub word_at-below : (o : ℕ) (ws : List ℕ) (k : ℕ) → k < o → word_at o ws k ≡ 0
unfolding word_at
word_at-below o ws k lt = rw (lt-ltb k o lt) refl

-- from the first word on, the words are those that are held
pub word_at-from : (o : ℕ) (ws : List ℕ) (k : ℕ) → o ≤ k → word_at o ws k ≡ get_or ws (k - o) 0
unfolding word_at
word_at-from o ws k le = rw (le-ltb k o le) refl

-- past the words there are zeros
pub word_at-beyond : (o : ℕ) (ws : List ℕ) (k : ℕ) → o + length ws ≤ k → word_at o ws k ≡ 0
word_at-beyond o ws k le = word_at-from o ws k (omega arith) ∙ get_or_past ws (k - o) 0 (omega arith)

-- a word of 0 has no bit
pub no_bit : (w i : ℕ) → w ≡ 0 → is_bit w i ≡ false
no_bit w i e = ap (λ x. is_bit x i) e ∙ ap (λ x. eqb x 1) (bit_at-zero i)

has-numbers : (n r : ℕ) → r < n → has (set_of (range_with_len 0 n)) r ≡ true
has-numbers n r lt = has-set_of (range_with_len 0 n) r ∙ list_any_at (eq_by_cmp nat_cmp r) (range_with_len 0 n) r 0 (rw (length-range_with_len 0 n) lt) (unsigned_tied r (get_or (range_with_len 0 n) r 0) ∙ eq-eqb r (get_or (range_with_len 0 n) r 0) (omega (arith, get_or-range_with_len 0 n r 0 lt)))

-- a rank is in the set exactly where its bit is 1
pub has-ranks_in : (o : ℕ) (ws : List ℕ) (r : ℕ) → has (ranks_in o ws) r ≡ bit_in o ws r
unfolding ranks_in
has-ranks_in o ws r =
    let n : ℕ = 64 * (o + length ws) in
    has-those (bit_in o ws) (set_of (range_with_len 0 n)) r ∙ elim (cases_lt r n) [
      | inl inside ↦ ap (λ b. b && bit_in o ws r) (has-numbers n r inside)
      | inr out ↦
          let gone : bit_in o ws r ≡ false = no_bit _ (r % 64) (word_at-beyond o ws (r / 64) (omega arith)) in
          ap (λ b. has (set_of (range_with_len 0 n)) r && b) gone ∙ and_false _ ∙ sym gone
    ]
  where
    and_false : (a : Bool) → (a && false) ≡ false
    and_false true = refl
    and_false false = refl

-- bits of words put together
max_bit : (m n : ℕ) → m < 2 → n < 2 → eqb (max m n) 1 ≡ (eqb m 1 || eqb n 1)
max_bit zero zero a b = refl
max_bit zero (suc zero) a b = refl
max_bit zero (suc (suc n)) a b = absurd (omega arith)
max_bit (suc zero) zero a b = refl
max_bit (suc zero) (suc zero) a b = refl
max_bit (suc zero) (suc (suc n)) a b = absurd (omega arith)
max_bit (suc (suc m)) n a b = absurd (omega arith)

min_bit : (m n : ℕ) → m < 2 → n < 2 → eqb (min m n) 1 ≡ (eqb m 1 && eqb n 1)
min_bit zero zero a b = refl
min_bit zero (suc zero) a b = refl
min_bit zero (suc (suc n)) a b = absurd (omega arith)
min_bit (suc zero) zero a b = refl
min_bit (suc zero) (suc zero) a b = refl
min_bit (suc zero) (suc (suc n)) a b = absurd (omega arith)
min_bit (suc (suc m)) n a b = absurd (omega arith)

other_bit : (m : ℕ) → m < 2 → eqb (1 - m) 1 ≡ not (eqb m 1)
other_bit zero a = refl
other_bit (suc zero) a = refl
other_bit (suc (suc m)) a = absurd (omega arith)

-- a bit of two words put together
pub is_bit-or : (v w i : ℕ) → is_bit (bit_or v w) i ≡ (is_bit v i || is_bit w i)
is_bit-or v w i = ap (λ x. eqb x 1) (bit_at_or v w i) ∙ max_bit (bit_at v i) (bit_at w i) (bit_at-lt v i) (bit_at-lt w i)

-- a bit that two words have in common
pub is_bit-and : (v w i : ℕ) → is_bit (bit_and v w) i ≡ (is_bit v i && is_bit w i)
is_bit-and v w i = ap (λ x. eqb x 1) (bit_at_and v w i) ∙ min_bit (bit_at v i) (bit_at w i) (bit_at-lt v i) (bit_at-lt w i)

-- a bit of a complement
pub is_bit-not : (w i : ℕ) → w < 2 ^ 64 → i < 64 → is_bit (bit_not w64 w) i ≡ not (is_bit w i)
is_bit-not w i small within = ap (λ x. eqb x 1) (bit_at_not w64 w i small within) ∙ other_bit (bit_at w i) (bit_at-lt w i)

module _ (o : ℕ) (ws : List ℕ) (a : ℕ) (xs : List ℕ) (b : ℕ) (ys : List ℕ) where
  -- the union, word by word
  pub ranks_in-union : ((k : ℕ) → word_at o ws k ≡ bit_or (word_at a xs k) (word_at b ys k)) → ranks_in o ws ≡ union (ranks_in a xs) (ranks_in b ys)
  ranks_in-union each = same_ranks _ _ (λ r.
      has-ranks_in o ws r ∙ ap (λ w. is_bit w (r % 64)) (each (r / 64)) ∙ is_bit-or _ _ (r % 64)
      ∙ sym (has-union (ranks_in a xs) (ranks_in b ys) r ∙ (λ i. has-ranks_in a xs r i || has-ranks_in b ys r i)))

  -- what is not in the other, bit by bit
  pub ranks_in-without : ((k i : ℕ) → i < 64 → is_bit (word_at o ws k) i ≡ (is_bit (word_at a xs k) i && not (is_bit (word_at b ys k) i))) → ranks_in o ws ≡ those (λ r. not (has (ranks_in b ys) r)) (ranks_in a xs)
  ranks_in-without each = same_ranks _ _ (λ r.
      has-ranks_in o ws r ∙ each (r / 64) (r % 64) (omega arith)
      ∙ sym (has-those (λ q. not (has (ranks_in b ys) q)) (ranks_in a xs) r ∙ (λ i. has-ranks_in a xs r i && not (has-ranks_in b ys r i))))

  -- what both have, word by word
  pub ranks_in-common : ((k : ℕ) → word_at o ws k ≡ bit_and (word_at a xs k) (word_at b ys k)) → ranks_in o ws ≡ those (λ r. has (ranks_in b ys) r) (ranks_in a xs)
  ranks_in-common each = same_ranks _ _ (λ r.
      has-ranks_in o ws r ∙ ap (λ w. is_bit w (r % 64)) (each (r / 64)) ∙ is_bit-and _ _ (r % 64)
      ∙ sym (has-those (λ q. has (ranks_in b ys) q) (ranks_in a xs) r ∙ (λ i. has-ranks_in a xs r i && has-ranks_in b ys r i)))

module _ (a : ℕ) (xs : List ℕ) (b : ℕ) (ys : List ℕ) where
  -- the same words make the same set
  pub ranks_in-same : ((k : ℕ) → word_at a xs k ≡ word_at b ys k) → ranks_in a xs ≡ ranks_in b ys
  ranks_in-same each = same_ranks _ _ (λ r. has-ranks_in a xs r ∙ ap (λ w. is_bit w (r % 64)) (each (r / 64)) ∙ sym (has-ranks_in b ys r))

-- no words hold no ranks
pub ranks_in-none : (o : ℕ) → ranks_in o [] ≡ none
ranks_in-none o = same_ranks _ _ (λ r. has-ranks_in o [] r ∙ no_bit _ (r % 64) (nothing (r / 64)) ∙ sym (has-none r))
  where
    nothing : (k : ℕ) → word_at o [] k ≡ 0
    nothing k = elim (cases_lt k o) [ inl lt ↦ word_at-below o [] k lt | inr le ↦ word_at-from o [] k le ∙ get_or_past [] (k - o) 0 (omega arith) ]

-- no words, no ranks
pub no_ranks : (o : ℕ) (ws : List ℕ) → length ws ≡ 0 → ranks_in o ws ≡ none
no_ranks o ws e = ap (ranks_in o) (no_words ws e) ∙ ranks_in-none o
  where
    no_words : (ws : List ℕ) → length ws ≡ 0 → ws ≡ []
    no_words [] e = refl
    no_words (w ∷ ws) e = absurd (omega arith)

-- nothing but zeros, no ranks
pub all_zeros : (o : ℕ) (ws : List ℕ) → ((j : ℕ) → get_or ws j 0 ≡ 0) → ranks_in o ws ≡ none
all_zeros o ws zeros = same_ranks _ _ (λ r. has-ranks_in o ws r ∙ no_bit _ (r % 64) (elim (cases_lt (r / 64) o) [
  | inl lt ↦ word_at-below o ws (r / 64) lt
  | inr le ↦ word_at-from o ws (r / 64) le ∙ zeros (r / 64 - o)
]) ∙ sym (has-none r))

-- no bit is 1 past the words
pub no_bit_past : (o : ℕ) (ws : List ℕ) (r : ℕ) → 64 * (o + length ws) ≤ r → bit_in o ws r ≡ false
no_bit_past o ws r past = no_bit _ (r % 64) (word_at-beyond o ws (r / 64) (omega arith))

-- a union with no ranks changes nothing
pub union_none : (s : Ranks) → s ≡ union s none
union_none s = same_ranks _ _ (λ r. sym (has-union s none r ∙ ap (λ b. has s r || b) (has-none r) ∙ or_false _))
  where
    or_false : (a : Bool) → (a || false) ≡ a
    or_false true = refl
    or_false false = refl

-- words that follow one another
pub word_at-words : (f : ℕ → ℕ) (low n : ℕ) → ((k : ℕ) → k < low → f k ≡ 0) → ((k : ℕ) → low + n ≤ k → f k ≡ 0) → (k : ℕ) → word_at low (map f (range_with_len low n)) k ≡ f k
word_at-words f low n before after k = elim (cases_lt k low) [
  | inl lt ↦ word_at-below low _ k lt ∙ sym (before k lt)
  | inr le ↦ elim (cases_lt k (low + n)) [
    | inl inside ↦ word_at-from low _ k le ∙ get_or-map-range_with_len f low n (k - low) k 0 (omega arith) (omega arith)
    | inr past ↦ word_at-beyond low _ k (rw (length-map-range_with_len f low n) past) ∙ sym (after k past)
  ]
]

-- the test `w >> i & 1 == 1`
pub tests_bit : (w i : ℕ) → eqb (bit_and (w / 2 ^ i) 1) 1 ≡ is_bit w i
tests_bit w i = ap (λ x. eqb x 1) (shr_and_one w i)

-- words that each fit
pub word_at-small : (o : ℕ) (ws : List ℕ) → ((i : ℕ) → get_or ws i 0 < 2 ^ 64) → (k : ℕ) → word_at o ws k < 2 ^ 64
word_at-small o ws small k = elim (cases_lt k o) [
  | inl lt ↦ rw (word_at-below o ws k lt) (omega arith)
  | inr le ↦ rw (word_at-from o ws k le) (small (k - o))
]

-- one word more
pub range_step : (f : ℕ → ℕ) (low k x : ℕ) (xs : List ℕ) → low ≤ k → xs ≡ map f (range_with_len low (k - low)) → x ≡ f k → xs ++ x ∷ [] ≡ map f (range_with_len low ((k + 1) - low))
range_step f low k x xs le so_far is =
    (λ i. so_far i ++ is i ∷ []) ∙ sym (map-range_with_len_more f low (k - low) k (omega arith))
    ∙ (let e : (k - low) + 1 ≡ (k + 1) - low = omega arith in ap (λ n. map f (range_with_len low n)) e)

-- a bit of a set's word
rank_bit : (o : ℕ) (ws : List ℕ) (k i : ℕ) → i < 64 → has (ranks_in o ws) (64 * k + i) ≡ is_bit (word_at o ws k) i
rank_bit o ws k i lt =
    let d : (64 * k + i) / 64 ≡ k = omega arith in
    let m : (64 * k + i) % 64 ≡ i = omega arith in
    has-ranks_in o ws (64 * k + i) ∙ (λ j. is_bit (word_at o ws (d j)) (m j))

equal_bits : (m n : ℕ) → m < 2 → n < 2 → eqb m 1 ≡ eqb n 1 → m ≡ n
equal_bits zero zero a b e = refl
equal_bits zero (suc zero) a b e = absurd (true≢false (sym e))
equal_bits zero (suc (suc n)) a b e = absurd (omega arith)
equal_bits (suc zero) zero a b e = absurd (true≢false e)
equal_bits (suc zero) (suc zero) a b e = refl
equal_bits (suc zero) (suc (suc n)) a b e = absurd (omega arith)
equal_bits (suc (suc m)) n a b e = absurd (omega arith)

module _ (a : ℕ) (xs : List ℕ) (b : ℕ) (ys : List ℕ) (small_a : (k : ℕ) → word_at a xs k < 2 ^ 64) (small_b : (k : ℕ) → word_at b ys k < 2 ^ 64) where
  -- equal sets have the same words
  pub words_from_set : ranks_in a xs ≡ ranks_in b ys → (k : ℕ) → word_at a xs k ≡ word_at b ys k
  words_from_set e k = same_from_bits_below 64 _ _ (small_a k) (small_b k) (λ i lt.
      equal_bits _ _ (bit_at-lt (word_at a xs k) i) (bit_at-lt (word_at b ys k) i)
      (sym (rank_bit a xs k i lt) ∙ ap (λ s. has s (64 * k + i)) e ∙ rank_bit b ys k i lt))

  -- a set lies in another where no word has a bit that the other's lacks
  pub subset_words : ((k : ℕ) → bit_and (word_at a xs k) (bit_not w64 (word_at b ys k)) ≡ 0) → is_subset (ranks_in a xs) (ranks_in b ys) ≡ true
  subset_words each = subset_from _ _ (λ r one.
      let w : ℕ = word_at a xs (r / 64) in
      let v : ℕ = word_at b ys (r / 64) in
      let gone : (is_bit w (r % 64) && not (is_bit v (r % 64))) ≡ false =
      ap (λ x. is_bit w (r % 64) && x) (sym (is_bit-not v (r % 64) (small_b (r / 64)) (omega arith))) ∙ sym (is_bit-and w (bit_not w64 v) (r % 64)) ∙ no_bit _ (r % 64) (each (r / 64)) in
      has-ranks_in b ys r ∙ not_without (is_bit w (r % 64)) (is_bit v (r % 64)) gone (sym (has-ranks_in a xs r) ∙ one))
    where
      not_without : (p q : Bool) → (p && not q) ≡ false → p ≡ true → q ≡ true
      not_without p true e one = refl
      not_without true false e one = absurd (true≢false e)
      not_without false false e one = absurd (true≢false (sym one))

  -- a set does not lie in another where a word has a bit that the other lacks
  pub not_subset_words : (k : ℕ) → bit_and (word_at a xs k) (bit_not w64 (word_at b ys k)) ≢ 0 → is_subset (ranks_in a xs) (ranks_in b ys) ≡ false
  not_subset_words k some = not_true _ (λ within. absurd (some (same_from_bits_below 64 _ 0 (and_lt k) (omega arith) (λ i lt.
      equal_bits _ _ (bit_at-lt (bit_and (word_at a xs k) (bit_not w64 (word_at b ys k))) i) (bit_at-lt 0 i)
      (is_bit-and (word_at a xs k) (bit_not w64 (word_at b ys k)) i ∙ ap (λ x. is_bit (word_at a xs k) i && x) (is_bit-not (word_at b ys k) i (small_b k) lt)
      ∙ lies (is_bit (word_at a xs k) i) (is_bit (word_at b ys k) i) (λ one. sym (rank_bit b ys k i lt) ∙ subset_has _ _ within (64 * k + i) (rank_bit a xs k i lt ∙ one))
      ∙ sym (no_bit 0 i refl))))))
    where
      not_true : (p : Bool) → (p ≡ true → ⊥) → p ≡ false
      not_true true f = absurd (f refl)
      not_true false f = refl

      lies : (p q : Bool) → (p ≡ true → q ≡ true) → (p && not q) ≡ false
      lies true q f = ap not (f refl)
      lies false q f = refl

      and_lt : (k : ℕ) → bit_and (word_at a xs k) (bit_not w64 (word_at b ys k)) < 2 ^ 64
      and_lt k = omega (arith, and_le_l (word_at a xs k) (bit_not w64 (word_at b ys k)), small_a k)

module _ (a : ℕ) (xs : List ℕ) (b : ℕ) (ys : List ℕ) (ha : AreWords a xs) (hb : AreWords b ys) (each : (k : ℕ) → word_at a xs k ≡ word_at b ys k) where
  not_before : 0 < length xs → a < b → ⊥
  not_before some lt = let e : a - a ≡ 0 = omega arith in
      let P : ℕ → Type 0 = λ i. word_at a xs a ≡ get_or xs i 0 in
      let here : word_at a xs a ≡ get_or xs 0 0 = subst P e (word_at-from a xs a (omega arith)) in
      omega (arith, ha.first some, here, each a, word_at-below b ys a lt)

  not_longer : 0 < length xs → b + length ys < a + length xs → ⊥
  not_longer some lt =
      let e : (a + length xs - 1) - a ≡ length xs - 1 = omega arith in
      let P : ℕ → Type 0 = λ i. word_at a xs (a + length xs - 1) ≡ get_or xs i 0 in
      let here : word_at a xs (a + length xs - 1) ≡ get_or xs (length xs - 1) 0 = subst P e (word_at-from a xs (a + length xs - 1) (omega arith)) in
      omega (arith, ha.last some, here, each (a + length xs - 1), word_at-beyond b ys (a + length xs - 1) (omega arith))

-- trimmed words are determined by the set
pub trimmed_same : (a : ℕ) (xs : List ℕ) (b : ℕ) (ys : List ℕ) → AreWords a xs → AreWords b ys → ((k : ℕ) → word_at a xs k ≡ word_at b ys k) → (a ≡ b) × (xs ≡ ys)
trimmed_same a xs b ys ha hb each =
    let back : (k : ℕ) → word_at b ys k ≡ word_at a xs k = λ k. sym (each k) in
    let places : (a ≡ b) × (length xs ≡ length ys) = elim (cases_lt 0 (length xs)) [
      | inl some ↦ elim (cases_lt 0 (length ys)) [
        | inl more ↦
            let p : b ≤ a = elim (cases_lt a b) [ inl lt ↦ absurd (not_before a xs b ys ha hb each some lt) | inr le ↦ le ] in
            let q : a ≤ b = elim (cases_lt b a) [ inl lt ↦ absurd (not_before b ys a xs hb ha back more lt) | inr le ↦ le ] in
            let s : a + length xs ≤ b + length ys = elim (cases_lt (b + length ys) (a + length xs)) [ inl lt ↦ absurd (not_longer a xs b ys ha hb each some lt) | inr le ↦ le ] in
            let t : b + length ys ≤ a + length xs = elim (cases_lt (a + length xs) (b + length ys)) [ inl lt ↦ absurd (not_longer b ys a xs hb ha back more lt) | inr le ↦ le ] in
            (omega arith, omega arith)
        | inr none ↦ absurd (not_longer a xs b ys ha hb each some (let z : b ≡ 0 = hb.nothing (omega arith) in omega arith))
      ]
      | inr none ↦ elim (cases_lt 0 (length ys)) [
        | inl more ↦ absurd (not_longer b ys a xs hb ha back more (let z : a ≡ 0 = ha.nothing (omega arith) in omega arith))
        | inr both ↦ let z : a ≡ 0 = ha.nothing (omega arith) in let y : b ≡ 0 = hb.nothing (omega arith) in (omega arith, omega arith)
      ]
    ] in (
      places.0,
      same_number_lists xs ys places.1 (λ k lt.
          let e : (a + k) - a ≡ k = omega arith in
          let f : (a + k) - b ≡ k = omega (arith, places.0) in
          let P : ℕ → Type 0 = λ i. word_at a xs (a + k) ≡ get_or xs i 0 in
          let Q : ℕ → Type 0 = λ i. word_at b ys (a + k) ≡ get_or ys i 0 in
          sym (subst P e (word_at-from a xs (a + k) (omega arith))) ∙ each (a + k) ∙ subst Q f (word_at-from b ys (a + k) (omega (arith, places.0)))),
    )
