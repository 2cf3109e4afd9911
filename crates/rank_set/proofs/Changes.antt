-- Words that a loop changes in place, one after another.
use Rattle.std.proofs.Common.{◌≡◌, ℕ, ◌+◌, ◌-◌, ◌*◌, ◌<◌, ◌≤◌, ◌^◌, Bool, true, false, not, ◌&&◌, cond, nat_lt, min, List, length, get_or, set, refl, sym, ap, subst, ◌∙◌, inl, inr, arith, w64}
use Rattle.std.specs.Prelude.{bit_and, bit_or, count_ones}
use Rattle.std.specs.Int.{bit_at, bit_not}
use Rattle.std.specs.Int.Bits.{or_zero_r}
use Rattle.std.specs.Int.Count.{ones-le}
use Rattle.std.proofs.lemmas.Bool.{cases_lt, cases_eq, lt-ltb, le-ltb}
use Rattle.std.proofs.lemmas.Nat.{and_le_l}
use Rattle.std.proofs.lemmas.Nat.Bits.{bit_at_and, bit_at_not, bit_at-zero, bit_at-lt, same_from_bits_below}
use Rattle.std.proofs.lemmas.List.{get_or_past, get_or-set_same, get_or-set_other, length-set}
use Rattle.rank_set.specs.Ranks.{has, those}
use Rattle.rank_set.specs.Words.{is_bit, word_at, ranks_in, IsOverlap}
use Rattle.rank_set.proofs.WordSets.{word_at-below, word_at-from, word_at-beyond, ranks_in-without, no_bit, is_bit-and, is_bit-not, ranks_in-common}

-- the words before place n are changed by g, and the others are as they were
pub record HasChanged (old new : List ℕ) (g : ℕ → ℕ → ℕ) (n : ℕ) : Type 0 where
  pub len : length new ≡ length old
  pub done : (j : ℕ) → j < n → get_or new j 0 ≡ g j (get_or old j 0)
  pub rest : (j : ℕ) → n ≤ j → get_or new j 0 ≡ get_or old j 0

-- a change that leaves the words before place n has been made up to there
pub changed_start : (xs : List ℕ) (g : ℕ → ℕ → ℕ) (n : ℕ) → ((j : ℕ) → j < n → g j (get_or xs j 0) ≡ get_or xs j 0) → HasChanged xs xs g n
changed_start xs g n same = record { len = refl; done = λ j lt. sym (same j lt); rest = λ j le. refl }

-- the same place, written otherwise
pub changed_to : (old new : List ℕ) (g : ℕ → ℕ → ℕ) (n m : ℕ) → HasChanged old new g n → n ≡ m → HasChanged old new g m
changed_to old new g n m h e = subst (HasChanged old new g) e h

-- to set word n changes one word more
pub changed_step : (old new : List ℕ) (g : ℕ → ℕ → ℕ) (n i w m : ℕ) → HasChanged old new g n → i ≡ n → n < length new → w ≡ g n (get_or new n 0) → m ≡ n + 1 → HasChanged old (set new i w) g m
changed_step old new g n i w m h at inside is next = record {
  len = length-set new i w ∙ h.len;
  done = λ j l. elim (cases_eq j i) [
    | inl same ↦
        let e : n ≡ j = omega (arith, same, at) in
        ap (λ q. get_or (set new i w) q 0) same ∙ get_or-set_same new i w 0 (omega arith) ∙ is ∙ ap (g n) (h.rest n (omega arith)) ∙ ap (λ q. g q (get_or old q 0)) e
    | inr other ↦ get_or-set_other new i j w 0 other ∙ h.done j (omega (arith, other, at, l, next))
  ];
  rest = λ j le. get_or-set_other new i j w 0 (λ e. absurd (omega (arith, e, le, at, next))) ∙ h.rest j (omega arith);
}

-- a word without the bits of 0 is the word
pub and_all : (w : ℕ) → w < 2 ^ 64 → bit_and w (bit_not w64 0) ≡ w
and_all w small = same_from_bits_below 64 _ w (omega (arith, and_le_l w (bit_not w64 0), small)) small (λ i lt.
    bit_at_and w (bit_not w64 0) i ∙ ap (min (bit_at w i)) (bit_at_not w64 0 i (omega arith) lt ∙ ap (λ b. 1 - b) (bit_at-zero i)) ∙ below_two (bit_at w i) (bit_at-lt w i))
  where
    below_two : (b : ℕ) → b < 2 → min b (1 - 0) ≡ b
    below_two b lt = omega arith

-- words that overlap with others, by their places
module _ (o : ℕ) (ws : List ℕ) (p : ℕ) (vs : List ℕ) (i j n : ℕ) (h : IsOverlap o ws p vs i j n) where
  -- a word that both have
  pub common_word : (m : ℕ) → m < n → word_at p vs (o + (i + m)) ≡ get_or vs (j + m) 0
  common_word m lt =
      let e : (o + (i + m)) - p ≡ j + m = omega (arith, h.same m lt) in
      word_at-from p vs (o + (i + m)) (omega (arith, h.same m lt)) ∙ ap (λ k. get_or vs k 0) e

  -- the others have no word before
  pub none_before : (m : ℕ) → m < i → word_at p vs (o + m) ≡ 0
  none_before m lt = word_at-below p vs (o + m) (h.before m lt)

  -- the others have no word after
  pub none_after : (m : ℕ) → i + n ≤ m → m < length ws → word_at p vs (o + m) ≡ 0
  none_after m le lt = elim (h.after m le lt) [ inl below ↦ word_at-below p vs (o + m) below | inr past ↦ word_at-beyond p vs (o + m) past ]

-- bits are set in no word before the first
pub or_start : (xs : List ℕ) (f : ℕ → ℕ) (n : ℕ) → ((j : ℕ) → j < n → f j ≡ 0) → HasChanged xs xs (λ j w. bit_or w (f j)) n
or_start xs f n zeros = changed_start xs (λ j w. bit_or w (f j)) n (λ j lt. ap (bit_or (get_or xs j 0)) (zeros j lt) ∙ or_zero_r _)

-- bits have been set in every word once no other has any to set
pub or_end : (old new : List ℕ) (f : ℕ → ℕ) (n : ℕ) → HasChanged old new (λ j w. bit_or w (f j)) n → ((j : ℕ) → n ≤ j → f j ≡ 0) → (j : ℕ) → get_or new j 0 ≡ bit_or (get_or old j 0) (f j)
or_end old new f n h zeros j = elim (cases_lt j n) [
  | inl lt ↦ h.done j lt
  | inr past ↦ h.rest j past ∙ sym (ap (bit_or (get_or old j 0)) (zeros j past) ∙ or_zero_r _)
]

-- words in which bits were set, by their places among all words
pub or_at : (a : ℕ) (xs new : List ℕ) (f : ℕ → ℕ) → ((j : ℕ) → get_or new j 0 ≡ bit_or (get_or xs j 0) (f (a + j))) → ((k : ℕ) → k < a → f k ≡ 0) → (k : ℕ) → word_at a new k ≡ bit_or (word_at a xs k) (f k)
or_at a xs new f each zeros k = elim (cases_lt k a) [
  | inl lt ↦ word_at-below a new k lt ∙ sym (ap (λ w. bit_or w (f k)) (word_at-below a xs k lt) ∙ zeros k lt)
  | inr up ↦
      let e : a + (k - a) ≡ k = omega arith in
      word_at-from a new k up ∙ each (k - a) ∙ (λ i. bit_or (sym (word_at-from a xs k up) i) (f (e i)))
]

-- words in which bits were left or cleared, by their places among all words
and_at : (a : ℕ) (xs new : List ℕ) (f : ℕ → ℕ) (n : ℕ) → HasChanged xs new (λ j w. bit_and w (f (a + j))) n → length xs ≤ n → (k : ℕ) → word_at a new k ≡ bit_and (word_at a xs k) (f k)
and_at a xs new f n h all k = elim (cases_lt k a) [
  | inl lt ↦ word_at-below a new k lt ∙ sym (ap (λ w. bit_and w (f k)) (word_at-below a xs k lt))
  | inr up ↦ elim (cases_lt k (a + length xs)) [
    | inl inside ↦
        let e : a + (k - a) ≡ k = omega arith in
        word_at-from a new k up ∙ h.done (k - a) (omega arith) ∙ (λ i. bit_and (sym (word_at-from a xs k up) i) (f (e i)))
    | inr past ↦ word_at-beyond a new k (omega (arith, h.len)) ∙ sym (ap (λ w. bit_and w (f k)) (word_at-beyond a xs k past))
  ]
]

-- words that were cleared of the bits of others where they overlap
module _ (o : ℕ) (xs new : List ℕ) (p : ℕ) (vs : List ℕ) (i j n m : ℕ) (h : IsOverlap o xs p vs i j n) (small : (k : ℕ) → word_at p vs k < 2 ^ 64)
    (made : HasChanged xs new (λ q w. cond (nat_lt q i) w (bit_and w (bit_not w64 (word_at p vs (o + q))))) m) (all : i + n ≤ m) where
  unchanged : (q b : ℕ) → get_or new q 0 ≡ get_or xs q 0 → word_at p vs (o + q) ≡ 0 → is_bit (get_or new q 0) b ≡ (is_bit (get_or xs q 0) b && not (is_bit (word_at p vs (o + q)) b))
  unchanged q b same none = ap (λ x. is_bit x b) same ∙ and_true (is_bit (get_or xs q 0) b) ∙ ap (λ x. is_bit (get_or xs q 0) b && not x) (sym (no_bit (word_at p vs (o + q)) b none))
    where
      and_true : (x : Bool) → x ≡ (x && true)
      and_true true = refl
      and_true false = refl

  cleared_bit : (q b : ℕ) → b < 64 → is_bit (get_or new q 0) b ≡ (is_bit (get_or xs q 0) b && not (is_bit (word_at p vs (o + q)) b))
  cleared_bit q b lt = elim (cases_lt q i) [
    | inl low ↦ unchanged q b (made.done q (omega arith) ∙ ap (λ t. cond t (get_or xs q 0) (bit_and (get_or xs q 0) (bit_not w64 (word_at p vs (o + q))))) (lt-ltb q i low)) (none_before o xs p vs i j n h q low)
    | inr up ↦ elim (cases_lt q m) [
      | inl changed ↦
          ap (λ x. is_bit x b) (made.done q changed ∙ ap (λ t. cond t (get_or xs q 0) (bit_and (get_or xs q 0) (bit_not w64 (word_at p vs (o + q))))) (le-ltb q i up))
          ∙ is_bit-and _ _ b ∙ ap (λ x. is_bit (get_or xs q 0) b && x) (is_bit-not _ b (small (o + q)) lt)
      | inr after ↦ elim (cases_lt q (length xs)) [
        | inl inside ↦ unchanged q b (made.rest q after) (none_after o xs p vs i j n h q (omega arith) inside)
        | inr past ↦ no_bit _ b (made.rest q after ∙ get_or_past xs q 0 past) ∙ ap (λ x. x && not (is_bit (word_at p vs (o + q)) b)) (sym (no_bit (get_or xs q 0) b (get_or_past xs q 0 past)))
      ]
    ]
  ]

  pub cleared : ranks_in o new ≡ those (λ r. not (has (ranks_in p vs) r)) (ranks_in o xs)
  cleared = ranks_in-without o new o xs p vs (λ k b lt. elim (cases_lt k o) [
    | inl low ↦ no_bit _ b (word_at-below o new k low) ∙ ap (λ x. x && not (is_bit (word_at p vs k) b)) (sym (no_bit _ b (word_at-below o xs k low)))
    | inr up ↦
        let e : o + (k - o) ≡ k = omega arith in
        ap (λ x. is_bit x b) (word_at-from o new k up) ∙ cleared_bit (k - o) b lt
        ∙ (λ t. is_bit (sym (word_at-from o xs k up) t) b && not (is_bit (word_at p vs (e t)) b))
  ])

-- words that were left the bits of others alone
pub kept : (a : ℕ) (xs new : List ℕ) (b : ℕ) (ys : List ℕ) (n : ℕ) → HasChanged xs new (λ j w. bit_and w (word_at b ys (a + j))) n → length xs ≤ n
    → ranks_in a new ≡ those (λ r. has (ranks_in b ys) r) (ranks_in a xs)
kept a xs new b ys n h all = ranks_in-common a new a xs b ys (and_at a xs new (word_at b ys) n h all)

-- one word more has at most 64 ones more
pub few_more : (total i w : ℕ) → total ≤ 64 * i → w < 2 ^ 64 → total + count_ones w ≤ 64 * (i + 1)
few_more total i w le small = omega (arith, ones-le 64 w small)
