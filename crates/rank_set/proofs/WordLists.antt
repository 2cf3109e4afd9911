-- The words of a set, and the set of words.
use Rattle.std.proofs.Common.{◌≡◌, ◌≢◌, ℕ, zero, suc, ◌+◌, ◌-◌, ◌*◌, ◌/◌, ◌%◌, ◌^◌, ◌<◌, ◌≤◌, Bool, true, false, cond, ◌||◌, eqb, List, [], ◌∷◌, ◌++◌, length, get_or, map, refl, sym, ap, ◌∙◌, inl, inr, arith, nat_lt}
use Rattle.std.proofs.Math.Nat.{pow-suc}
use Rattle.std.specs.Int.{bit_at}
use Rattle.std.specs.List.{range_with_len, list_any, list_all}
use Rattle.std.specs.Ordering.{nat_cmp, eq_by_cmp, is_eq}
use Rattle.std.specs.Cmp.{nat_cmp_total, tied_itself, unsigned_tied}
use Rattle.std.proofs.lemmas.Bool.{cases_Bool, cases_lt, true≢false, and_parts, or_cases, or_right, eqb-true, eq-eqb, ne_eqb, ltb-true}
use Rattle.std.proofs.lemmas.List.{get_or_past, get_or_append_left, get_or-append_right}
use Rattle.std.proofs.lemmas.List.FromFn.{length-map-range_with_len, get_or-map-range_with_len}
use Rattle.std.proofs.lemmas.Nat.Bits.{bit_at_lowest, bit_at-suc}
use Rattle.rank_set.specs.declared.TheConstants.{RANK_LIMIT}
use Rattle.rank_set.specs.Ranks.{Ranks, none, has, in_order, union, is_strictly_increasing, from_T, has-none, has-in_order, has-union, same_ranks, none_from_size}
use Rattle.rank_set.specs.Words.{is_bit, word_at, bit_in, ranks_in, AreWords, word_of_first, offset_of}
use Rattle.rank_set.specs.WordLists.{bits_of, set_word, last_rank, words_over, words_of, FitInWords}
use Rattle.rank_set.proofs.WordSets.{word_at-below, word_at-from, word_at-beyond, word_at-words, word_at-small, has-ranks_in, no_bit, ranks_in-none, words_from_set, trimmed_same}
use Rattle.rank_set.proofs.Trimming.{first_word, last_word}
use Rattle.rank_set.proofs.Spanning.{rank_in_word, rank_within}

digit_low : (b : Bool) (rest : ℕ) → eqb ((cond b 1 0 + 2 * rest) % 2) 1 ≡ b
digit_low true rest = eq-eqb ((1 + 2 * rest) % 2) 1 (omega arith)
digit_low false rest = ne_eqb ((0 + 2 * rest) % 2) 1 (λ e. omega (arith, e))

digit_half : (b : Bool) (rest : ℕ) → (cond b 1 0 + 2 * rest) / 2 ≡ rest
digit_half true rest = omega arith
digit_half false rest = omega arith

digit_small : (b : Bool) → cond b 1 0 ≤ 1
digit_small true = omega arith
digit_small false = omega arith

-- the number of a test has its answers as bits
pub bits_bit : (test : ℕ → Bool) (place n i : ℕ) → i < n → is_bit (bits_of test place n) i ≡ test (place + i)
bits_bit test place zero i lt = absurd (omega arith)
bits_bit test place (suc n) zero lt =
    let e : place ≡ place + 0 = omega arith in
    ap (λ x. eqb x 1) (bit_at_lowest (bits_of test place (suc n))) ∙ digit_low (test place) (bits_of test (place + 1) n) ∙ ap test e
bits_bit test place (suc n) (suc i) lt =
    let e : (place + 1) + i ≡ place + suc i = omega arith in
    ap (λ x. eqb x 1) (bit_at-suc (bits_of test place (suc n)) i ∙ ap (λ w. bit_at w i) (digit_half (test place) (bits_of test (place + 1) n)))
    ∙ bits_bit test (place + 1) n i (omega arith) ∙ ap test e

-- it has no more bits than there are places
pub bits_lt : (test : ℕ → Bool) (place n : ℕ) → bits_of test place n < 2 ^ n
bits_lt test place zero = omega arith
bits_lt test place (suc n) = omega (arith, pow-suc 2 n, bits_lt test (place + 1) n, digit_small (test place))

-- it is 0 where the test answers no everywhere
pub bits_none : (test : ℕ → Bool) (place n : ℕ) → ((i : ℕ) → i < n → test (place + i) ≡ false) → bits_of test place n ≡ 0
bits_none test place zero each = refl
bits_none test place (suc n) each =
    let e : place ≡ place + 0 = omega arith in
    let rest : bits_of test (place + 1) n ≡ 0 = bits_none test (place + 1) n (λ i lt. let f : (place + 1) + i ≡ place + suc i = omega arith in ap test f ∙ each (suc i) (omega arith)) in
    ap (λ b. cond b 1 0 + 2 * bits_of test (place + 1) n) (ap test e ∙ each 0 (omega arith)) ∙ ap (λ x. 0 + 2 * x) rest

-- the bits of a word of a set are its members
pub set_word_bit : (s : Ranks) (k i : ℕ) → i < 64 → is_bit (set_word s k) i ≡ has s (64 * k + i)
unfolding set_word
set_word_bit s k i lt = bits_bit (has s) (64 * k) 64 i lt

set_word_lt : (s : Ranks) (k : ℕ) → set_word s k < 2 ^ 64
unfolding set_word
set_word_lt s k = bits_lt (has s) (64 * k) 64

set_word_none : (s : Ranks) (k : ℕ) → ((r : ℕ) → r / 64 ≡ k → has s r ≡ false) → set_word s k ≡ 0
unfolding set_word
set_word_none s k each = bits_none (has s) (64 * k) 64 (λ i lt. each (64 * k + i) (omega arith))

set_word_some : (s : Ranks) (r : ℕ) → has s r ≡ true → 0 < set_word s (r / 64)
set_word_some s r one =
    let w : ℕ = set_word s (r / 64) in
    let e : 64 * (r / 64) + r % 64 ≡ r = omega arith in
    let bit : is_bit w (r % 64) ≡ true = set_word_bit s (r / 64) (r % 64) (omega arith) ∙ ap (has s) e ∙ one in
    elim (cases_lt 0 w) [ inl lt ↦ lt | inr le ↦ absurd (true≢false (sym bit ∙ no_bit w (r % 64) (omega arith))) ]

same_number : (x y : ℕ) → eq_by_cmp nat_cmp x y ≡ true → x ≡ y
same_number x y e = eqb-true x y (sym (unsigned_tied x y) ∙ e)

head_any : (r : ℕ) (rs : List ℕ) → list_any (eq_by_cmp nat_cmp r) (r ∷ rs) ≡ true
head_any r rs = ap (λ b. b || list_any (eq_by_cmp nat_cmp r) rs) (ap is_eq (tied_itself nat_cmp_total r))

-- each rank of an increasing list lies between its first and its last
pub member_bounds : (r : ℕ) (rs : List ℕ) → is_strictly_increasing (r ∷ rs) ≡ true → (q : ℕ) → list_any (eq_by_cmp nat_cmp q) (r ∷ rs) ≡ true → (r ≤ q) × (q ≤ last_rank r rs)
member_bounds r [] h q one = elim (or_cases (eq_by_cmp nat_cmp q r) false one) [
  | inl same ↦ let e : q ≡ r = same_number q r same in (omega arith, omega arith)
  | inr later ↦ absurd (true≢false (sym later))
]
member_bounds r (x ∷ rs) h q one =
    let a = and_parts (list_all (λ y. nat_lt r y) (x ∷ rs)) (is_strictly_increasing (x ∷ rs)) h in
    let lt : r < x = ltb-true r x (and_parts (nat_lt r x) (list_all (λ y. nat_lt r y) rs) a.0).0 in
    let here = member_bounds x rs a.1 x (head_any x rs) in
    elim (or_cases (eq_by_cmp nat_cmp q r) (list_any (eq_by_cmp nat_cmp q) (x ∷ rs)) one) [
      | inl same ↦ let e : q ≡ r = same_number q r same in (omega arith, omega (arith, here.1))
      | inr later ↦ let b = member_bounds x rs a.1 q later in (omega (arith, b.0), b.1)
    ]

last_any : (r : ℕ) (rs : List ℕ) → list_any (eq_by_cmp nat_cmp (last_rank r rs)) (r ∷ rs) ≡ true
last_any r [] = head_any r []
last_any r (x ∷ rs) = or_right (eq_by_cmp nat_cmp (last_rank x rs) r) (list_any (eq_by_cmp nat_cmp (last_rank x rs)) (x ∷ rs)) (last_any x rs)

-- trimmed words of 64 bits that make a set
pub record WordsMake (o : ℕ) (ws : List ℕ) (s : Ranks) : Type 0 where
  pub trimmed : AreWords o ws
  pub fit : FitInWords ws
  pub is : ranks_in o ws ≡ s

module _ (s : Ranks) (small : (r : ℕ) → has s r ≡ true → r < RANK_LIMIT) (r : ℕ) (rs : List ℕ) (e : in_order s ≡ r ∷ rs) where
  is_one : (q : ℕ) → list_any (eq_by_cmp nat_cmp q) (r ∷ rs) ≡ true → has s q ≡ true
  is_one q one = has-in_order s q ∙ ap (list_any (eq_by_cmp nat_cmp q)) e ∙ one

  bounds : (q : ℕ) → has s q ≡ true → (r ≤ q) × (q ≤ last_rank r rs)
  bounds q one = member_bounds r rs (ap is_strictly_increasing (sym e) ∙ from_T _ s.increasing) q (sym (ap (list_any (eq_by_cmp nat_cmp q)) e) ∙ sym (has-in_order s q) ∙ one)

  some_words : WordsMake (r / 64) (words_over s (r ∷ rs)) s
  some_words =
      let low : ℕ = r / 64 in
      let last : ℕ = last_rank r rs in
      let n : ℕ = suc (last / 64) - low in
      let ws : List ℕ = map (set_word s) (range_with_len low n) in
      let order = bounds last (is_one last (last_any r rs)) in
      let up : low ≤ last / 64 = omega (arith, order.0) in
      let top : last < RANK_LIMIT = small last (is_one last (last_any r rs)) in
      let long : length ws ≡ n = length-map-range_with_len (set_word s) low n in
      let before : (k : ℕ) → k < low → set_word s k ≡ 0 = λ k lt. set_word_none s k (λ q d. elim (cases_Bool (has s q)) [ inl one ↦ absurd (omega (arith, d, (bounds q one).0)) | inr other ↦ other ]) in
      let after : (k : ℕ) → low + n ≤ k → set_word s k ≡ 0 = λ k le. set_word_none s k (λ q d. elim (cases_Bool (has s q)) [ inl one ↦ absurd (omega (arith, d, (bounds q one).1)) | inr other ↦ other ]) in
      let each : (k : ℕ) → word_at low ws k ≡ set_word s k = word_at-words (set_word s) low n before after in
      let end : low + length ws - 1 ≡ last / 64 = omega arith in
      record {
        trimmed = record {
          within_limit = omega arith;
          nothing = λ none_left. absurd (omega arith);
          first = λ _. omega (arith, first_word low ws, each low, set_word_some s r (is_one r (head_any r rs)));
          last = λ some. omega (arith, last_word low ws some, ap (word_at low ws) end, each (last / 64), set_word_some s last (is_one last (last_any r rs)));
        };
        fit = λ k. elim (cases_lt k n) [
          | inl lt ↦ omega (arith, get_or-map-range_with_len (set_word s) low n k (low + k) 0 lt (omega arith), set_word_lt s (low + k))
          | inr past ↦ omega (arith, get_or_past ws k 0 (omega arith))
        ];
        is = same_ranks _ _ (λ q.
            let whole : 64 * (q / 64) + q % 64 ≡ q = omega arith in
            has-ranks_in low ws q ∙ ap (λ w. is_bit w (q % 64)) (each (q / 64)) ∙ set_word_bit s (q / 64) (q % 64) (omega arith) ∙ ap (has s) whole);
      }

words_make : (s : Ranks) → ((r : ℕ) → has s r ≡ true → r < RANK_LIMIT) → (xs : List ℕ) → in_order s ≡ xs → WordsMake (word_of_first xs) (words_over s xs) s
words_make s small [] e = record {
  trimmed = record { within_limit = omega arith; nothing = λ _. refl; first = λ some. absurd (omega (arith, some)); last = λ some. absurd (omega (arith, some)) };
  fit = λ k. let zero_word : ℕ = 0 in omega (arith, get_or_past [] k zero_word (omega arith));
  is = ranks_in-none 0 ∙ sym (none_from_size s (ap length e));
}
words_make s small (r ∷ rs) e = some_words s small r rs e

-- the words of a set make the set
pub words_of_make : (s : Ranks) → ((r : ℕ) → has s r ≡ true → r < RANK_LIMIT) → WordsMake (offset_of s) (words_of s) s
unfolding words_of
words_of_make s small = words_make s small (in_order s) refl

-- the ranks of trimmed words are below the limit
pub ranks_small : (o : ℕ) (ws : List ℕ) → AreWords o ws → (r : ℕ) → has (ranks_in o ws) r ≡ true → r < RANK_LIMIT
ranks_small o ws h r one = let inside = rank_within o ws r one in omega (arith, inside.1, h.within_limit)

module _ (o : ℕ) (ws : List ℕ) (h : AreWords o ws) (fit : FitInWords ws) where
  same_words : (offset_of (ranks_in o ws) ≡ o) × (words_of (ranks_in o ws) ≡ ws)
  same_words =
      let s : Ranks = ranks_in o ws in
      let made = words_of_make s (ranks_small o ws h) in
      trimmed_same (offset_of s) (words_of s) o ws made.trimmed h (words_from_set (offset_of s) (words_of s) o ws (word_at-small (offset_of s) (words_of s) made.fit) (word_at-small o ws fit) made.is)

  -- the set of trimmed words begins with the first of them
  pub offset_of_ranks : offset_of (ranks_in o ws) ≡ o
  offset_of_ranks = same_words.0

  -- the words of the set of trimmed words are these words
  pub words_of_ranks : words_of (ranks_in o ws) ≡ ws
  words_of_ranks = same_words.1

  -- trimmed words make a set that is not empty, where there are any
  pub some_ranks : ws ≢ [] → ranks_in o ws ≢ none
  some_ranks some empty =
      let more : 0 < length ws = elim (cases_lt 0 (length ws)) [ inl lt ↦ lt | inr le ↦ absurd (some (no_words ws (omega arith))) ] in
      let first : 0 < word_at o ws o = omega (arith, first_word o ws, h.first more) in
      let one = rank_in_word o ws o first (word_at-small o ws fit o) in
      true≢false (sym one.is_member ∙ ap (λ s. has s one.rank) empty ∙ has-none one.rank)
    where
      no_words : (xs : List ℕ) → length xs ≡ 0 → xs ≡ []
      no_words [] e = refl
      no_words (x ∷ xs) e = absurd (omega arith)

or_none : (a b : Bool) → b ≡ false → (a || b) ≡ a
or_none true b e = refl
or_none false b e = e

-- one word more adds the ranks of that word
pub ranks_in-push : (o : ℕ) (ws : List ℕ) (w : ℕ) → ranks_in o (ws ++ w ∷ []) ≡ union (ranks_in o ws) (ranks_in (o + length ws) (w ∷ []))
ranks_in-push o ws w = same_ranks _ _ (λ r. let k : ℕ = r / 64 in let i : ℕ = r % 64 in
    has-ranks_in o (ws ++ w ∷ []) r
    ∙ elim (cases_lt k (o + length ws)) [
      | inl lt ↦ ap (λ x. is_bit x i) (before k lt) ∙ sym (or_none (bit_in o ws r) (bit_in (o + length ws) (w ∷ []) r) (no_bit _ i (word_at-below (o + length ws) (w ∷ []) k lt)))
      | inr le ↦ ap (λ x. is_bit x i) (from k le) ∙ ap (λ b. b || bit_in (o + length ws) (w ∷ []) r) (sym (no_bit (word_at o ws k) i (word_at-beyond o ws k le)))
    ]
    ∙ sym (has-union (ranks_in o ws) (ranks_in (o + length ws) (w ∷ [])) r ∙ (λ j. has-ranks_in o ws r j || has-ranks_in (o + length ws) (w ∷ []) r j)))
  where
    before : (k : ℕ) → k < o + length ws → word_at o (ws ++ w ∷ []) k ≡ word_at o ws k
    before k lt = elim (cases_lt k o) [
      | inl low ↦ word_at-below o (ws ++ w ∷ []) k low ∙ sym (word_at-below o ws k low)
      | inr up ↦ word_at-from o (ws ++ w ∷ []) k up ∙ get_or_append_left ws (w ∷ []) 0 (k - o) (omega arith) ∙ sym (word_at-from o ws k up)
    ]

    from : (k : ℕ) → o + length ws ≤ k → word_at o (ws ++ w ∷ []) k ≡ word_at (o + length ws) (w ∷ []) k
    from k le =
        let e : (k - o) - length ws ≡ k - (o + length ws) = omega arith in
        word_at-from o (ws ++ w ∷ []) k (omega arith) ∙ get_or-append_right ws (w ∷ []) (length ws) (k - o) 0 refl (omega arith) ∙ ap (λ x. get_or (w ∷ []) x 0) e ∙ sym (word_at-from (o + length ws) (w ∷ []) k le)
