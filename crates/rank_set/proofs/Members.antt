-- The members of a set of words in order.
use Rattle.std.proofs.Common.{◌≡◌, ◌≢◌, ℕ, zero, suc, ◌+◌, ◌-◌, ◌*◌, ◌/◌, ◌%◌, ◌^◌, ◌<◌, ◌≤◌, Bool, true, false, cond, eqb, Some, List, [], ◌∷◌, ◌++◌, length, get_or, refl, sym, ap, ◌∙◌, subst, inl, inr, arith, w64}
use Rattle.std.proofs.Math.Nat.{pow-suc}
use Rattle.std.specs.Prelude.{count_ones, slice_get}
use Rattle.std.specs.Int.{bit_at, trailing_zeros}
use Rattle.std.specs.Int.Count.{ones_step}
use Rattle.std.specs.List.{range_with_len, filter, sum_by}
use Rattle.std.proofs.lemmas.Bool.{cases_lt}
use Rattle.std.proofs.lemmas.Nat.{ones_le_self}
use Rattle.std.proofs.lemmas.Nat.Bits.{bit_at-suc, bit_at_lowest, bit_at-zero, bit_at-trailing_zeros}
use Rattle.std.proofs.lemmas.List.Elements.{filter-append}
use Rattle.std.proofs.lemmas.List.Sums.{sum_by-cons}
use Rattle.rank_set.specs.Ranks.{in_order, size, set_of, in_order-increasing}
use Rattle.rank_set.specs.Words.{is_bit, word_at, bit_in, ranks_in, AreWords, word_of_first, offset_of}
use Rattle.rank_set.proofs.Ordered.{in_order-those, range_increases}
use Rattle.rank_set.proofs.WordSets.{word_at-below, word_at-from}

-- the members of a set of words, in order
pub members : (o : ℕ) (ws : List ℕ) → in_order (ranks_in o ws) ≡ filter (bit_in o ws) (range_with_len 0 (64 * (o + length ws)))
unfolding ranks_in
members o ws =
    let n : ℕ = 64 * (o + length ws) in
    in_order-those (bit_in o ws) (set_of (range_with_len 0 n)) ∙ ap (filter (bit_in o ws)) (in_order-increasing (range_with_len 0 n) (range_increases 0 n))

-- how many members a set of words has
pub count_members : (o : ℕ) (ws : List ℕ) → size (ranks_in o ws) ≡ length (filter (bit_in o ws) (range_with_len 0 (64 * (o + length ws))))
count_members o ws = ap length (members o ws)

-- a range in two parts
pub range_parts : (a m n : ℕ) → range_with_len a (m + n) ≡ range_with_len a m ++ range_with_len (a + m) n
range_parts a zero n = let e : a ≡ a + 0 = omega arith in let f : 0 + n ≡ n = omega arith in (λ i. range_with_len (e i) (f i))
range_parts a (suc m) n =
    let e : suc m + n ≡ suc (m + n) = omega arith in
    let f : (a + 1) + m ≡ a + suc m = omega arith in
    ap (range_with_len a) e ∙ ap (λ xs. a ∷ xs) (range_parts (a + 1) m n ∙ ap (λ b. range_with_len (a + 1) m ++ range_with_len b n) f)

-- a filter that nothing of a range passes is empty
pub none_pass : (t : ℕ → Bool) (a n : ℕ) → ((i : ℕ) → i < n → t (a + i) ≡ false) → filter t (range_with_len a n) ≡ []
none_pass t a zero each = refl
none_pass t a (suc n) each =
    let e : a + 0 ≡ a = omega arith in
    let here : t a ≡ false = ap t (sym e) ∙ each 0 (omega arith) in
    ap (λ b. cond b (a ∷ filter t (range_with_len (a + 1) n)) (filter t (range_with_len (a + 1) n))) here
    ∙ none_pass t (a + 1) n (λ i lt. let f : (a + 1) + i ≡ a + suc i = omega arith in ap t f ∙ each (suc i) (omega arith))

bit_value : (w : ℕ) (n : ℕ) → length (cond (eqb (w % 2) 1) (n ∷ []) []) ≡ w % 2
bit_value w n = small (w % 2) (omega arith)
  where
    small : (m : ℕ) → m < 2 → length (cond (eqb m 1) (n ∷ []) []) ≡ m
    small zero lt = refl
    small (suc zero) lt = refl
    small (suc (suc m)) lt = absurd (omega arith)

length_first : (b : Bool) (a : ℕ) (xs : List ℕ) → length (cond b (a ∷ xs) xs) ≡ length (cond b (a ∷ []) []) + length xs
length_first true a xs = omega arith
length_first false a xs = omega arith

-- the bits of one word
pub count_word : (t : ℕ → Bool) (d a w : ℕ) → w < 2 ^ d → ((i : ℕ) → i < d → t (a + i) ≡ is_bit w i) → length (filter t (range_with_len a d)) ≡ count_ones w
count_word t zero a w small each = omega (arith, ones_le_self w)
count_word t (suc d) a w small each =
    let e : a + 0 ≡ a = omega arith in
    let here : t a ≡ eqb (w % 2) 1 = ap t (sym e) ∙ each 0 (omega arith) ∙ ap (λ x. eqb x 1) (bit_at_lowest w) in
    let half : w / 2 < 2 ^ d = omega (arith, pow-suc 2 d) in
    let rest : length (filter t (range_with_len (a + 1) d)) ≡ count_ones (w / 2) = count_word t d (a + 1) (w / 2) half (λ i lt.
    let f : (a + 1) + i ≡ a + suc i = omega arith in ap t f ∙ each (suc i) (omega arith) ∙ ap (λ x. eqb x 1) (bit_at-suc w i)) in
    ap (λ b. length (cond b (a ∷ filter t (range_with_len (a + 1) d)) (filter t (range_with_len (a + 1) d)))) here
    ∙ length_first (eqb (w % 2) 1) a (filter t (range_with_len (a + 1) d))
    ∙ omega (arith, bit_value w a, rest, ones_step w)

length_two : (xs ys : List ℕ) → length (xs ++ ys) ≡ length xs + length ys
length_two [] ys = omega arith
length_two (x ∷ xs) ys = omega (arith, length_two xs ys)

-- the bits of words that follow one another
pub count_words : (t : ℕ → Bool) (o : ℕ) (ws : List ℕ) → ((k : ℕ) → get_or ws k 0 < 2 ^ 64) → ((k i : ℕ) → k < length ws → i < 64 → t (64 * (o + k) + i) ≡ is_bit (get_or ws k 0) i) → length (filter t (range_with_len (64 * o) (64 * length ws))) ≡ sum_by count_ones ws
count_words t o [] small each = refl
count_words t o (w ∷ ws) small each =
    let n : ℕ = length ws in
    let e : 64 * suc n ≡ 64 + 64 * n = omega arith in
    let f : 64 * o + 64 ≡ 64 * (o + 1) = omega arith in
    let first = count_word t 64 (64 * o) w (small 0) (λ i lt. let g : 64 * o + i ≡ 64 * (o + 0) + i = omega arith in ap t g ∙ each 0 i (omega arith) lt) in
    let rest = count_words t (o + 1) ws (λ k. small (suc k)) (λ k i lk li. let g : 64 * ((o + 1) + k) + i ≡ 64 * (o + suc k) + i = omega arith in ap t g ∙ each (suc k) i (omega arith) li) in
    ap (λ xs. length (filter t xs)) (ap (range_with_len (64 * o)) e ∙ range_parts (64 * o) 64 (64 * n) ∙ ap (λ a. range_with_len (64 * o) 64 ++ range_with_len a (64 * n)) f)
    ∙ ap length (filter-append t (range_with_len (64 * o) 64) (range_with_len (64 * (o + 1)) (64 * n)))
    ∙ length_two (filter t (range_with_len (64 * o) 64)) (filter t (range_with_len (64 * (o + 1)) (64 * n)))
    ∙ (λ i. first i + rest i)
    ∙ sym (sum_by-cons count_ones w ws)

-- below the first word there is nothing
from_words : (o : ℕ) (ws : List ℕ) → filter (bit_in o ws) (range_with_len 0 (64 * (o + length ws))) ≡ filter (bit_in o ws) (range_with_len (64 * o) (64 * length ws))
from_words o ws =
    let t : ℕ → Bool = bit_in o ws in
    let e : 64 * (o + length ws) ≡ 64 * o + 64 * length ws = omega arith in
    ap (λ n. filter t (range_with_len 0 n)) e ∙ ap (filter t) (range_parts 0 (64 * o) (64 * length ws) ∙ ap (λ a. range_with_len 0 (64 * o) ++ range_with_len a (64 * length ws)) (let f : 0 + 64 * o ≡ 64 * o = omega arith in f))
    ∙ filter-append t (range_with_len 0 (64 * o)) (range_with_len (64 * o) (64 * length ws))
    ∙ ap (λ xs. xs ++ filter t (range_with_len (64 * o) (64 * length ws))) (none_pass t 0 (64 * o) (λ i lt.
    ap (λ w. is_bit w ((0 + i) % 64)) (word_at-below o ws ((0 + i) / 64) (omega arith)) ∙ ap (λ x. eqb x 1) (bit_at-zero ((0 + i) % 64))))

-- as many ranks as there are bits that are 1
pub size-ranks_in : (o : ℕ) (ws : List ℕ) → ((k : ℕ) → get_or ws k 0 < 2 ^ 64) → size (ranks_in o ws) ≡ sum_by count_ones ws
size-ranks_in o ws small = count_members o ws ∙ ap length (from_words o ws) ∙ count_words (bit_in o ws) o ws small (λ k i lk li.
    let d : (64 * (o + k) + i) / 64 ≡ o + k = omega arith in
    let m : (64 * (o + k) + i) % 64 ≡ i = omega arith in
    let s : (o + k) - o ≡ k = omega arith in
    (λ j. is_bit (word_at o ws (d j)) (m j)) ∙ ap (λ w. is_bit w i) (word_at-from o ws (o + k) (omega arith) ∙ ap (λ x. get_or ws x 0) s))

-- the first that passes is the first of a filter
pub first_passing : (t : ℕ → Bool) (m n : ℕ) → m < n → ((i : ℕ) → i < m → t i ≡ false) → t m ≡ true → slice_get (filter t (range_with_len 0 n)) 0 ≡ Some m
first_passing t m n lt before here =
    let e : n ≡ m + suc (n - (m + 1)) = omega arith in
    let rest : List ℕ = filter t (range_with_len (m + 1) (n - (m + 1))) in
    let z : 0 + m ≡ m = omega arith in
    ap (λ xs. slice_get (filter t xs) 0) (ap (range_with_len 0) e ∙ range_parts 0 m (suc (n - (m + 1))) ∙ ap (λ a. range_with_len 0 m ++ range_with_len a (suc (n - (m + 1)))) z)
    ∙ ap (λ xs. slice_get xs 0) (filter-append t (range_with_len 0 m) (m ∷ range_with_len (m + 1) (n - (m + 1))) ∙ ap (λ xs. xs ++ cond (t m) (m ∷ rest) rest) (none_pass t 0 m (λ i l. let f : 0 + i ≡ i = omega arith in ap t f ∙ before i l)))
    ∙ ap (λ b. slice_get (cond b (m ∷ rest) rest) 0) here

-- the lowest bit of the first word
pub least_in : (o : ℕ) (ws : List ℕ) (w : ℕ) → AreWords o ws → 0 < length ws → w ≡ get_or ws 0 0 → w < 2 ^ 64 → slice_get (in_order (ranks_in o ws)) 0 ≡ Some (o * 64 + trailing_zeros w64 w)
least_in o ws w h some is small =
    let z : ℕ = trailing_zeros w64 w in
    let facts = bit_at-trailing_zeros w64 w (rw is (h.first some)) small in
    let inside : z < 64 = facts.0 in
    let d : (o * 64 + z) / 64 ≡ o = omega (arith, inside) in
    let m : (o * 64 + z) % 64 ≡ z = omega (arith, inside) in
    let s : o - o ≡ 0 = omega arith in
    let at : word_at o ws o ≡ w = word_at-from o ws o (omega arith) ∙ ap (λ x. get_or ws x 0) s ∙ sym is in
    ap (λ xs. slice_get xs 0) (members o ws) ∙ first_passing (bit_in o ws) (o * 64 + z) (64 * (o + length ws)) (omega (arith, inside)) (λ i lt. elim (cases_lt i (o * 64)) [
      | inl low ↦ ap (λ v. is_bit v (i % 64)) (word_at-below o ws (i / 64) (omega arith)) ∙ ap (λ x. eqb x 1) (bit_at-zero (i % 64))
      | inr up ↦
          let k : i / 64 ≡ o = omega (arith, inside) in
          let zero_there : bit_at w (i % 64) ≡ 0 = facts.2 (i % 64) (omega (arith, inside)) in
          ap (λ v. is_bit v (i % 64)) (ap (word_at o ws) k ∙ at) ∙ ap (λ x. eqb x 1) zero_there
    ]) ((λ j. is_bit (word_at o ws (d j)) (m j)) ∙ ap (λ v. is_bit v z) at ∙ ap (λ x. eqb x 1) facts.1)

-- the first word is that of the least rank
pub offset_is : (o : ℕ) (ws : List ℕ) → AreWords o ws → ((k : ℕ) → get_or ws k 0 < 2 ^ 64) → offset_of (ranks_in o ws) ≡ o
offset_is o [] h small = ap word_of_first (members o [] ∙ none_at 0 o) ∙ sym (h.nothing refl)
  where
    none_at : (a n : ℕ) → filter (bit_in o []) (range_with_len a (64 * (n + 0))) ≡ []
    none_at a n = none_pass (bit_in o []) a (64 * (n + 0)) (λ i lt. ap (λ w. is_bit w ((a + i) % 64)) (nothing_at ((a + i) / 64)) ∙ ap (λ x. eqb x 1) (bit_at-zero ((a + i) % 64)))
      where
        nothing_at : (k : ℕ) → word_at o [] k ≡ 0
        nothing_at k = elim (cases_lt k o) [ inl lt ↦ word_at-below o [] k lt | inr le ↦ word_at-from o [] k le ∙ Rattle.std.proofs.lemmas.List.get_or_past [] (k - o) 0 (omega arith) ]
offset_is o (w ∷ ws) h small =
    head_is (in_order (ranks_in o (w ∷ ws))) (o * 64 + trailing_zeros w64 w) (least_in o (w ∷ ws) w h (omega arith) refl (small 0))
    ∙ (let inside = (bit_at-trailing_zeros w64 w (h.first (omega arith)) (small 0)).0 in omega (arith, inside))
  where
    head_is : (xs : List ℕ) (m : ℕ) → slice_get xs 0 ≡ Some m → word_of_first xs ≡ m / 64
    head_is [] m e = absurd (Rattle.std.proofs.lemmas.Option.none-some m e)
    head_is (x ∷ xs) m e = ap (λ (v : Rattle.std.proofs.Common.Option ℕ). Rattle.std.specs.Option.unwrap_or v x / 64) e
