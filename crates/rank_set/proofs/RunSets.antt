-- Sets that are runs of neighbours, and the words of such runs.
use Rattle.std.proofs.Common.{◌≡◌, ℕ, suc, ◌+◌, ◌-◌, ◌*◌, ◌/◌, ◌%◌, ◌^◌, ◌<◌, ◌≤◌, min, max, nat_lt, Bool, true, false, not, ◌&&◌, ◌||◌, eqb, List, get_or, refl, sym, ap, ◌∙◌, inl, inr, arith}
use Rattle.std.specs.Prelude.{bit_and, bit_or}
use Rattle.std.specs.Int.{bit_at}
use Rattle.std.specs.List.{range_with_len}
use Rattle.std.specs.Ordering.{nat_cmp, eq_by_cmp}
use Rattle.std.specs.Cmp.{unsigned_tied}
use Rattle.std.proofs.lemmas.Bool.{cases_lt, eq-eqb, ne_eqb, lt-ltb, le-ltb, true≢false}
use Rattle.std.proofs.lemmas.List.Folds.{list_any_at, list_any_none}
use Rattle.std.proofs.lemmas.List.FromFn.{length-range_with_len, get_or-range_with_len}
use Rattle.std.proofs.lemmas.Nat.Bits.{bit_at_and, bit_at_mask_inside, bit_at_mask_below, bit_at_mask_above, bit_at_ones, bit_at_ones_above, ones_shl, ones_shr, same_from_bits}
use Rattle.rank_set.specs.Ranks.{Ranks, has, with_rank, union, has-set_of, has-union, has-with_rank, same_ranks}
use Rattle.rank_set.specs.Runs.{ranks_between, IsRun}
use Rattle.rank_set.specs.Words.{is_bit, word_at, bit_in, ranks_in, run_word, IsNext}
use Rattle.rank_set.proofs.WordSets.{has-ranks_in, is_bit-or, no_bit}

-- the ranks from the first to the last are those that are neither less than the one nor greater than the other
pub has-ranks_between : (first last r : ℕ) → has (ranks_between first last) r ≡ (not (nat_lt r first) && not (nat_lt last r))
unfolding ranks_between
has-ranks_between first last r =
    let n : ℕ = suc last - first in
    let ns : List ℕ = range_with_len first n in
    has-set_of ns r ∙ elim (cases_lt r first) [
      | inl low ↦ list_any_none (eq_by_cmp nat_cmp r) ns (λ k d lt. unsigned_tied r (get_or ns k d) ∙ ne_eqb r (get_or ns k d) (λ e. omega (arith, e, get_or-range_with_len first n k d (omega (arith, lt, length-range_with_len first n))))) ∙ sym (rw (lt-ltb r first low) refl)
      | inr from ↦ elim (cases_lt last r) [
        | inl past ↦ list_any_none (eq_by_cmp nat_cmp r) ns (λ k d lt. unsigned_tied r (get_or ns k d) ∙ ne_eqb r (get_or ns k d) (λ e. omega (arith, e, lt, length-range_with_len first n, get_or-range_with_len first n k d (omega (arith, lt, length-range_with_len first n))))) ∙ sym (rw (le-ltb r first from, lt-ltb last r past) refl)
        | inr within ↦ list_any_at (eq_by_cmp nat_cmp r) ns (r - first) 0 (omega (arith, length-range_with_len first n)) (unsigned_tied r (get_or ns (r - first) 0) ∙ eq-eqb r (get_or ns (r - first) 0) (omega (arith, get_or-range_with_len first n (r - first) 0 (omega arith)))) ∙ sym (rw (le-ltb r first from, le-ltb last r within) refl)
      ]
    ]

-- the ranks of a run
pub between_in : (low high q : ℕ) → low ≤ q → q ≤ high → has (ranks_between low high) q ≡ true
between_in low high q a b = has-ranks_between low high q ∙ (λ i. not (le-ltb q low a i) && not (le-ltb high q b i))

-- ranks below a run
pub between_low : (low high q : ℕ) → q < low → has (ranks_between low high) q ≡ false
between_low low high q lt = has-ranks_between low high q ∙ ap (λ t. not t && not (nat_lt high q)) (lt-ltb q low lt)

-- ranks past a run
pub between_high : (low high q : ℕ) → high < q → has (ranks_between low high) q ≡ false
between_high low high q lt = has-ranks_between low high q ∙ ap (λ t. not (nat_lt q low) && not t) (lt-ltb high q lt) ∙ and_false (not (nat_lt q low))
  where
    and_false : (b : Bool) → (b && false) ≡ false
    and_false true = refl
    and_false false = refl

-- runs that overlap or touch are one run
pub union_merged : (s : Ranks) (a b c d low high : ℕ) → a ≤ b → c ≤ d → c ≤ b + 1 → a ≤ d + 1 → low ≡ min a c → high ≡ max b d → union s (ranks_between low high) ≡ union (union s (ranks_between a b)) (ranks_between c d)
union_merged s a b c d low high some more near near_2 least greatest = same_ranks _ _ (λ q.
    has-union s (ranks_between low high) q ∙ ap (λ t. has s q || t) (both q) ∙ or_assoc (has s q) (has (ranks_between a b) q) (has (ranks_between c d) q)
    ∙ sym (has-union (union s (ranks_between a b)) (ranks_between c d) q ∙ ap (λ t. t || has (ranks_between c d) q) (has-union s (ranks_between a b) q)))
  where
    or_assoc : (x y z : Bool) → (x || (y || z)) ≡ ((x || y) || z)
    or_assoc true y z = refl
    or_assoc false y z = refl

    or_true : (x : Bool) → (x || true) ≡ true
    or_true true = refl
    or_true false = refl

    neither : (q : ℕ) → has (ranks_between low high) q ≡ false → has (ranks_between a b) q ≡ false → has (ranks_between c d) q ≡ false → has (ranks_between low high) q ≡ (has (ranks_between a b) q || has (ranks_between c d) q)
    neither q x y z = x ∙ sym (λ i. y i || z i)

    second : (q : ℕ) → low ≤ q → q ≤ high → c ≤ q → q ≤ d → has (ranks_between low high) q ≡ (has (ranks_between a b) q || has (ranks_between c d) q)
    second q l h from to = between_in low high q l h ∙ sym (ap (λ t. has (ranks_between a b) q || t) (between_in c d q from to) ∙ or_true (has (ranks_between a b) q))

    both : (q : ℕ) → has (ranks_between low high) q ≡ (has (ranks_between a b) q || has (ranks_between c d) q)
    both q = elim (cases_lt q a) [
      | inl under ↦ elim (cases_lt q c) [
        | inl lower ↦ neither q (between_low low high q (omega arith)) (between_low a b q under) (between_low c d q lower)
        | inr from ↦ second q (omega arith) (omega arith) from (omega arith)
      ]
      | inr up ↦ elim (cases_lt b q) [
        | inl past ↦ elim (cases_lt d q) [
          | inl after ↦ neither q (between_high low high q (omega arith)) (between_high a b q past) (between_high c d q after)
          | inr to ↦ second q (omega arith) (omega arith) (omega arith) to
        ]
        | inr inner ↦ between_in low high q (omega arith) (omega arith) ∙ sym (ap (λ t. t || has (ranks_between c d) q) (between_in a b q up inner))
      ]
    ]

-- a run of one rank adds that rank
pub union_one : (s : Ranks) (r : ℕ) → union s (ranks_between r r) ≡ with_rank s r
union_one s r = same_ranks _ _ (λ q. has-union s (ranks_between r r) q ∙ ap (λ b. has s q || b) (has-ranks_between r r q ∙ same q) ∙ swap (has s q) (eq_by_cmp nat_cmp q r) ∙ sym (has-with_rank s r q))
  where
    swap : (p q : Bool) → (p || q) ≡ (q || p)
    swap true true = refl
    swap true false = refl
    swap false true = refl
    swap false false = refl

    same : (q : ℕ) → (not (nat_lt q r) && not (nat_lt r q)) ≡ eq_by_cmp nat_cmp q r
    same q = elim (cases_lt q r) [
      | inl low ↦ (λ i. not (lt-ltb q r low i) && not (nat_lt r q)) ∙ sym (unsigned_tied q r ∙ ne_eqb q r (λ e. omega arith))
      | inr from ↦ elim (cases_lt r q) [
        | inl past ↦ (λ i. not (le-ltb q r from i) && not (lt-ltb r q past i)) ∙ sym (unsigned_tied q r ∙ ne_eqb q r (λ e. omega arith))
        | inr within ↦ (λ i. not (le-ltb q r from i) && not (le-ltb r q within i)) ∙ sym (unsigned_tied q r ∙ eq-eqb q r (omega arith))
      ]
    ]

-- no run, no ranks more
pub union_no_run : (s : Ranks) (first last : ℕ) → last < first → s ≡ union s (ranks_between first last)
union_no_run s first last lt = same_ranks _ _ (λ q. sym (has-union s (ranks_between first last) q ∙ ap (λ b. has s q || b) (has-ranks_between first last q ∙ none q) ∙ or_false (has s q)))
  where
    or_false : (a : Bool) → (a || false) ≡ a
    or_false true = refl
    or_false false = refl

    none : (q : ℕ) → (not (nat_lt q first) && not (nat_lt last q)) ≡ false
    none q = elim (cases_lt q first) [
      | inl low ↦ rw (lt-ltb q first low) refl
      | inr from ↦ rw (le-ltb q first from, lt-ltb last q (omega arith)) refl
    ]

-- the bits of a word of a run
pub run_bit : (first last k i : ℕ) → i < 64 → is_bit (run_word first last k) i ≡ (not (nat_lt (64 * k + i) first) && not (nat_lt last (64 * k + i)))
unfolding run_word
run_bit first last k i small =
    let low : ℕ = first - 64 * k in
    let high : ℕ = min 64 (suc last - 64 * k) in
    elim (cases_lt (64 * k + i) first) [
      | inl before ↦ ap (λ x. eqb x 1) (bit_at_mask_below low high i (omega arith)) ∙ sym (rw (lt-ltb (64 * k + i) first before) refl)
      | inr from ↦ elim (cases_lt last (64 * k + i)) [
        | inl past ↦ ap (λ x. eqb x 1) (bit_at_mask_above low high i (omega arith)) ∙ sym (rw (le-ltb (64 * k + i) first from, lt-ltb last (64 * k + i) past) refl)
        | inr within ↦ ap (λ x. eqb x 1) (bit_at_mask_inside low high i (omega arith) (omega arith)) ∙ sym (rw (le-ltb (64 * k + i) first from, le-ltb last (64 * k + i) within) refl)
      ]
    ]

-- a word has a bit of a run exactly where the run has the rank
run_rank : (first last r : ℕ) → is_bit (run_word first last (r / 64)) (r % 64) ≡ has (ranks_between first last) r
run_rank first last r =
    let e : 64 * (r / 64) + r % 64 ≡ r = omega arith in
    run_bit first last (r / 64) (r % 64) (omega arith) ∙ ap (λ q. not (nat_lt q first) && not (nat_lt last q)) e ∙ sym (has-ranks_between first last r)

-- words in which the bits of a run were set
pub ranks_in-run : (o : ℕ) (ws : List ℕ) (a : ℕ) (new : List ℕ) (first last : ℕ) → ((k : ℕ) → word_at a new k ≡ bit_or (word_at o ws k) (run_word first last k)) → ranks_in a new ≡ union (ranks_in o ws) (ranks_between first last)
ranks_in-run o ws a new first last each = same_ranks _ _ (λ r.
    has-ranks_in a new r ∙ ap (λ w. is_bit w (r % 64)) (each (r / 64)) ∙ is_bit-or _ _ (r % 64)
    ∙ sym (has-union (ranks_in o ws) (ranks_between first last) r ∙ (λ i. has-ranks_in o ws r i || sym (run_rank first last r) i)))

-- a run has no bits in the words before and after it
pub no_run_word : (first last k : ℕ) → (k < first / 64 → run_word first last k ≡ 0) × (last / 64 < k → run_word first last k ≡ 0)
unfolding run_word
no_run_word first last k = (
  λ lt. same_from_bits _ 0 (λ i. elim (cases_lt i 64) [
    | inl small ↦ bit_at_mask_below (first - 64 * k) (min 64 (suc last - 64 * k)) i (omega arith) ∙ sym (Rattle.std.proofs.lemmas.Nat.Bits.bit_at-zero i)
    | inr large ↦ elim (cases_lt i (first - 64 * k)) [
      | inl low ↦ bit_at_mask_below (first - 64 * k) (min 64 (suc last - 64 * k)) i low ∙ sym (Rattle.std.proofs.lemmas.Nat.Bits.bit_at-zero i)
      | inr up ↦ bit_at_mask_above (first - 64 * k) (min 64 (suc last - 64 * k)) i (omega arith) ∙ sym (Rattle.std.proofs.lemmas.Nat.Bits.bit_at-zero i)
    ]
  ]),
  λ lt. same_from_bits _ 0 (λ i. bit_at_mask_above (first - 64 * k) (min 64 (suc last - 64 * k)) i (omega arith) ∙ sym (Rattle.std.proofs.lemmas.Nat.Bits.bit_at-zero i)),
)

-- a word in the middle of a run has all bits
pub whole_word : (first last k : ℕ) → first ≤ 64 * k → 64 * k + 63 ≤ last → run_word first last k ≡ 18446744073709551615
unfolding run_word
whole_word first last k from to =
    let high : min 64 (suc last - 64 * k) ≡ 64 = omega arith in
    let low : first - 64 * k ≡ 0 = omega arith in
    (λ i. 2 ^ high i - 2 ^ low i)

positive : (w i : ℕ) → is_bit w i ≡ true → 0 < w
positive w i one = elim (cases_lt 0 w) [ inl lt ↦ lt | inr none ↦ absurd (true≢false (sym one ∙ no_bit w i (omega arith))) ]

-- a run has bits in its first word and in its last
pub some_run_word : (first last : ℕ) → first ≤ last → (0 < run_word first last (first / 64)) × (0 < run_word first last (last / 64))
some_run_word first last le = (
  positive (run_word first last (first / 64)) (first % 64) (run_rank first last first ∙ has-ranks_between first last first ∙ rw (le-ltb first first (omega arith), le-ltb last first le) refl),
  positive (run_word first last (last / 64)) (last % 64) (run_rank first last last ∙ has-ranks_between first last last ∙ rw (le-ltb last first le, le-ltb last last (omega arith)) refl),
)

-- bits from one place to another, by two masks
pub two_masks : (from to : ℕ) → from < 64 → to < 64 → bit_and ((2 ^ 64 - 1) * 2 ^ from % 2 ^ 64) ((2 ^ 64 - 1) / 2 ^ (63 - to)) ≡ 2 ^ (to + 1) - 2 ^ from
two_masks from to a b =
    let n : 64 - (63 - to) ≡ to + 1 = omega arith in
    (λ i. bit_and (ones_shl 64 from (omega arith) i) ((ones_shr 64 (63 - to) (omega arith) ∙ ap (λ k. 2 ^ k - 1) n) i))
    ∙ same_from_bits _ _ (λ i. bit_at_and (2 ^ 64 - 2 ^ from) (2 ^ (to + 1) - 1) i ∙ elim (cases_lt i from) [
      | inl low ↦ (λ j. min (bit_at_mask_below from 64 i low j) (bit_at (2 ^ (to + 1) - 1) i)) ∙ zero_min _ ∙ sym (bit_at_mask_below from (to + 1) i low)
      | inr up ↦ elim (cases_lt i (to + 1)) [
        | inl inside ↦ (λ j. min (bit_at_mask_inside from 64 i up (omega arith) j) (bit_at_ones (to + 1) i inside j)) ∙ sym (bit_at_mask_inside from (to + 1) i up inside)
        | inr past ↦ ap (min (bit_at (2 ^ 64 - 2 ^ from) i)) (bit_at_ones_above (to + 1) i past) ∙ min_zero _ ∙ sym (bit_at_mask_above from (to + 1) i past)
      ]
    ])
  where
    zero_min : (x : ℕ) → min 0 x ≡ 0
    zero_min x = omega arith

    min_zero : (x : ℕ) → min x 0 ≡ 0
    min_zero x = omega arith

-- a word of a run, by the places of its first and its last bit
pub run_word_is : (first last k from to : ℕ) → from ≡ first - 64 * k → to + 1 ≡ min 64 (suc last - 64 * k) → 2 ^ (to + 1) - 2 ^ from ≡ run_word first last k
unfolding run_word
run_word_is first last k from to f t = (λ i. 2 ^ t i - 2 ^ f i)

-- the longest run from a place on
pub run_from : (o : ℕ) (ws : List ℕ) (from first end : ℕ) → IsNext o ws false from first → first < end → ((q : ℕ) → first ≤ q → q < end → bit_in o ws q ≡ true) → bit_in o ws end ≡ false → IsRun (ranks_in o ws) from first (end - 1)
run_from o ws from first end next lt within gap = record {
  start = next.start;
  some = omega arith;
  passed = λ q le l. has-ranks_in o ws q ∙ next.before q le l;
  within = λ q le l. has-ranks_in o ws q ∙ within q le (omega arith);
  ends = let e : suc (end - 1) ≡ end = omega arith in ap (has (ranks_in o ws)) e ∙ has-ranks_in o ws end ∙ gap;
}
