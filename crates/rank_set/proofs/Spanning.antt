-- Words in which all ranks of another set lie.
use Rattle.std.proofs.Common.{◌≡◌, ℕ, ◌+◌, ◌-◌, ◌*◌, ◌/◌, ◌%◌, ◌^◌, ◌<◌, ◌≤◌, nat_le, Bool, true, false, ◌&&◌, ◌||◌, List, [], ◌∷◌, length, get_or, refl, sym, ap, ◌∙◌, subst, inl, inr, arith, w64}
use Rattle.std.specs.Prelude.{bit_or}
use Rattle.std.specs.Int.{trailing_zeros}
use Rattle.std.specs.List.{list_any}
use Rattle.std.specs.Ordering.{nat_cmp, eq_by_cmp, is_eq}
use Rattle.std.specs.Cmp.{nat_cmp_total, tied_itself, unsigned_tied}
use Rattle.std.proofs.lemmas.Bool.{cases_Bool, cases_lt, true≢false, and_parts, and_from, or_cases, or_right, eqb-true, leb-true, le-leb}
use Rattle.std.proofs.lemmas.Nat.Bits.{bit_at-trailing_zeros}
use Rattle.rank_set.specs.Ranks.{Ranks, has, in_order, has-none, has-in_order, all_have, all_pass}
use Rattle.rank_set.specs.Words.{is_bit, word_at, ranks_in, AreWords, spans}
use Rattle.rank_set.proofs.WordSets.{word_at-below, word_at-beyond, has-ranks_in, no_bit, no_ranks}
use Rattle.rank_set.proofs.Trimming.{HasBits, covers_itself, covered_bits, first_word, last_word}

any_from : (test : ℕ → Bool) (rs : List ℕ) (a : ℕ) → list_any (eq_by_cmp nat_cmp a) rs ≡ true → test a ≡ true → list_any test rs ≡ true
any_from test [] a one here = absurd (true≢false (sym one))
any_from test (r ∷ rs) a one here = elim (or_cases (eq_by_cmp nat_cmp a r) (list_any (eq_by_cmp nat_cmp a) rs) one) [
  | inl same ↦ ap (λ b. b || list_any test rs) (ap test (sym (eqb-true a r (sym (unsigned_tied a r) ∙ same))) ∙ here)
  | inr later ↦ or_right (test r) (list_any test rs) (any_from test rs a later here)
]

-- a member that passes a test
pub any_member : (test : ℕ → Bool) (s : Ranks) (a : ℕ) → has s a ≡ true → test a ≡ true → list_any test (in_order s) ≡ true
any_member test s a one here = any_from test (in_order s) a (sym (has-in_order s a) ∙ one) here

-- a member of a set that passes a test
pub record Passes (test : ℕ → Bool) (s : Ranks) : Type 0 where
  pub rank : ℕ
  pub is_member : has s rank ≡ true
  pub passes : test rank ≡ true

found_in : (test : ℕ → Bool) (rs : List ℕ) → list_any test rs ≡ true → (a : ℕ) × (list_any (eq_by_cmp nat_cmp a) rs ≡ true) × (test a ≡ true)
found_in test [] e = absurd (true≢false (sym e))
found_in test (r ∷ rs) e = elim (or_cases (test r) (list_any test rs) e) [
  | inl here ↦ (r, ap (λ b. b || list_any (eq_by_cmp nat_cmp r) rs) (ap is_eq (tied_itself nat_cmp_total r)), here)
  | inr later ↦ let f = found_in test rs later in (f.0, or_right (eq_by_cmp nat_cmp f.0 r) (list_any (eq_by_cmp nat_cmp f.0) rs) f.1, f.2)
]

-- where a test finds a member, there is one that passes it
pub member_from_any : (test : ℕ → Bool) (s : Ranks) → list_any test (in_order s) ≡ true → Passes test s
member_from_any test s e = let f = found_in test (in_order s) e in record { rank = f.0; is_member = has-in_order s f.0 ∙ f.1; passes = f.2 }

-- a rank of a given word
pub record RankIn (s : Ranks) (k : ℕ) : Type 0 where
  pub rank : ℕ
  pub is_member : has s rank ≡ true
  pub word : rank / 64 ≡ k

-- a word that is not 0 has a rank
pub rank_in_word : (o : ℕ) (ws : List ℕ) (k : ℕ) → 0 < word_at o ws k → word_at o ws k < 2 ^ 64 → RankIn (ranks_in o ws) k
rank_in_word o ws k some small =
    let z : ℕ = trailing_zeros w64 (word_at o ws k) in
    let facts = bit_at-trailing_zeros w64 (word_at o ws k) some small in
    let low : z < 64 = facts.0 in
    let d : (64 * k + z) / 64 ≡ k = omega (arith, low) in
    let m : (64 * k + z) % 64 ≡ z = omega (arith, low) in
    record {
      rank = 64 * k + z;
      is_member = has-ranks_in o ws (64 * k + z) ∙ (λ i. is_bit (word_at o ws (d i)) (m i)) ∙ ap (λ x. Rattle.std.proofs.Common.eqb x 1) facts.1;
      word = d;
    }

-- a rank lies in one of the words
pub rank_within : (o : ℕ) (ws : List ℕ) (r : ℕ) → has (ranks_in o ws) r ≡ true → (o ≤ r / 64) × (r / 64 < o + length ws)
rank_within o ws r one = (
  elim (cases_lt (r / 64) o) [ inl lt ↦ absurd (true≢false (sym one ∙ has-ranks_in o ws r ∙ no_bit _ (r % 64) (word_at-below o ws (r / 64) lt))) | inr le ↦ le ],
  elim (cases_lt (r / 64) (o + length ws)) [ inl lt ↦ lt | inr past ↦ absurd (true≢false (sym one ∙ has-ranks_in o ws r ∙ no_bit _ (r % 64) (word_at-beyond o ws (r / 64) past))) ],
)

-- whether a rank lies in a set's words
in_span : Ranks → ℕ → Bool
in_span s r = list_any (λ a. nat_le (a / 64) (r / 64)) (in_order s) && list_any (λ b. nat_le (r / 64) (b / 64)) (in_order s)

spans_each : (s t : Ranks) → ((r : ℕ) → has t r ≡ true → in_span s r ≡ true) → spans s t ≡ true
unfolding spans in_span
spans_each s t each = all_pass (in_span s) (in_order t) (λ r one. each r (has-in_order t r ∙ one))

each_spanned : (s t : Ranks) → spans s t ≡ true → (r : ℕ) → has t r ≡ true → in_span s r ≡ true
unfolding spans in_span
each_spanned s t e r one = all_have (in_span s) (in_order t) r e (sym (has-in_order t r) ∙ one)

span_parts : (s : Ranks) (r : ℕ) → in_span s r ≡ true → Passes (λ a. nat_le (a / 64) (r / 64)) s × Passes (λ b. nat_le (r / 64) (b / 64)) s
unfolding in_span
span_parts s r e =
    let parts = and_parts (list_any (λ a. nat_le (a / 64) (r / 64)) (in_order s)) (list_any (λ b. nat_le (r / 64) (b / 64)) (in_order s)) e in
    (member_from_any (λ a. nat_le (a / 64) (r / 64)) s parts.0, member_from_any (λ b. nat_le (r / 64) (b / 64)) s parts.1)

span_from : (s : Ranks) (r a b : ℕ) → has s a ≡ true → has s b ≡ true → a / 64 ≤ r / 64 → r / 64 ≤ b / 64 → in_span s r ≡ true
unfolding in_span
span_from s r a b one two low high =
    and_from (list_any (λ a. nat_le (a / 64) (r / 64)) (in_order s)) (list_any (λ b. nat_le (r / 64) (b / 64)) (in_order s))
    (any_member (λ a. nat_le (a / 64) (r / 64)) s a one (le-leb (a / 64) (r / 64) low)) (any_member (λ b. nat_le (r / 64) (b / 64)) s b two (le-leb (r / 64) (b / 64) high))

module _ (o : ℕ) (ws : List ℕ) (p : ℕ) (vs : List ℕ) where
  -- no words are spanned by any
  pub spans_nothing : length vs ≡ 0 → spans (ranks_in o ws) (ranks_in p vs) ≡ true
  spans_nothing none_left = spans_each _ _ (λ r one. absurd (true≢false (sym one ∙ ap (λ s. has s r) (no_ranks p vs none_left) ∙ has-none r)))

  module _ (h : AreWords o ws) (small : (k : ℕ) → word_at o ws k < 2 ^ 64) where
    -- words within others are spanned by them
    pub spans_inner : 0 < length vs → o ≤ p → p + length vs ≤ o + length ws → spans (ranks_in o ws) (ranks_in p vs) ≡ true
    spans_inner more begins stops =
        let some : 0 < length ws = elim (cases_lt 0 (length ws)) [ inl lt ↦ lt | inr empty ↦ let z : o ≡ 0 = h.nothing (omega arith) in absurd (omega arith) ] in
        let a = rank_in_word o ws o (omega (arith, first_word o ws, h.first some)) (small o) in
        let b = rank_in_word o ws (o + length ws - 1) (omega (arith, last_word o ws some, h.last some)) (small (o + length ws - 1)) in
        spans_each _ _ (λ r one.
        let within = rank_within p vs r one in
        span_from (ranks_in o ws) r a.rank b.rank a.is_member b.is_member (omega (arith, a.word, within.0)) (omega (arith, b.word, within.1)))

  module _ (h : AreWords p vs) (small : (k : ℕ) → word_at p vs k < 2 ^ 64) where
    -- words that are spanned lie within
    pub inner_from_spans : 0 < length vs → spans (ranks_in o ws) (ranks_in p vs) ≡ true → (o ≤ p) × (p + length vs ≤ o + length ws)
    inner_from_spans more e =
        let a = rank_in_word p vs p (omega (arith, first_word p vs, h.first more)) (small p) in
        let b = rank_in_word p vs (p + length vs - 1) (omega (arith, last_word p vs more, h.last more)) (small (p + length vs - 1)) in
        let low = (span_parts (ranks_in o ws) a.rank (each_spanned _ _ e a.rank a.is_member)).0 in
        let high = (span_parts (ranks_in o ws) b.rank (each_spanned _ _ e b.rank b.is_member)).1 in
        let l : low.rank / 64 ≤ a.rank / 64 = leb-true _ _ low.passes in
        let g : b.rank / 64 ≤ high.rank / 64 = leb-true _ _ high.passes in (
          omega (arith, l, a.word, (rank_within o ws low.rank low.is_member).0),
          omega (arith, g, b.word, (rank_within o ws high.rank high.is_member).1),
        )

    -- words that begin or end elsewhere are not spanned
    pub spans_outer : 0 < length vs → ((o ≤ p) × (p + length vs ≤ o + length ws) → ⊥) → spans (ranks_in o ws) (ranks_in p vs) ≡ false
    spans_outer more out = elim (cases_Bool (spans (ranks_in o ws) (ranks_in p vs))) [
      | inl e ↦ absurd (out (inner_from_spans more e))
      | inr e ↦ e
    ]

-- the bits of trimmed words are set in words within which they lie
pub within_bits : (o : ℕ) (ws : List ℕ) (p : ℕ) (vs new : List ℕ) → AreWords o ws → AreWords p vs → 0 < length vs → o ≤ p → p + length vs ≤ o + length ws → length new ≡ length ws → ((j : ℕ) → get_or new j 0 ≡ bit_or (get_or ws j 0) (word_at p vs (o + j))) → HasBits o ws (word_at p vs) o new
within_bits o ws p vs new h others more begins stops long each =
    covered_bits o ws p (p + length vs) o ws ws new (word_at p vs) (covers_itself o ws p (p + length vs) h (omega arith) begins stops) (omega arith) refl long each (word_at-below p vs)
    (omega (arith, first_word p vs, others.first more)) (omega (arith, last_word p vs more, others.last more))
