-- Numbers that are moved by whole words.
use Rattle.std.proofs.Common.{◌≡◌, ℕ, ◌+◌, ◌-◌, ◌*◌, ◌/◌, ◌%◌, ◌<◌, ◌≤◌, Bool, true, List, [], ◌∷◌, length, get_or, ◌^◌, ◌≢◌, sym, ap, ◌∙◌, subst, inl, inr, arith, w64}
use Rattle.std.specs.Prelude.{slice_get, Some, ◌||◌}
use Rattle.std.specs.Int.{trailing_zeros}
use Rattle.std.specs.List.{list_any}
use Rattle.std.specs.Ordering.{nat_cmp, eq_by_cmp}
use Rattle.rank_places.proofs.Places.{same}
use Rattle.std.proofs.lemmas.Bool.{cases_lt, true≢false}
use Rattle.rank_set.specs.declared.TheConstants.{RANK_LIMIT, WORD_LIMIT}
use Rattle.rank_set.specs.Ranks.{Ranks, none, has, in_order, is_strictly_increasing, from_T, has-in_order, same_ranks}
use Rattle.rank_set.specs.Words.{is_bit, word_at, ranks_in, AreWords, offset_of, word_of_first}
use Rattle.rank_set.specs.WordLists.{words_of}
use Rattle.rank_set.proofs.WordSets.{has-ranks_in, no_bit, no_ranks, word_at-below, word_at-from}
use Rattle.rank_set.proofs.WordLists.{ranks_small, words_of_make, member_bounds}
use Rattle.rank_places.specs.Table.{Becomes, image, AreMoved}
use Rattle.rank_places.proofs.Bits.{lowest}
use Rattle.rank_places.proofs.Images.{AreInside, image_at, image_from, becomes_one, both_ways}

-- the word with the same distance from the first
word_with : (o p : ℕ) (ws : List ℕ) (j k : ℕ) → o ≤ j → p ≤ k → j - o ≡ k - p → word_at o ws j ≡ word_at p ws k
word_with o p ws j k up down e = word_at-from o ws j up ∙ ap (λ i. get_or ws i 0) e ∙ sym (word_at-from p ws k down)

module _ (back : Bool) (cover s : Ranks) (within : AreInside back cover s) (first last target : ℕ) (run : AreMoved back cover first last target) (aligned : first % 64 ≡ target % 64) (low : (x : ℕ) → has s x ≡ true → first ≤ x) (high : (x : ℕ) → has s x ≡ true → x ≤ last) (o : ℕ) (ws : List ℕ) (is : ranks_in o ws ≡ s) (start : first / 64 ≤ o) where
  abbrev moved_to : ℕ
  moved_to = target / 64 + (o - first / 64)

  from_low : (x : ℕ) → has s x ≡ true → o ≤ x / 64
  from_low x one = elim (cases_lt (x / 64) o) [
    | inl lt ↦ absurd (true≢false (sym one ∙ sym (ap (λ t. has t x) is) ∙ has-ranks_in o ws x ∙ no_bit _ (x % 64) (word_at-below o ws (x / 64) lt)))
    | inr le ↦ le
  ]

  same_bit : (x y : ℕ) → o ≤ x / 64 → y ≡ target + (x - first) → first ≤ x → has (ranks_in moved_to ws) y ≡ has s x
  same_bit x y up e le =
      let k : y / 64 ≡ target / 64 + (x / 64 - first / 64) = omega (arith, e, aligned, le) in
      let m : y % 64 ≡ x % 64 = omega (arith, e, aligned, le) in
      has-ranks_in moved_to ws y ∙ (λ i. is_bit (word_with moved_to o ws (y / 64) (x / 64) (omega (arith, k, up, start)) up (omega (arith, k, up, start)) i) (m i))
      ∙ sym (has-ranks_in o ws x) ∙ ap (λ t. has t x) is

  -- the same words are what the numbers become
  pub whole_words : ranks_in moved_to ws ≡ image back cover s
  whole_words = same_ranks _ _ (λ y. both_ways (has (ranks_in moved_to ws) y) (has (image back cover s) y)
      (λ one.
      let up : moved_to ≤ y / 64 = elim (cases_lt (y / 64) moved_to) [
        | inl lt ↦ absurd (true≢false (sym one ∙ has-ranks_in moved_to ws y ∙ no_bit _ (y % 64) (word_at-below moved_to ws (y / 64) lt)))
        | inr le ↦ le
      ] in
      let x : ℕ = 64 * (o + (y / 64 - moved_to)) + y % 64 in
      let d : x / 64 ≡ o + (y / 64 - moved_to) = omega arith in
      let m : x % 64 ≡ y % 64 = omega arith in
      let there : has s x ≡ true =
      sym (ap (λ t. has t x) is) ∙ has-ranks_in o ws x ∙ (λ i. is_bit (word_with o moved_to ws (x / 64) (y / 64) (omega (arith, d)) up (omega (arith, d)) i) (m i)) ∙ sym (has-ranks_in moved_to ws y) ∙ one in
      let le = low x there in
      let e : target + (x - first) ≡ y = omega (arith, d, m, aligned, le, up, start) in
      image_at back cover s within x y (subst (Becomes back cover x) e (run.moves x le (high x there))) ∙ there)
      (λ one.
      let f = image_from back cover s within y one in
      let le = low f.0 f.1 in
      let e : y ≡ target + (f.0 - first) = becomes_one back cover f.0 y (target + (f.0 - first)) f.2 (run.moves f.0 le (high f.0 f.1)) in
      same_bit f.0 y (from_low f.0 f.1) e le ∙ f.1))

-- the words stay trimmed
pub moved_trimmed : (s : Ranks) (ws : List ℕ) → AreWords (offset_of s) ws → ranks_in (offset_of s) ws ≡ s → ws ≡ words_of s → s ≢ none → (from to : ℕ) → from ≤ offset_of s → ((x : ℕ) → has s x ≡ true → to + (x / 64 - from) < WORD_LIMIT) → AreWords (to + (offset_of s - from)) ws
moved_trimmed s ws trimmed is list some from to start below = record {
  within_limit = within;
  nothing = λ e. absurd (some (sym is ∙ no_ranks (offset_of s) ws e));
  first = trimmed.first;
  last = trimmed.last;
}
  where
    more : 0 < length ws
    more = elim (cases_lt 0 (length ws)) [ inl lt ↦ lt | inr le ↦ absurd (some (sym is ∙ no_ranks (offset_of s) ws (omega (arith, le)))) ]

    small : (r : ℕ) → has s r ≡ true → r < RANK_LIMIT
    small r one = ranks_small (offset_of s) ws trimmed r (ap (λ t. has t r) is ∙ one)

    within : to + (offset_of s - from) + length ws ≤ WORD_LIMIT
    within =
        let o : ℕ = offset_of s in
        let n : ℕ = length ws - 1 in
        let w : ℕ = get_or ws n 0 in
        let fits : w < 2 ^ 64 = subst (λ xs. get_or xs n 0 < 2 ^ 64) (sym list) ((words_of_make s small).fit n) in
        let low = lowest w (trimmed.last more) fits in
        let z : ℕ = trailing_zeros w64 w in
        let x : ℕ = 64 * (o + n) + z in
        let d : x / 64 ≡ o + n = omega (arith, low.0) in
        let m : x % 64 ≡ z = omega (arith, low.0) in
        let k : x / 64 - o ≡ n = omega (arith, d) in
        let there : has s x ≡ true =
        sym (ap (λ t. has t x) is) ∙ has-ranks_in o ws x ∙ (λ i. is_bit ((word_at-from o ws (x / 64) (omega (arith, d)) ∙ ap (λ j. get_or ws j 0) k) i) (m i)) ∙ low.1 in
        let lt = below x there in
        omega (arith, lt, d, more, start)

-- the least member
pub least_there : (s : Ranks) (r : ℕ) → slice_get (in_order s) 0 ≡ Some r → (has s r ≡ true) × ((x : ℕ) → has s x ≡ true → r ≤ x)
least_there s r least =
    let all = go (in_order s) (from_T _ s.increasing) least in
    (has-in_order s r ∙ all.0, λ x one. all.1 x (sym (has-in_order s x) ∙ one))
  where
    go : (ys : List ℕ) → is_strictly_increasing ys ≡ true → slice_get ys 0 ≡ Some r → (list_any (eq_by_cmp nat_cmp r) ys ≡ true) × ((x : ℕ) → list_any (eq_by_cmp nat_cmp x) ys ≡ true → r ≤ x)
    go [] h is = absurd cc
    go (y ∷ ys) h is =
        let e : r ≡ y = cc in
        (ap (λ b. b || list_any (eq_by_cmp nat_cmp r) ys) (same r y e), λ x one. omega (arith, e, (member_bounds y ys h x one).0))

-- the first word is the least member's
pub least_word : (s : Ranks) (r : ℕ) → slice_get (in_order s) 0 ≡ Some r → offset_of s ≡ r / 64
least_word s r least = go (in_order s) least
  where
    go : (ys : List ℕ) → slice_get ys 0 ≡ Some r → word_of_first ys ≡ r / 64
    go [] is = absurd cc
    go (y ∷ ys) is = let e : y ≡ r = cc in ap (λ n. n / 64) e
