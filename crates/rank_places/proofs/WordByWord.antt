-- What the numbers of words become, one word after another.
use Rattle.std.proofs.Common.{◌≡◌, ℕ, ◌+◌, ◌-◌, ◌*◌, ◌/◌, ◌%◌, ◌<◌, ◌≤◌, Bool, true, List, [], ◌∷◌, length, get_or, take, sym, ap, ◌∙◌, inl, inr, arith}
use Rattle.std.proofs.lemmas.Bool.{cases_lt, true≢false}
use Rattle.std.proofs.lemmas.List.{get_or-take, length-take, take_all, take_more}
use Rattle.rank_set.specs.Ranks.{Ranks, none, has, union, has-none}
use Rattle.rank_set.specs.Words.{is_bit, word_at, ranks_in}
use Rattle.rank_set.proofs.WordSets.{has-ranks_in, no_bit, ranks_in-none, word_at-below, word_at-from, word_at-beyond}
use Rattle.rank_set.proofs.WordLists.{ranks_in-push}
use Rattle.rank_places.specs.Table.{Becomes, image}
use Rattle.rank_places.proofs.Bits.{word_low, word_high}
use Rattle.rank_places.proofs.Images.{AreInside, image_from, image_union, image_none, becomes_increases}

module _ (o : ℕ) (ws : List ℕ) where
  -- the first words
  abbrev pub firsts : ℕ → Ranks
  firsts k = ranks_in o (take k ws)

  abbrev pub word_set : ℕ → Ranks
  word_set k = ranks_in (o + k) (get_or ws k 0 ∷ [])

  first_below : (k x : ℕ) → has (firsts k) x ≡ true → x < 64 * (o + k)
  first_below k x one = elim (cases_lt x (64 * (o + k))) [
    | inl lt ↦ lt
    | inr past ↦ absurd (true≢false (sym one ∙ has-ranks_in o (take k ws) x ∙ no_bit _ (x % 64) (word_at-beyond o (take k ws) (x / 64) (omega (arith, past, length-take k ws)))))
  ]

  word_from : (k x : ℕ) → has (word_set k) x ≡ true → 64 * (o + k) ≤ x
  word_from k x one = elim (cases_lt x (64 * (o + k))) [
    | inl low ↦ absurd (true≢false (sym one ∙ word_low (o + k) (get_or ws k 0) x low))
    | inr up ↦ up
  ]

  first_in : (k x : ℕ) → has (firsts k) x ≡ true → has (ranks_in o ws) x ≡ true
  first_in k x one = has-ranks_in o ws x ∙ ap (λ w. is_bit w (x % 64)) (sym here) ∙ sym (has-ranks_in o (take k ws) x) ∙ one
    where
      here : word_at o (take k ws) (x / 64) ≡ word_at o ws (x / 64)
      here = elim (cases_lt (x / 64) o) [
        | inl low ↦ word_at-below o (take k ws) (x / 64) low ∙ sym (word_at-below o ws (x / 64) low)
        | inr up ↦ word_at-from o (take k ws) (x / 64) up ∙ get_or-take k ws (x / 64 - o) 0 (omega (arith, up, first_below k x one)) ∙ sym (word_at-from o ws (x / 64) up)
      ]

  word_in : (k x : ℕ) → has (word_set k) x ≡ true → has (ranks_in o ws) x ≡ true
  word_in k x one =
      let up = word_from k x one in
      let down : x < 64 * (o + k + 1) = elim (cases_lt x (64 * (o + k + 1))) [
        | inl lt ↦ lt
        | inr past ↦ absurd (true≢false (sym one ∙ word_high (o + k) (get_or ws k 0) x past))
      ] in
      let at : x / 64 ≡ o + k = omega (arith, up, down) in
      let d : (o + k) - o ≡ k = omega arith in
      let z : (o + k) - (o + k) ≡ 0 = omega arith in
      has-ranks_in o ws x
      ∙ ap (λ w. is_bit w (x % 64)) (ap (word_at o ws) at ∙ word_at-from o ws (o + k) (omega arith) ∙ ap (λ j. get_or ws j 0) d ∙ sym (ap (word_at (o + k) (get_or ws k 0 ∷ [])) at ∙ word_at-from (o + k) (get_or ws k 0 ∷ []) (o + k) (omega arith) ∙ ap (λ j. get_or (get_or ws k 0 ∷ []) j 0) z))
      ∙ sym (has-ranks_in (o + k) (get_or ws k 0 ∷ []) x) ∙ one

  module _ (back : Bool) (cover s : Ranks) (within : AreInside back cover s) (is : ranks_in o ws ≡ s) where
    -- each word's numbers become others
    pub word_inside : (k : ℕ) → AreInside back cover (word_set k)
    word_inside k x one = within x (sym (ap (λ t. has t x) is) ∙ word_in k x one)

    firsts_inside : (k : ℕ) → AreInside back cover (firsts k)
    firsts_inside k x one = within x (sym (ap (λ t. has t x) is) ∙ first_in k x one)

    -- greater ones than those of the words before
    pub word_above : (k : ℕ) (out : Ranks) → out ≡ image back cover (firsts k) → (q x y : ℕ) → has out q ≡ true → 64 * (o + k) ≤ x → Becomes back cover x y → q < y
    word_above k out made q x y there le becomes =
        let f = image_from back cover (firsts k) (firsts_inside k) q (sym (ap (λ t. has t q) made) ∙ there) in
        becomes_increases back cover f.0 q x y f.2 becomes (omega (arith, first_below k f.0 f.1, le))

    -- one word more
    pub word_more : (k : ℕ) (out new : Ranks) → k < length ws → out ≡ image back cover (firsts k) → new ≡ union out (image back cover (word_set k)) → new ≡ image back cover (firsts (k + 1))
    word_more k out new lt made more =
        let long : length (take k ws) ≡ k = omega (arith, length-take k ws, lt) in
        more ∙ ap (λ t. union t (image back cover (word_set k))) made ∙ sym (image_union back cover (firsts k) (word_set k) (firsts_inside k) (word_inside k))
        ∙ ap (image back cover) (sym (ap (ranks_in o) (take_more ws k 0 lt) ∙ ranks_in-push o (take k ws) (get_or ws k 0) ∙ ap (λ n. union (firsts k) (ranks_in (o + n) (get_or ws k 0 ∷ []))) long))

    -- all words
    pub words_done : (k : ℕ) → length ws ≤ k → image back cover (firsts k) ≡ image back cover s
    words_done k le = ap (image back cover) (ap (ranks_in o) (take_all k ws le) ∙ is)

    -- none yet
    pub words_start : (out : Ranks) → out ≡ none → out ≡ image back cover (firsts 0)
    words_start out e = e ∙ sym (image_none back cover (firsts 0) (λ x. ap (λ t. has t x) (ranks_in-none o) ∙ has-none x))
