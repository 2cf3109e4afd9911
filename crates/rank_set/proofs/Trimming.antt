-- Words that are trimmed at both ends, and words that reach further.
use Rattle.std.proofs.Common.{[], ◌∷◌, ◌≡◌, ℕ, ◌+◌, ◌-◌, ◌<◌, ◌≤◌, max, min, List, ◌++◌, length, get_or, take, drop, replicate, length-append, refl, sym, ap, ◌∙◌, inl, inr, arith}
use Rattle.std.specs.Prelude.{bit_or}
use Rattle.std.proofs.lemmas.Bool.{cases_lt}
use Rattle.std.proofs.lemmas.List.{get_or_past, get_or_append_left, get_or-append_right, get_or-replicate, length-replicate, get_or-take, get_or-drop, length-take, length-drop, take-append-le}
use Rattle.std.proofs.lemmas.Nat.{le_or_l, le_or_r}
use Rattle.rank_set.specs.declared.TheConstants.{WORD_LIMIT}
use Rattle.rank_set.specs.Ranks.{Ranks}
use Rattle.rank_set.specs.Words.{word_at, ranks_in, AreWords, ExtendsTo}
use Rattle.rank_set.proofs.Changes.{or_at}
use Rattle.rank_set.proofs.WordSets.{word_at-below, word_at-from, word_at-beyond, ranks_in-same}

-- the first word
pub first_word : (o : ℕ) (ws : List ℕ) → word_at o ws o ≡ get_or ws 0 0
first_word o ws = let e : o - o ≡ 0 = omega arith in word_at-from o ws o (omega arith) ∙ ap (λ i. get_or ws i 0) e

-- the last word
pub last_word : (o : ℕ) (ws : List ℕ) → 0 < length ws → word_at o ws (o + length ws - 1) ≡ get_or ws (length ws - 1) 0
last_word o ws some = let e : (o + length ws - 1) - o ≡ length ws - 1 = omega arith in word_at-from o ws (o + length ws - 1) (omega arith) ∙ ap (λ i. get_or ws i 0) e

-- trimmed words that reach far enough
pub covers_itself : (o : ℕ) (ws : List ℕ) (low high : ℕ) → AreWords o ws → low < high → o ≤ low → high ≤ o + length ws → ExtendsTo o ws low high o ws
covers_itself o ws low high h some begins stops =
    let more : 0 < length ws = elim (cases_lt 0 (length ws)) [ inl lt ↦ lt | inr none ↦ let z : o ≡ 0 = h.nothing (omega arith) in absurd (omega arith) ] in
    record {
      within_limit = h.within_limit;
      same = λ k. refl;
      begins = begins;
      stops = stops;
      first = λ _. omega (arith, first_word o ws, h.first more);
      last = λ _. omega (arith, last_word o ws more, h.last more);
    }

-- zeros before and after words change no word
pub padded_word : (o : ℕ) (ws : List ℕ) (start m : ℕ) → (0 < length ws → start ≤ o) → (k : ℕ) → word_at start ((replicate (o - start) 0 ++ ws) ++ replicate m 0) k ≡ word_at o ws k
padded_word o ws start m begins k =
    let front : List ℕ = replicate (o - start) 0 in
    let none : ℕ = 0 in
    let long : length front ≡ o - start = length-replicate (o - start) none in
    let both : length (front ++ ws) ≡ (o - start) + length ws = omega (arith, length-append front ws) in
    elim (cases_lt k start) [
      | inl lt ↦ word_at-below start _ k lt ∙ sym (elim (cases_lt k o) [
        | inl low ↦ word_at-below o ws k low
        | inr up ↦ word_at-beyond o ws k (elim (cases_lt 0 (length ws)) [ inl more ↦ absurd (omega (arith, begins more)) | inr none ↦ omega arith ])
      ])
      | inr from ↦ word_at-from start _ k from ∙ elim (cases_lt k o) [
        | inl low ↦ get_or_append_left (front ++ ws) (replicate m 0) 0 (k - start) (omega arith) ∙ get_or_append_left front ws 0 (k - start) (omega arith) ∙ get_or-replicate (o - start) (k - start) 0 0 (omega arith) ∙ sym (word_at-below o ws k low)
        | inr up ↦ elim (cases_lt k (o + length ws)) [
          | inl inside ↦
              let s : start ≤ o = begins (omega arith) in
              let e : (k - start) - (o - start) ≡ k - o = omega arith in
              get_or_append_left (front ++ ws) (replicate m 0) 0 (k - start) (omega arith) ∙ get_or-append_right front ws (o - start) (k - start) 0 long (omega arith) ∙ ap (λ i. get_or ws i 0) e ∙ sym (word_at-from o ws k up)
          | inr past ↦ elim (cases_lt (k - start) (length (front ++ ws))) [
            | inl inner ↦ get_or_append_left (front ++ ws) (replicate m 0) 0 (k - start) inner ∙ get_or-append_right front ws (o - start) (k - start) 0 long (omega arith) ∙ get_or_past ws ((k - start) - (o - start)) 0 (elim (cases_lt 0 (length ws)) [ inl more ↦ omega (arith, begins more) | inr none ↦ omega arith ])
                ∙ sym (word_at-beyond o ws k past)
            | inr outer ↦ get_or-append_right (front ++ ws) (replicate m 0) (length (front ++ ws)) (k - start) 0 refl outer ∙ zeros ((k - start) - length (front ++ ws)) ∙ sym (word_at-beyond o ws k past)
          ]
        ]
      ]
    ]
  where
    zeros : (i : ℕ) → (let none : ℕ = 0 in get_or (replicate m none) i 0 ≡ none)
    zeros i = let none : ℕ = 0 in elim (cases_lt i m) [ inl lt ↦ get_or-replicate m i 0 0 lt | inr past ↦ get_or_past (replicate m none) i 0 (omega (arith, length-replicate m none)) ]

-- trimmed words, with words before and after them
pub covers_wider : (o : ℕ) (ws : List ℕ) (low high start stop : ℕ) (xs : List ℕ) → AreWords o ws → low < high → high ≤ WORD_LIMIT → (length ws ≡ 0 → start ≡ low) → (0 < length ws → start ≡ min low o) → stop ≡ max high (o + length ws)
    → ((k : ℕ) → word_at start xs k ≡ word_at o ws k) → start + length xs ≡ stop → ExtendsTo o ws low high start xs
covers_wider o ws low high start stop xs h some within_limit alone beside end same long =
    let begins : start ≤ low = elim (cases_lt 0 (length ws)) [ inl more ↦ let e : start ≡ min low o = beside more in omega arith | inr none ↦ let e : start ≡ low = alone (omega arith) in omega arith ] in
    let fits : o + length ws ≤ WORD_LIMIT = h.within_limit in
    record {
      within_limit = omega arith;
      same = same;
      begins = begins;
      stops = omega arith;
      first = λ lt. elim (cases_lt 0 (length ws)) [
        | inl more ↦ let e : start ≡ o = (let m : start ≡ min low o = beside more in omega arith) in omega (arith, same start, ap (word_at o ws) e, first_word o ws, h.first more)
        | inr none ↦ let e : start ≡ low = alone (omega arith) in absurd (omega arith)
      ];
      last = λ lt. elim (cases_lt 0 (length ws)) [
        | inl more ↦ let e : start + length xs - 1 ≡ o + length ws - 1 = omega arith in omega (arith, same (start + length xs - 1), ap (word_at o ws) e, last_word o ws more, h.last more)
        | inr none ↦ let z : o ≡ 0 = h.nothing (omega arith) in absurd (omega arith)
      ];
    }

-- trimmed words, with zeros after them
pub covers_longer : (o : ℕ) (ws : List ℕ) (low high : ℕ) (xs : List ℕ) → AreWords o ws → low < high → high ≤ WORD_LIMIT → 0 < length ws → o ≤ low → o + length ws < high → xs ≡ ws ++ replicate (high - o - length ws) 0 → ExtendsTo o ws low high o xs
covers_longer o ws low high xs h order within_limit some begins short is =
    let n : ℕ = high - o - length ws in
    let none : ℕ = 0 in
    let z : o - o ≡ 0 = omega arith in
    let same : (k : ℕ) → word_at o xs k ≡ word_at o ws k =
    λ k. ap (λ ys. word_at o ys k) (is ∙ ap (λ m. (replicate m 0 ++ ws) ++ replicate n 0) (sym z)) ∙ padded_word o ws o n (λ _. omega arith) k in
    let long : length xs ≡ length ws + n = ap length is ∙ length-append ws (replicate n none) ∙ ap (λ m. length ws + m) (length-replicate n none) in
    record {
      within_limit = omega arith;
      same = same;
      begins = begins;
      stops = omega arith;
      first = λ _. omega (arith, same o, first_word o ws, h.first some);
      last = λ lt. absurd (omega arith);
    }

-- zeros where there were no words
pub covers_new : (o : ℕ) (ws : List ℕ) (low high : ℕ) (xs : List ℕ) → AreWords o ws → low < high → high ≤ WORD_LIMIT → length ws ≡ 0 → xs ≡ ws ++ replicate (high - low - length ws) 0 → ExtendsTo o ws low high low xs
covers_new o [] low high xs h order within_limit none is =
    let n : ℕ = high - low - 0 in
    let zero_word : ℕ = 0 in
    let at : o ≡ 0 = h.nothing refl in
    let z : o - low ≡ 0 = omega arith in
    let same : (k : ℕ) → word_at low xs k ≡ word_at o [] k =
    λ k. ap (λ ys. word_at low ys k) (is ∙ ap (λ m. (replicate m 0 ++ []) ++ replicate n 0) (sym z)) ∙ padded_word o [] low n (λ more. absurd (omega (arith, more))) k in
    let long : length xs ≡ n = ap length is ∙ length-replicate n zero_word in
    covers_wider o [] low high low high xs h order within_limit (λ _. refl) (λ more. absurd (omega (arith, more))) (omega arith) same (omega arith)
covers_new o (w ∷ ws) low high xs h order within_limit none is = absurd (omega (arith, none))

-- words that reach far enough are trimmed once bits are set in the first and in the last that is asked for
pub covered_trimmed : (o : ℕ) (ws : List ℕ) (low high a : ℕ) (xs new : List ℕ) (f : ℕ → ℕ) → ExtendsTo o ws low high a xs → low < high → length new ≡ length xs → ((k : ℕ) → word_at a new k ≡ bit_or (word_at a xs k) (f k)) → 0 < f low → 0 < f (high - 1) → AreWords a new
covered_trimmed o ws low high a xs new f c some long each at_low at_high =
    let begins : a ≤ low = c.begins in
    let stops : high ≤ a + length xs = c.stops in
    let fits : a + length xs ≤ WORD_LIMIT = c.within_limit in
    let more : 0 < length new = omega arith in
    record {
      within_limit = omega arith;
      nothing = λ e. absurd (omega arith);
      first = λ _. elim (cases_lt a low) [
        | inl lt ↦ omega (arith, first_word a new, each a, le_or_l (word_at a xs a) (f a), c.first lt)
        | inr le ↦ let e : a ≡ low = omega arith in omega (arith, first_word a new, each a, le_or_r (word_at a xs a) (f a), ap f e)
      ];
      last = λ _. let p : a + length new - 1 ≡ a + length xs - 1 = omega arith in elim (cases_lt high (a + length xs)) [
        | inl lt ↦ omega (arith, last_word a new more, ap (word_at a new) p, each (a + length xs - 1), le_or_l (word_at a xs (a + length xs - 1)) (f (a + length xs - 1)), c.last lt)
        | inr le ↦ let e : a + length xs - 1 ≡ high - 1 = omega arith in omega (arith, last_word a new more, ap (word_at a new) p, each (a + length xs - 1), le_or_r (word_at a xs (a + length xs - 1)) (f (a + length xs - 1)), ap f e)
      ];
    }

-- words with further bits set are trimmed, and each is the old one with those bits
pub record HasBits (o : ℕ) (ws : List ℕ) (f : ℕ → ℕ) (a : ℕ) (new : List ℕ) : Type 0 where
  pub words : AreWords a new
  pub each : (k : ℕ) → word_at a new k ≡ bit_or (word_at o ws k) (f k)

-- bits are set in words that reach far enough
pub covered_bits : (o : ℕ) (ws : List ℕ) (low high a : ℕ) (xs seen new : List ℕ) (f : ℕ → ℕ) → ExtendsTo o ws low high a xs → low < high → seen ≡ xs → length new ≡ length seen → ((j : ℕ) → get_or new j 0 ≡ bit_or (get_or seen j 0) (f (a + j)))
    → ((k : ℕ) → k < low → f k ≡ 0) → 0 < f low → 0 < f (high - 1) → HasBits o ws f a new
covered_bits o ws low high a xs seen new f c some is long each zeros at_low at_high =
    let begins : a ≤ low = c.begins in
    let set : (k : ℕ) → word_at a new k ≡ bit_or (word_at a xs k) (f k) = or_at a xs new f (λ j. each j ∙ ap (λ ys. bit_or (get_or ys j 0) (f (a + j))) is) (λ k lt. zeros k (omega arith)) in
    record {
      words = covered_trimmed o ws low high a xs new f c some (long ∙ ap length is) set at_low at_high;
      each = λ k. set k ∙ ap (λ w. bit_or w (f k)) (c.same k);
    }

-- words of which the part from place front up to place end is left, and all others are 0
pub record IsPart (ws new : List ℕ) (front end : ℕ) : Type 0 where
  pub within : end ≤ length ws
  pub front_zeros : (j : ℕ) → j < front → get_or ws j 0 ≡ 0
  pub end_zeros : (j : ℕ) → end ≤ j → get_or ws j 0 ≡ 0
  pub begins : front < length ws → 0 < get_or ws front 0
  pub stops : 0 < end → 0 < get_or ws (end - 1) 0
  pub is : new ≡ take (end - front) (drop front ws ++ take front ws)

-- the first word that is not 0 stands before the end
pub front_before_end : (ws : List ℕ) (front end : ℕ) → ((j : ℕ) → j < front → get_or ws j 0 ≡ 0) → (0 < end → 0 < get_or ws (end - 1) 0) → 0 < end → front < end
front_before_end ws front end zeros stops some = elim (cases_lt front end) [
  | inl lt ↦ lt
  | inr le ↦ absurd (omega (arith, zeros (end - 1) (omega arith), stops some))
]

-- words that make a set
pub record MakesSet (o : ℕ) (ws : List ℕ) (s : Ranks) : Type 0 where
  pub words : AreWords o ws
  pub is : ranks_in o ws ≡ s

-- the part without the zeros at both ends is trimmed, and makes the same set
pub part_words : (o : ℕ) (ws new : List ℕ) (front end : ℕ) → o + length ws ≤ WORD_LIMIT → 0 < end → IsPart ws new front end → MakesSet (o + front) new (ranks_in o ws)
part_words o ws new front end within_limit some h =
    let lt : front < end = front_before_end ws front end h.front_zeros h.stops some in
    let within : end ≤ length ws = h.within in
    let part : new ≡ take (end - front) (drop front ws) = h.is ∙ take-append-le (end - front) (drop front ws) (take front ws) (omega (arith, length-drop front ws)) in
    let long : length new ≡ end - front = ap length part ∙ length-take (end - front) (drop front ws) ∙ omega (arith, length-drop front ws) in
    let at : (j : ℕ) → j < end - front → get_or new j 0 ≡ get_or ws (front + j) 0 = λ j l. ap (λ xs. get_or xs j 0) part ∙ get_or-take (end - front) (drop front ws) j 0 l ∙ get_or-drop front ws j 0 in
    record {
      words = record {
        within_limit = omega arith;
        nothing = λ e. absurd (omega arith);
        first = λ _. (let e : front + 0 ≡ front = omega arith in omega (arith, at 0 (omega arith), ap (λ i. get_or ws i 0) e, h.begins (omega arith)));
        last = λ _. (let e : front + (length new - 1) ≡ end - 1 = omega (arith, long) in omega (arith, at (length new - 1) (omega (arith, long)), ap (λ i. get_or ws i 0) e, h.stops some));
      };
      is = ranks_in-same (o + front) new o ws (λ k. elim (cases_lt k (o + front)) [
        | inl low ↦ word_at-below (o + front) new k low ∙ elim (cases_lt k o) [
          | inl lower ↦ sym (word_at-below o ws k lower)
          | inr up ↦ sym (word_at-from o ws k up ∙ h.front_zeros (k - o) (omega arith))
        ]
        | inr up ↦ elim (cases_lt k (o + end)) [
          | inl inside ↦ word_at-from (o + front) new k up ∙ at (k - (o + front)) (omega arith) ∙ (let e : front + (k - (o + front)) ≡ k - o = omega arith in ap (λ i. get_or ws i 0) e) ∙ sym (word_at-from o ws k (omega arith))
          | inr past ↦ word_at-beyond (o + front) new k (omega (arith, long)) ∙ sym (word_at-from o ws k (omega arith) ∙ h.end_zeros (k - o) (omega arith))
        ]
      ]);
    }
