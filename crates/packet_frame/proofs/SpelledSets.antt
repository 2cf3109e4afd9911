-- Spellings of sets, as words and as runs.
use Rattle.std.proofs.Common.{◌≡◌, ◌≢◌, ℕ, zero, suc, ◌+◌, ◌-◌, ◌*◌, ◌/◌, ◌%◌, ◌^◌, ◌<◌, ◌≤◌, Bool, true, false, not, ◌||◌, nat_eq, nat_le, nat_lt, List, [], ◌∷◌, ◌++◌, length, get_or, Option, Some, None, refl, sym, ap, subst, ◌∙◌, arith, inl, inr}
use Rattle.std.specs.List.{flat_map}
use Rattle.std.specs.Int.{w16, w32, w64, to_be_bytes}
use Rattle.std.proofs.lemmas.Bool.{cases_lt, true≢false}
use Rattle.std.proofs.lemmas.List.Concat.{flat_map-cons}
use Rattle.rank_set.specs.declared.TheConstants.{RANK_LIMIT}
use Rattle.rank_set.specs.Ranks.{Ranks, none, Has, in_order, none_from_size}
use Rattle.rank_set.specs.Runs.{runs_of, run_before, ranks_of_runs, AreRuns}
use Rattle.rank_set.specs.Words.{is_bit, word_at, ranks_in, offset_of}
use Rattle.rank_set.specs.WordLists.{words_of}
use Rattle.rank_set.proofs.WordSets.{word_at-below, word_at-from, word_at-beyond, word_at-small, has-ranks_in, no_bit, no_ranks}
use Rattle.rank_set.proofs.WordLists.{words_of_make}
use Rattle.rank_set.proofs.RunLists.{runs_of_are, runs_of_make, runs_of_count}
use Rattle.rank_set.proofs.Spanning.{rank_in_word}
use Rattle.rank_set.proofs.Trimming.{last_word}
use Rattle.packet_frame.specs.declared.error.FrameReason.{FrameReason}
use Rattle.packet_frame.specs.declared.error.FrameReason.TheVariants.{BadLength, NotCanonical, OverLimit}
use Rattle.packet_frame.specs.Fields.{whole, ◌>>=◌, Spells, Rules, broken, number, list_form}
use Rattle.packet_frame.specs.Frame.{if_needed, word_form, next_word, after_word, words_form, offset_form, word_count_form, set_form, run_count_form, first_rank_form, last_rank_form, run_form, next_run, after_run, runs_form}
use Rattle.packet_frame.specs.Spelling.{set_bytes, run_bytes, runs_bytes}
use Rattle.packet_frame.proofs.SpelledFields.{spells-bind, spells-end, spells-number, spells-then, stands16, stands32, stands64, below_is, at_most_is, some_is, obeyed}

-- ---- words

-- words that obey their rules, from an index on
abbrev AreSpelled : (ℕ → ℕ → Rules) → ℕ → Bool → List ℕ → Type 0
AreSpelled of_word index first [] = Unit {0}
AreSpelled of_word index first (w ∷ ws) = (broken ((not (first || nat_eq (length ws) 0) || not (nat_eq w 0), NotCanonical) ∷ of_word index w) ≡ None) × (w < 2 ^ 64) × AreSpelled of_word (suc index) false ws

not_zero : (n : ℕ) → nat_eq (suc n) 0 ≡ false
not_zero n = grind arith

or_true : (a : Bool) → (a || true) ≡ true
or_true true = refl
or_true false = refl

edge_obeyed : (first : Bool) (n w : ℕ) → (first ≡ true → 0 < w) → (n ≡ 0 → 0 < w) → (not (first || nat_eq n 0) || not (nat_eq w 0)) ≡ true
edge_obeyed true n w begins ends = some_is w (begins refl)
edge_obeyed false zero w begins ends = some_is w (ends refl)
edge_obeyed false (suc n) w begins ends = ap (λ b. not b || not (nat_eq w 0)) (not_zero n)

are_spelled : (of_word : ℕ → ℕ → Rules) (index : ℕ) (first : Bool) (ws : List ℕ) → ((k : ℕ) → get_or ws k 0 < 2 ^ 64) → (first ≡ true → 0 < length ws → 0 < get_or ws 0 0) → (0 < length ws → 0 < get_or ws (length ws - 1) 0)
    → ((k : ℕ) → k < length ws → broken (of_word (index + k) (get_or ws k 0)) ≡ None) → AreSpelled of_word index first ws
are_spelled of_word index first [] fit begins ends each = tt
are_spelled of_word index first (w ∷ ws) fit begins ends each =
    let here : index + 0 ≡ index = omega arith in
    let one : length (w ∷ ws) - 1 ≡ length ws = omega arith in
    let edge = edge_obeyed first (length ws) w (λ e. begins e (omega arith)) (λ e. subst (λ n. 0 < get_or (w ∷ ws) n 0) (one ∙ e) (ends (omega arith))) in
    (obeyed _ NotCanonical (of_word index w) edge (ap (λ n. broken (of_word n w)) (sym here) ∙ each 0 (omega arith)), fit 0, are_spelled of_word (suc index) false ws (λ k. fit (suc k)) (λ e. absurd (true≢false (sym e))) (λ some. last some (ends (omega arith))) (λ k lt. ap (λ n. broken (of_word n (get_or ws k 0))) (next k) ∙ each (suc k) (omega arith)))
  where
    next : (k : ℕ) → suc index + k ≡ index + suc k
    next k = omega arith

    last : 0 < length ws → 0 < get_or (w ∷ ws) (length (w ∷ ws) - 1) 0 → 0 < get_or ws (length ws - 1) 0
    last some h = let e : length (w ∷ ws) - 1 ≡ suc (length ws - 1) = omega arith in subst (λ n. 0 < get_or (w ∷ ws) n 0) e h

spells-words : (of_word : ℕ → ℕ → Rules) (index : ℕ) (first : Bool) (ws : List ℕ) → AreSpelled of_word index first ws → Spells (list_form (next_word of_word) after_word (index, first) (length ws)) (flat_map (to_be_bytes w64) ws) ws
unfolding word_form
spells-words of_word index first [] h = (refl, refl)
spells-words of_word index first (w ∷ ws) h =
    let rest = list_form (next_word of_word) after_word (suc index, false) (length ws) in
    subst (λ b. Spells (list_form (next_word of_word) after_word (index, first) (suc (length ws))) b (w ∷ ws)) (sym (flat_map-cons (to_be_bytes w64) w ws))
    (spells-then w64 (λ n. (not (first || nat_eq (length ws) 0) || not (nat_eq n 0), NotCanonical) ∷ of_word index n) (λ x. list_form (next_word of_word) after_word (suc index, false) (length ws) >>= λ xs. whole (x ∷ xs)) (to_be_bytes w64 w) (flat_map (to_be_bytes w64) ws) w (w ∷ ws)
    (stands64 w h.1) h.0
    (spells-end rest (λ xs. w ∷ xs) (flat_map (to_be_bytes w64) ws) ws (spells-words of_word (suc index) false ws h.2)))

-- the ranks of one of the words are ranks of all
one_word : (o : ℕ) (ws : List ℕ) (k r : ℕ) → k < length ws → Has r (ranks_in (o + k) (get_or ws k 0 ∷ [])) → Has r (ranks_in o ws)
one_word o ws k r lt one =
    let w = get_or ws k 0 in
    let bit : is_bit (word_at (o + k) (w ∷ []) (r / 64)) (r % 64) ≡ true = sym (has-ranks_in (o + k) (w ∷ []) r) ∙ one in
    elim (cases_lt (r / 64) (o + k)) [
      | inl low ↦ absurd (true≢false (sym bit ∙ no_bit _ (r % 64) (word_at-below (o + k) (w ∷ []) (r / 64) low)))
      | inr up ↦ elim (cases_lt (o + k) (r / 64)) [
        | inl high ↦ absurd (true≢false (sym bit ∙ no_bit _ (r % 64) (word_at-beyond (o + k) (w ∷ []) (r / 64) (omega arith))))
        | inr most ↦
            let here : r / 64 ≡ o + k = omega (arith, up, most) in
            let same : (o + k) - (o + k) ≡ 0 = omega arith in
            let place : (o + k) - o ≡ k = omega arith in
            let word : word_at (o + k) (w ∷ []) (o + k) ≡ w = word_at-from (o + k) (w ∷ []) (o + k) (omega arith) ∙ ap (λ n. get_or (w ∷ []) n 0) same in
            let word_of_all : word_at o ws (o + k) ≡ w = word_at-from o ws (o + k) (omega arith) ∙ ap (λ n. get_or ws n 0) place in
            has-ranks_in o ws r ∙ ap (λ n. is_bit (word_at o ws n) (r % 64)) here ∙ ap (λ v. is_bit v (r % 64)) (word_of_all ∙ sym word) ∙ ap (λ n. is_bit (word_at (o + k) (w ∷ []) n) (r % 64)) (sym here) ∙ bit
      ]
    ]

-- a set that is not empty has words
pub has_words : (s : Ranks) → ((r : ℕ) → Has r s → r < RANK_LIMIT) → s ≢ none → 0 < length (words_of s)
has_words s small some =
    elim (cases_lt 0 (length (words_of s))) [
      | inl lt ↦ lt
      | inr le ↦ absurd (some (sym (words_of_make s small).is ∙ no_ranks (offset_of s) (words_of s) (omega (arith, le))))
    ]

-- its words end below a limit that its ranks are below
words_end : (s : Ranks) (limit : ℕ) → ((r : ℕ) → Has r s → r < RANK_LIMIT) → ((r : ℕ) → Has r s → r < 64 * limit) → 0 < length (words_of s) → offset_of s + length (words_of s) ≤ limit
words_end s limit small low some =
    let made = words_of_make s small in
    let o = offset_of s in
    let ws = words_of s in
    let one = rank_in_word o ws (o + length ws - 1) (omega (arith, last_word o ws some, made.trimmed.last some)) (word_at-small o ws made.fit (o + length ws - 1)) in
    let lt : one.rank < 64 * limit = low one.rank (subst (Has one.rank) made.is one.is_member) in
    omega (arith, lt, one.word, some)

placed : (offset n : ℕ) → (n ≡ 0 → offset ≡ 0) → (nat_eq offset 0 || not (nat_eq n 0)) ≡ true
placed zero n h = refl
placed (suc offset) n h =
    elim (cases_lt 0 n) [
      | inl some ↦ ap (λ b. nat_eq (suc offset) 0 || b) (some_is n some) ∙ or_true (nat_eq (suc offset) 0)
      | inr le ↦ absurd (no_zero offset (h (omega (arith, le))))
    ]
  where
    no_zero : (o : ℕ) → suc o ≡ 0 → ⊥
    no_zero o e = omega (arith, e)

-- where the set may not be empty, it has words
pub needed_obeyed : (needed : Option FrameReason) (n : ℕ) → (needed ≢ None → 0 < n) → broken (if_needed needed n) ≡ None
needed_obeyed None n h = refl
needed_obeyed (Some reason) n h = obeyed (not (nat_eq n 0)) reason [] (some_is n (h (λ e. cc))) refl

pub spells-set : (limit : ℕ) (needed : Option FrameReason) (of_word : ℕ → ℕ → Rules) (s : Ranks) → limit ≤ 16384 → ((r : ℕ) → Has r s → r < 64 * limit) → 0 < limit → (needed ≢ None → s ≢ none)
    → ((k w : ℕ) → ((r : ℕ) → Has r (ranks_in k (w ∷ [])) → Has r s) → broken (of_word k w) ≡ None) → Spells (set_form limit needed of_word) (set_bytes s) s
unfolding set_form offset_form word_count_form words_form
spells-set limit needed of_word s most low some may each =
    let small : (r : ℕ) → Has r s → r < RANK_LIMIT = λ r one. omega (arith, low r one, most) in
    let made = words_of_make s small in
    let o = offset_of s in
    let ws = words_of s in
    let n = length ws in
    let fits : o + n ≤ limit = elim (cases_lt 0 n) [ inl more ↦ words_end s limit small low more | inr le ↦ omega (arith, le, made.trimmed.nothing (omega (arith, le))) ] in
    let below : o < limit = elim (cases_lt 0 n) [ inl more ↦ omega (arith, more, fits) | inr le ↦ omega (arith, some, made.trimmed.nothing (omega (arith, le))) ] in
    let spelled = are_spelled of_word o true ws made.fit (λ _. made.trimmed.first) made.trimmed.last (λ k lt. each (o + k) (get_or ws k 0) (λ r one. subst (Has r) made.is (one_word o ws k r lt one))) in
    spells-then w16 (λ n. (nat_lt n limit, OverLimit) ∷ []) (λ o. number w16 (λ n. (nat_le (o + n) limit, OverLimit) ∷ (nat_eq o 0 || not (nat_eq n 0), NotCanonical) ∷ if_needed needed n) >>= λ count. list_form (next_word of_word) after_word (o, true) count >>= λ words. whole (ranks_in o words)) (to_be_bytes w16 o) (to_be_bytes w16 n ++ flat_map (to_be_bytes w64) ws) o s
    (stands16 o (omega (arith, below, most))) (obeyed (nat_lt o limit) OverLimit [] (below_is o limit below) refl)
    (spells-then w16 (λ n. (nat_le (o + n) limit, OverLimit) ∷ (nat_eq o 0 || not (nat_eq n 0), NotCanonical) ∷ if_needed needed n) (λ count. list_form (next_word of_word) after_word (o, true) count >>= λ words. whole (ranks_in o words)) (to_be_bytes w16 n) (flat_map (to_be_bytes w64) ws) n s
    (stands16 n (omega (arith, fits, most)))
    (obeyed (nat_le (o + n) limit) OverLimit ((nat_eq o 0 || not (nat_eq n 0), NotCanonical) ∷ if_needed needed n) (at_most_is (o + n) limit fits) (obeyed (nat_eq o 0 || not (nat_eq n 0)) NotCanonical (if_needed needed n) (placed o n made.trimmed.nothing) (needed_obeyed needed n (λ e. has_words s small (may e)))))
    (subst (Spells (list_form (next_word of_word) after_word (o, true) n >>= λ words. whole (ranks_in o words)) (flat_map (to_be_bytes w64) ws)) made.is
    (spells-end (list_form (next_word of_word) after_word (o, true) n) (ranks_in o) (flat_map (to_be_bytes w64) ws) ws (spells-words of_word o true ws spelled))))

-- ---- runs

spells-runs : (least : ℕ) (rs : List (ℕ × ℕ)) → AreRuns least rs → Spells (list_form next_run after_run least (length rs)) (flat_map run_bytes rs) rs
unfolding run_form first_rank_form last_rank_form
spells-runs least [] h = (refl, refl)
spells-runs least (r ∷ rs) h =
    let first : r.0 < RANK_LIMIT = omega (arith, h.1, h.2) in
    let last : r.1 < RANK_LIMIT = h.2 in
    let first_rules : ℕ → Rules = λ n. (nat_lt n RANK_LIMIT, OverLimit) ∷ (nat_le least n, NotCanonical) ∷ [] in
    let last_rules : ℕ → Rules = λ n. (nat_lt n RANK_LIMIT, OverLimit) ∷ (nat_le r.0 n, NotCanonical) ∷ [] in
    let rest = list_form next_run after_run (r.1 + 2) (length rs) in
    subst (λ b. Spells (list_form next_run after_run least (suc (length rs))) b (r ∷ rs)) (sym (flat_map-cons run_bytes r rs))
    (spells-bind (run_form least) (λ x. list_form next_run after_run (x.1 + 2) (length rs) >>= λ xs. whole (x ∷ xs)) (run_bytes r) (flat_map run_bytes rs) r (r ∷ rs)
    (spells-then w32 first_rules (λ f. last_rank_form f >>= λ l. whole (f, l)) (to_be_bytes w32 r.0) (to_be_bytes w32 r.1) r.0 r
    (stands32 r.0 (omega (arith, first))) (obeyed (nat_lt r.0 RANK_LIMIT) OverLimit ((nat_le least r.0, NotCanonical) ∷ []) (below_is r.0 RANK_LIMIT first) (obeyed (nat_le least r.0) NotCanonical [] (at_most_is least r.0 h.0) refl))
    (spells-end (last_rank_form r.0) (λ l. (r.0, l)) (to_be_bytes w32 r.1) r.1
    (spells-number w32 last_rules (to_be_bytes w32 r.1) r.1 (stands32 r.1 (omega (arith, last))) (obeyed (nat_lt r.1 RANK_LIMIT) OverLimit ((nat_le r.0 r.1, NotCanonical) ∷ []) (below_is r.1 RANK_LIMIT last) (obeyed (nat_le r.0 r.1) NotCanonical [] (at_most_is r.0 r.1 h.1) refl)))))
    (spells-end rest (λ xs. r ∷ xs) (flat_map run_bytes rs) rs (spells-runs (r.1 + 2) rs h.3)))

-- ranks have runs
has_runs : (xs : List ℕ) → 0 < length xs → 0 < length (runs_of xs)
has_runs [] h = absurd (omega (arith, h))
has_runs (x ∷ xs) h = before (runs_of xs)
  where
    by : (b : Bool) (r : ℕ × ℕ) (rs : List (ℕ × ℕ)) → b ≡ nat_eq (suc x) r.0 → 0 < length (run_before x x (r ∷ rs))
    by true r rs e = rw (run_before, sym e) (omega arith)
    by false r rs e = rw (run_before, sym e) (omega arith)

    before : (rs : List (ℕ × ℕ)) → 0 < length (run_before x x rs)
    before [] = omega arith
    before (r ∷ rs) = by (nat_eq (suc x) r.0) r rs refl

pub spells-run_set : (s : Ranks) → ((r : ℕ) → Has r s → r < RANK_LIMIT) → s ≢ none → Spells runs_form (runs_bytes (runs_of (in_order s))) s
unfolding runs_form run_count_form
spells-run_set s small some =
    let rs = runs_of (in_order s) in
    let n = length rs in
    let few : n ≤ 524288 = runs_of_count s small in
    let members : 0 < length (in_order s) = elim (cases_lt 0 (length (in_order s))) [ inl lt ↦ lt | inr le ↦ absurd (some (none_from_size s (omega (arith, le)))) ] in
    spells-then w32 (λ n. (not (nat_eq n 0), BadLength) ∷ (nat_le n 524288, OverLimit) ∷ []) (λ count. list_form next_run after_run 0 count >>= λ runs. whole (ranks_of_runs runs)) (to_be_bytes w32 n) (flat_map run_bytes rs) n s
    (stands32 n (omega (arith, few))) (obeyed (not (nat_eq n 0)) BadLength ((nat_le n 524288, OverLimit) ∷ []) (some_is n (has_runs (in_order s) members)) (obeyed (nat_le n 524288) OverLimit [] (at_most_is n 524288 few) refl))
    (subst (Spells (list_form next_run after_run 0 n >>= λ runs. whole (ranks_of_runs runs)) (flat_map run_bytes rs)) (runs_of_make s small)
    (spells-end (list_form next_run after_run 0 n) ranks_of_runs (flat_map run_bytes rs) rs (spells-runs 0 rs (runs_of_are s small))))
