-- What a spelling of a set tells.
use Rattle.std.proofs.Common.{◌≡◌, ◌≢◌, ℕ, zero, suc, ◌+◌, ◌-◌, ◌*◌, ◌/◌, ◌%◌, ◌^◌, ◌<◌, ◌≤◌, Bool, true, false, not, ◌||◌, nat_eq, nat_le, nat_lt, List, [], ◌∷◌, ◌++◌, length, get_or, Option, Some, None, refl, sym, ap, subst, ◌∙◌, arith, ◌⊎◌, inl, inr}
use Rattle.std.specs.List.{flat_map}
use Rattle.std.specs.Int.{w16, w32, w64, to_be_bytes}
use Rattle.std.proofs.lemmas.Bool.{true≢false, or_cases, ltb-true, leb-true, eqb-true}
use Rattle.std.proofs.lemmas.List.{get_or_past}
use Rattle.std.proofs.lemmas.List.Concat.{flat_map-cons}
use Rattle.rank_set.specs.declared.TheConstants.{RANK_LIMIT}
use Rattle.rank_set.specs.Ranks.{Ranks, none, Has, in_order}
use Rattle.rank_set.specs.Runs.{runs_of, ranks_of_runs, AreRuns}
use Rattle.rank_set.specs.Words.{is_bit, ranks_in, offset_of, AreWords}
use Rattle.rank_set.specs.WordLists.{words_of, FitInWords}
use Rattle.rank_set.proofs.WordSets.{word_at-from, has-ranks_in}
use Rattle.rank_set.proofs.WordLists.{offset_of_ranks, words_of_ranks, some_ranks}
use Rattle.rank_set.proofs.RunLists.{runs_small, runs_of_ranks}
use Rattle.rank_set.proofs.Spanning.{rank_within}
use Rattle.packet_frame.specs.declared.error.FrameReason.{FrameReason}
use Rattle.packet_frame.specs.declared.error.FrameReason.TheVariants.{BadLength, NotCanonical, OverLimit}
use Rattle.packet_frame.specs.Fields.{whole, ◌>>=◌, Spells, Rules, broken, number, list_form}
use Rattle.packet_frame.specs.Frame.{if_needed, word_form, next_word, after_word, words_form, offset_form, word_count_form, set_form, run_count_form, first_rank_form, last_rank_form, run_form, next_run, after_run, runs_form}
use Rattle.packet_frame.specs.Spelling.{set_bytes, run_bytes, runs_bytes}
use Rattle.packet_frame.specs.Sending.{AreBytes}
use Rattle.packet_frame.proofs.ReadFields.{end_of, values_of, front_of, back_of, written16, written32, written64, number_of, then_of, word_small, first_rule, other_rules}

-- ---- words

not_zero : (n : ℕ) → not (nat_eq n 0) ≡ true → 0 < n
not_zero zero h = absurd (true≢false (sym h))
not_zero (suc n) h = omega arith

is_zero : (n : ℕ) → n ≡ 0 → nat_eq n 0 ≡ true
is_zero n e = ap (λ m. nat_eq m 0) e

-- the first word, and the last, is not 0
pub record AreRead (of_word : ℕ → ℕ → Rules) (index : ℕ) (first : Bool) (count : ℕ) (bytes ws : List ℕ) : Type 0 where
  pub len : length ws ≡ count
  pub is : bytes ≡ flat_map (to_be_bytes w64) ws
  pub fit : FitInWords ws
  pub begins : first ≡ true → 0 < length ws → 0 < get_or ws 0 0
  pub ends : 0 < length ws → 0 < get_or ws (length ws - 1) 0
  pub each : (k : ℕ) → k < length ws → broken (of_word (index + k) (get_or ws k 0)) ≡ None

edge_some : (first : Bool) (n w : ℕ) → (not (first || nat_eq n 0) || not (nat_eq w 0)) ≡ true → (first ≡ true) ⊎ (n ≡ 0) → 0 < w
edge_some true n w h e = not_zero w h
edge_some false n w h (inl e) = absurd (true≢false (sym e))
edge_some false n w h (inr e) = not_zero w (sym (ap (λ b. not b || not (nat_eq w 0)) (is_zero n e)) ∙ h)

words_read : (of_word : ℕ → ℕ → Rules) (index : ℕ) (first : Bool) (count : ℕ) (bytes ws : List ℕ) → AreBytes bytes → Spells (list_form (next_word of_word) after_word (index, first) count) bytes ws → AreRead of_word index first count bytes ws
unfolding word_form
words_read of_word index first zero bytes ws small s =
    subst (AreRead of_word index first 0 bytes) s.1 (record {
      len = refl;
      is = s.0;
      fit = λ k. let nothing : ℕ = 0 in omega (arith, get_or_past [] k nothing (omega arith));
      begins = λ _ some. absurd (omega (arith, some));
      ends = λ some. absurd (omega (arith, some));
      each = λ k lt. absurd (omega (arith, lt));
    })
words_read of_word index first (suc count) bytes ws small s =
    let v = values_of (next_word of_word) after_word (index, first) count bytes ws s in
    let rules = λ (n : ℕ). (not (first || nat_eq count 0) || not (nat_eq n 0), NotCanonical) ∷ of_word index n in
    let n = number_of w64 rules v.front v.value v.first in
    let front = front_of bytes v.front v.back v.is small in
    let text : to_be_bytes w64 v.value ≡ v.front = written64 v.front v.value n.len front n.value in
    let more = words_read of_word (suc index) false count v.back v.others (back_of bytes v.front v.back v.is small) v.rest in
    let edge : (not (first || nat_eq count 0) || not (nat_eq v.value 0)) ≡ true = first_rule (not (first || nat_eq count 0) || not (nat_eq v.value 0)) NotCanonical (of_word index v.value) n.obeys in
    subst (AreRead of_word index first (suc count) bytes) v.values (record {
      len = ap suc more.len;
      is = v.is ∙ (λ i. sym text i ++ more.is i) ∙ sym (flat_map-cons (to_be_bytes w64) v.value v.others);
      fit = λ k. fit_at v.value v.others (word_small v.front v.value front n.value) more.fit k;
      begins = λ e _. edge_some first count v.value edge (inl e);
      ends = λ _. ends_at v.value v.others (λ e. edge_some first count v.value edge (inr (sym more.len ∙ e))) more.ends;
      each = each_at v.value v.others (other_rules (not (first || nat_eq count 0) || not (nat_eq v.value 0)) NotCanonical (of_word index v.value) n.obeys) more.each;
    })
  where
    fit_at : (w : ℕ) (ws : List ℕ) → w < 2 ^ 64 → FitInWords ws → (k : ℕ) → get_or (w ∷ ws) k 0 < 2 ^ 64
    fit_at w ws one all zero = one
    fit_at w ws one all (suc k) = all k

    ends_at : (w : ℕ) (ws : List ℕ) → (length ws ≡ 0 → 0 < w) → (0 < length ws → 0 < get_or ws (length ws - 1) 0) → 0 < get_or (w ∷ ws) (length (w ∷ ws) - 1) 0
    ends_at w [] one all = one refl
    ends_at w (x ∷ ws) one all = let e : length (w ∷ x ∷ ws) - 1 ≡ suc (length (x ∷ ws) - 1) = omega arith in subst (λ n. 0 < get_or (w ∷ x ∷ ws) n 0) (sym e) (all (omega arith))

    each_at : (w : ℕ) (ws : List ℕ) → broken (of_word index w) ≡ None → ((k : ℕ) → k < length ws → broken (of_word (suc index + k) (get_or ws k 0)) ≡ None) → (k : ℕ) → k < length (w ∷ ws) → broken (of_word (index + k) (get_or (w ∷ ws) k 0)) ≡ None
    each_at w ws one all zero lt = let e : index + 0 ≡ index = omega arith in ap (λ n. broken (of_word n w)) e ∙ one
    each_at w ws one all (suc k) lt = let e : index + suc k ≡ suc index + k = omega arith in ap (λ n. broken (of_word n (get_or ws k 0))) e ∙ all k (omega (arith, lt))

-- a rank of all is a rank of one of the words
of_one_word : (o : ℕ) (ws : List ℕ) (r : ℕ) → Has r (ranks_in o ws) → (k : ℕ) × (k < length ws) × Has r (ranks_in (o + k) (get_or ws k 0 ∷ []))
of_one_word o ws r one =
    let inside = rank_within o ws r one in
    let k = r / 64 - o in
    let w = get_or ws k 0 in
    let here : o + k ≡ r / 64 = omega (arith, inside.0) in
    let same : r / 64 - (o + k) ≡ 0 = omega (arith, here) in
    (k, omega (arith, inside.0, inside.1), has-ranks_in (o + k) (w ∷ []) r ∙ ap (λ v. is_bit v (r % 64)) (word_at-from (o + k) (w ∷ []) (r / 64) (omega (arith, here)) ∙ ap (λ n. get_or (w ∷ []) n 0) same ∙ sym (word_at-from o ws (r / 64) inside.0)) ∙ sym (has-ranks_in o ws r) ∙ one)

-- what a spelling of a set tells
pub record SetRead (limit : ℕ) (needed : Option FrameReason) (of_word : ℕ → ℕ → Rules) (bytes : List ℕ) (s : Ranks) : Type 0 where
  pub is : bytes ≡ set_bytes s
  pub low : (r : ℕ) → Has r s → r < 64 * limit
  pub some : needed ≢ None → s ≢ none
  pub each : (r : ℕ) → Has r s → (k w : ℕ) × Has r (ranks_in k (w ∷ [])) × (broken (of_word k w) ≡ None)

needed_some : (needed : Option FrameReason) (n : ℕ) → broken (if_needed needed n) ≡ None → needed ≢ None → 0 < n
needed_some None n h e = absurd (e refl)
needed_some (Some reason) n h e = not_zero n (first_rule (not (nat_eq n 0)) reason [] h)

pub set_read : (limit : ℕ) (needed : Option FrameReason) (of_word : ℕ → ℕ → Rules) (bytes : List ℕ) (s : Ranks) → limit ≤ 16384 → AreBytes bytes → Spells (set_form limit needed of_word) bytes s → SetRead limit needed of_word bytes s
unfolding set_form offset_form word_count_form words_form
set_read limit needed of_word bytes s most small spelled =
    let count_rules : ℕ → ℕ → Rules = λ o n. (nat_le (o + n) limit, OverLimit) ∷ (nat_eq o 0 || not (nat_eq n 0), NotCanonical) ∷ if_needed needed n in
    let a = then_of w16 (λ n. (nat_lt n limit, OverLimit) ∷ []) (λ o. number w16 (count_rules o) >>= λ count. list_form (next_word of_word) after_word (o, true) count >>= λ words. whole (ranks_in o words)) bytes s written16 small spelled in
    let o = a.value in
    let b = then_of w16 (count_rules o) (λ count. list_form (next_word of_word) after_word (o, true) count >>= λ words. whole (ranks_in o words)) a.back s written16 a.small a.rest in
    let n = b.value in
    let e = end_of (list_form (next_word of_word) after_word (o, true) n) (ranks_in o) b.back s b.rest in
    let ws = e.value in
    let read = words_read of_word o true n b.back ws b.small e.spells in
    let within : o + n ≤ limit = leb-true (o + n) limit (first_rule (nat_le (o + n) limit) OverLimit ((nat_eq o 0 || not (nat_eq n 0), NotCanonical) ∷ if_needed needed n) b.obeys) in
    let others = other_rules (nat_le (o + n) limit) OverLimit ((nat_eq o 0 || not (nat_eq n 0), NotCanonical) ∷ if_needed needed n) b.obeys in
    let placed = first_rule (nat_eq o 0 || not (nat_eq n 0)) NotCanonical (if_needed needed n) others in
    let may = other_rules (nat_eq o 0 || not (nat_eq n 0)) NotCanonical (if_needed needed n) others in
    let words : AreWords o ws = record {
      within_limit = omega (arith, within, most, read.len);
      nothing = λ z. nothing o n placed (sym read.len ∙ z);
      first = read.begins refl;
      last = read.ends;
    } in
    let offset : offset_of s ≡ o = ap offset_of (sym e.is) ∙ offset_of_ranks o ws words read.fit in
    let held : words_of s ≡ ws = ap words_of (sym e.is) ∙ words_of_ranks o ws words read.fit in
    record {
      is = a.is ∙ ap (λ c. to_be_bytes w16 o ++ c) (b.is ∙ ap (λ c. to_be_bytes w16 n ++ c) read.is ∙ ap (λ m. to_be_bytes w16 m ++ flat_map (to_be_bytes w64) ws) (sym read.len)) ∙ (λ i. to_be_bytes w16 (sym offset i) ++ (to_be_bytes w16 (length (sym held i)) ++ flat_map (to_be_bytes w64) (sym held i)));
      low = λ r one. low o ws r (subst (Has r) (sym e.is) one) (omega (arith, within, read.len));
      some = λ needs nothing_in. some_ranks o ws words read.fit (λ no_words. no_word ws no_words (omega (arith, needed_some needed n may needs, read.len))) (e.is ∙ nothing_in);
      each = λ r one. let f = of_one_word o ws r (subst (Has r) (sym e.is) one) in (o + f.0, get_or ws f.0 0, f.2, read.each f.0 f.1);
    }
  where
    nothing : (o n : ℕ) → (nat_eq o 0 || not (nat_eq n 0)) ≡ true → n ≡ 0 → o ≡ 0
    nothing o n h z = elim (or_cases (nat_eq o 0) (not (nat_eq n 0)) h) [ inl e ↦ eqb-true o 0 e | inr e ↦ absurd (omega (arith, not_zero n e, z)) ]

    low : (o : ℕ) (ws : List ℕ) (r : ℕ) → Has r (ranks_in o ws) → o + length ws ≤ limit → r < 64 * limit
    low o ws r one fits = let inside = rank_within o ws r one in omega (arith, inside.1, fits)

    no_word : (ws : List ℕ) → ws ≡ [] → 0 < length ws → ⊥
    no_word ws e some = omega (arith, ap length e, some)

-- ---- runs

pub record RunsRead (least count : ℕ) (bytes : List ℕ) (rs : List (ℕ × ℕ)) : Type 0 where
  pub len : length rs ≡ count
  pub is : bytes ≡ flat_map run_bytes rs
  pub apart : AreRuns least rs

record RunRead (least : ℕ) (bytes : List ℕ) (r : ℕ × ℕ) : Type 0 where
  is : bytes ≡ run_bytes r
  start : least ≤ r.0
  some : r.0 ≤ r.1
  below : r.1 < RANK_LIMIT

run_read : (least : ℕ) (bytes : List ℕ) (r : ℕ × ℕ) → AreBytes bytes → Spells (run_form least) bytes r → RunRead least bytes r
unfolding run_form first_rank_form last_rank_form
run_read least bytes r small s =
    let first_rules : ℕ → Rules = λ n. (nat_lt n RANK_LIMIT, OverLimit) ∷ (nat_le least n, NotCanonical) ∷ [] in
    let a = then_of w32 first_rules (λ first. last_rank_form first >>= λ last. whole (first, last)) bytes r written32 small s in
    let first = a.value in
    let last_rules : ℕ → Rules = λ n. (nat_lt n RANK_LIMIT, OverLimit) ∷ (nat_le first n, NotCanonical) ∷ [] in
    let e = end_of (last_rank_form first) (λ last. (first, last)) a.back r a.rest in
    let last = e.value in
    let n = number_of w32 last_rules a.back last e.spells in
    subst (RunRead least bytes) e.is (record {
      is = a.is ∙ ap (λ b. to_be_bytes w32 first ++ b) (sym (written32 a.back last n.len a.small n.value));
      start = leb-true least first (first_rule (nat_le least first) NotCanonical [] (other_rules (nat_lt first RANK_LIMIT) OverLimit ((nat_le least first, NotCanonical) ∷ []) a.obeys));
      some = leb-true first last (first_rule (nat_le first last) NotCanonical [] (other_rules (nat_lt last RANK_LIMIT) OverLimit ((nat_le first last, NotCanonical) ∷ []) n.obeys));
      below = ltb-true last RANK_LIMIT (first_rule (nat_lt last RANK_LIMIT) OverLimit ((nat_le first last, NotCanonical) ∷ []) n.obeys);
    })

runs_read : (least count : ℕ) (bytes : List ℕ) (rs : List (ℕ × ℕ)) → AreBytes bytes → Spells (list_form next_run after_run least count) bytes rs → RunsRead least count bytes rs
runs_read least zero bytes rs small s = subst (RunsRead least 0 bytes) s.1 (record { len = refl; is = s.0; apart = tt })
runs_read least (suc count) bytes rs small s =
    let v = values_of next_run after_run least count bytes rs s in
    let one = run_read least v.front v.value (front_of bytes v.front v.back v.is small) v.first in
    let more = runs_read (v.value.1 + 2) count v.back v.others (back_of bytes v.front v.back v.is small) v.rest in
    subst (RunsRead least (suc count) bytes) v.values (record {
      len = ap suc more.len;
      is = v.is ∙ (λ i. one.is i ++ more.is i) ∙ sym (flat_map-cons run_bytes v.value v.others);
      apart = (one.start, one.some, one.below, more.apart);
    })

pub record RunSetRead (bytes : List ℕ) (s : Ranks) : Type 0 where
  pub is : bytes ≡ runs_bytes (runs_of (in_order s))
  pub low : (r : ℕ) → Has r s → r < RANK_LIMIT
  pub some : s ≢ none

pub run_set_read : (bytes : List ℕ) (s : Ranks) → AreBytes bytes → Spells runs_form bytes s → RunSetRead bytes s
unfolding runs_form run_count_form
run_set_read bytes s small spelled =
    let rules : ℕ → Rules = λ n. (not (nat_eq n 0), BadLength) ∷ (nat_le n 524288, OverLimit) ∷ [] in
    let a = then_of w32 rules (λ count. list_form next_run after_run 0 count >>= λ runs. whole (ranks_of_runs runs)) bytes s written32 small spelled in
    let n = a.value in
    let e = end_of (list_form next_run after_run 0 n) ranks_of_runs a.back s a.rest in
    let rs = e.value in
    let read = runs_read 0 n a.back rs a.small e.spells in
    let held : runs_of (in_order s) ≡ rs = ap (λ t. runs_of (in_order t)) (sym e.is) ∙ runs_of_ranks rs read.apart in
    let more : 0 < n = not_zero n (first_rule (not (nat_eq n 0)) BadLength ((nat_le n 524288, OverLimit) ∷ []) a.obeys) in
    record {
      is = a.is ∙ (λ i. to_be_bytes w32 (sym read.len i) ++ read.is i) ∙ ap runs_bytes (sym held);
      low = λ r one. runs_small 0 rs read.apart r (subst (Has r) (sym e.is) one);
      some = λ nothing_in. no_runs rs (sym held ∙ ap (λ t. runs_of (in_order t)) nothing_in) (omega (arith, more, read.len));
    }
  where
    no_runs : (rs : List (ℕ × ℕ)) → rs ≡ [] → 0 < length rs → ⊥
    no_runs rs e some = omega (arith, ap length e, some)
