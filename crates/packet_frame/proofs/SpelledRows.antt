-- Spellings of rows, trees and messages.
use Rattle.std.proofs.Common.{◌≡◌, ◌≢◌, ℕ, suc, ◌+◌, ◌-◌, ◌*◌, ◌<◌, ◌≤◌, Bool, true, false, not, ◌||◌, ◌&&◌, cond, nat_eq, nat_le, nat_lt, List, [], ◌∷◌, ◌++◌, length, take, drop, Some, None, refl, sym, ap, subst, ◌∙◌, arith, inl, inr}
use Rattle.std.specs.Prelude.{slice_get}
use Rattle.std.specs.List.{flat_map, list_all}
use Rattle.std.specs.Int.{w8, w16, to_be_bytes}
use Rattle.std.specs.Str.{is_utf8}
use Rattle.std.proofs.lemmas.Bool.{and_parts, and_from, leb-true, ltb-true, eqb-true, lt-ltb, eq-eqb, or_cases, true≢false}
use Rattle.std.proofs.lemmas.List.{take_at, drop_at, append-nil, length-append, length-take}
use Rattle.std.proofs.lemmas.List.Concat.{flat_map-cons}
use Rattle.rank_set.specs.declared.TheConstants.{RANK_LIMIT}
use Rattle.rank_set.specs.Ranks.{Ranks, none, has, Has, IsSubset, in_order, size, is_subset, is_empty, subset_from, all_pass, has-in_order, has-none}
use Rattle.rank_set.specs.Words.{ranks_in}
use Rattle.rank_set.specs.Runs.{runs_of}
use Rattle.rank_places.specs.Places.{place, to_places, from_places}
use Rattle.rank_places.proofs.Places.{back_to_ranks, places_in_cover, to_places-member, has-to_places, place-le}
use Rattle.rank_set.proofs.SomeMember.{some_member}
use Rattle.call_path.specs.Path.{Path}
use Rattle.call_path.specs.Good.{is_plain}
use Rattle.prefix_tree.specs.Tree.{frame_of}
use Rattle.packet_frame.specs.declared.error.FrameReason.TheVariants.{BadKind, BadLength, NotCanonical, OverLimit}
use Rattle.packet_frame.specs.declared.packet.Packet.TheVariants.{Up, Done, Attach, Down}
use Rattle.packet_frame.specs.Fields.{whole, ◌>>=◌, Spells, broken, number, list_form}
use Rattle.packet_frame.specs.Frame.{Row, row_of, Sent, sent_of, Message, is_first, word_limit, no_rules, set_form, runs_form, coverage_form, ends_rule, ranks_at, ends_needed, ends_form, is_name, is_after, depth_form, name_length_form, name_form, path_at, row_form, next_row, after_row, version_form, kind_form, stream_form, wave_form, row_count_form, tree_form, content_form, packet_form, frame_form}
use Rattle.packet_frame.specs.Spelling.{set_bytes, runs_bytes, coverage_bytes, numbers_of, row_bytes, sent_bytes, spelling}
use Rattle.packet_frame.specs.Sending.{MayFollow, MayBeRows, MayBeSent, MayBeMessage, IsSpelledOut}
use Rattle.packet_frame.proofs.FormLaws.{read-again}
use Rattle.packet_frame.proofs.SpelledFields.{spells-bind, spells-end, spells-then, one_byte, stands8, stands16, below_is, at_most_is, some_is, obeyed}
use Rattle.packet_frame.proofs.SpelledSets.{spells-set, spells-run_set}

-- ---- the coverage, and ends; the first version or the second

limit_some : (first : Bool) → 0 < cond first 256 16384
limit_some true = omega arith
limit_some false = omega arith

limit_most : (first : Bool) → cond first 256 16384 ≤ 16384
limit_most true = omega arith
limit_most false = omega arith

within_all : (first : Bool) (s : Ranks) → ((r : ℕ) → Has r s → r < 64 * cond first 256 16384) → (r : ℕ) → Has r s → r < RANK_LIMIT
within_all first s low r one = omega (arith, low r one, limit_most first)

coverage_by : (first : Bool) (s : Ranks) → s ≢ none → ((r : ℕ) → Has r s → r < 64 * cond first 256 16384) → Spells (cond first (set_form 256 (Some BadLength) no_rules) runs_form) (cond first (set_bytes s) (runs_bytes (runs_of (in_order s)))) s
coverage_by true s some low = spells-set 256 (Some BadLength) no_rules s (omega arith) low (omega arith) (λ _. some) (λ k w h. refl)
coverage_by false s some low = spells-run_set s (within_all false s low) some

spells-coverage : (version : ℕ) (s : Ranks) → s ≢ none → ((r : ℕ) → Has r s → r < 64 * word_limit version) → Spells (coverage_form version) (coverage_bytes version s) s
unfolding coverage_form
spells-coverage version s some low = coverage_by (is_first version) s some low

module _ (cover ends : Ranks) (covered : IsSubset ends cover) where
  abbrev numbers_by : Bool → Ranks
  numbers_by first = cond first ends (to_places cover ends)

  numbers_back : (first : Bool) → cond first (numbers_by first) (from_places cover (numbers_by first)) ≡ ends
  numbers_back true = refl
  numbers_back false = back_to_ranks cover ends covered

  numbers_low : (first : Bool) → ((r : ℕ) → Has r cover → r < 64 * cond first 256 16384) → (r : ℕ) → Has r (numbers_by first) → r < 64 * cond first 256 16384
  numbers_low true low r one = low r (covered r one)
  numbers_low false low p one = let m = to_places-member cover ends p one in omega (arith, m.2, place-le cover m.0, low m.0 (covered m.0 m.1))

  numbers_some : (first : Bool) → ends ≢ none → numbers_by first ≢ none
  numbers_some true some e = some e
  numbers_some false some e =
      let one = some_member ends some in
      true≢false (sym (has-to_places cover ends one.0 one.1) ∙ ap (λ s. has s (place cover one.0)) e ∙ has-none (place cover one.0))

  numbers_obey : (first : Bool) (numbers : Ranks) → ((r : ℕ) → Has r numbers → Has r (numbers_by first)) → cond first (is_subset numbers cover) (list_all (λ p. nat_lt p (size cover)) (in_order numbers)) ≡ true
  numbers_obey true numbers h = subset_from numbers cover (λ r one. covered r (h r one))
  numbers_obey false numbers h = all_pass (λ p. nat_lt p (size cover)) (in_order numbers) (λ p one. lt-ltb p (size cover) (places_in_cover cover ends covered p (h p (has-in_order numbers p ∙ one))))

  spells-ends : (version depth : ℕ) (last : Bool) → ((r : ℕ) → Has r cover → r < 64 * word_limit version) → (ends_needed depth last ≢ None → ends ≢ none) → Spells (ends_form version cover depth last) (set_bytes (numbers_of version cover ends)) ends
  unfolding ends_form ends_rule
  spells-ends version depth last low may =
      let first = is_first version in
      subst (Spells (set_form (word_limit version) (ends_needed depth last) (ends_rule version cover) >>= λ numbers. whole (ranks_at version cover numbers)) (set_bytes (numbers_of version cover ends))) (numbers_back first)
      (spells-end (set_form (word_limit version) (ends_needed depth last) (ends_rule version cover)) (ranks_at version cover) (set_bytes (numbers_of version cover ends)) (numbers_of version cover ends)
      (spells-set (word_limit version) (ends_needed depth last) (ends_rule version cover) (numbers_of version cover ends) (limit_most first) (numbers_low first low) (limit_some first) (λ e. numbers_some first (may e))
      (λ k w h. obeyed (cond first (is_subset (ranks_in k (w ∷ [])) cover) (list_all (λ p. nat_lt p (size cover)) (in_order (ranks_in k (w ∷ []))))) NotCanonical [] (numbers_obey first (ranks_in k (w ∷ [])) h) refl)))

-- ---- a row

frame_last : (front : Path) (name : List ℕ) → frame_of (front ++ name ∷ []) ≡ name
frame_last [] name = refl
frame_last (f ∷ []) name = refl
frame_last (f ∷ g ∷ front) name = frame_last (g ∷ front) name

spells-name : (before : Path) (depth : ℕ) (name : List ℕ) → is_name name ≡ true → is_after (slice_get before (depth - 1)) name ≡ true → Spells (name_form before depth (length name)) name name
unfolding name_form
spells-name before depth name good after =
    let front : take (length name) name ≡ name = ap (take (length name)) (sym (append-nil name)) ∙ take_at name [] (length name) refl in
    let back : drop (length name) name ≡ [] = ap (drop (length name)) (sym (append-nil name)) ∙ drop_at name [] (length name) refl in
    let rules = λ (bytes : List ℕ). (is_name bytes, NotCanonical) ∷ (is_after (slice_get before (depth - 1)) bytes, NotCanonical) ∷ [] in
    (ap length front, ap (λ b. broken (rules b)) front ∙ obeyed (is_name name) NotCanonical ((is_after (slice_get before (depth - 1)) name, NotCanonical) ∷ []) good (obeyed (is_after (slice_get before (depth - 1)) name) NotCanonical [] after refl), (back, front))

child_is : (ended : Bool) (k n : ℕ) → (ended ≡ false → k ≡ n) → (ended || nat_eq (k + 1) (n + 1)) ≡ true
child_is true k n h = refl
child_is false k n h = let e : k + 1 ≡ n + 1 = omega (arith, h refl) in eq-eqb (k + 1) (n + 1) e

module _ (version : ℕ) (cover : Ranks) (before : Path) (ended last : Bool) where
  spells-named : (k : ℕ) (name : List ℕ) (ends : Ranks) → k ≤ length before → k < 128 → (ended ≡ false → k ≡ length before) → 0 < length name → length name ≤ 1023 → is_name name ≡ true → is_after (slice_get before ((k + 1) - 1)) name ≡ true
      → Spells (ends_form version cover (k + 1) last) (set_bytes (numbers_of version cover ends)) ends
      → Spells (row_form version cover before ended last) (to_be_bytes w8 (k + 1) ++ (to_be_bytes w16 (length name) ++ (name ++ set_bytes (numbers_of version cover ends)))) (row_of (path_at before (k + 1) name) ends)
  unfolding row_form depth_form name_length_form
  spells-named k name ends kept low child some short good after spelled =
      let d = k + 1 in
      let bytes = set_bytes (numbers_of version cover ends) in
      let row = row_of (path_at before d name) ends in
      let near : (nat_le 1 d && nat_le d (length before + 1)) ≡ true = and_from (nat_le 1 d) (nat_le d (length before + 1)) (at_most_is 1 d (omega arith)) (at_most_is d (length before + 1) (omega (arith, kept))) in
      spells-then w8 (λ n. (nat_le n 128, OverLimit) ∷ (nat_le 1 n && nat_le n (length before + 1), NotCanonical) ∷ (ended || nat_eq n (length before + 1), NotCanonical) ∷ []) (λ depth. name_length_form >>= λ len. name_form before depth len >>= λ name. ends_form version cover depth last >>= λ ends. whole (row_of (path_at before depth name) ends)) (to_be_bytes w8 d) (to_be_bytes w16 (length name) ++ (name ++ bytes)) d row
      (stands8 d (omega (arith, low))) (obeyed (nat_le d 128) OverLimit ((nat_le 1 d && nat_le d (length before + 1), NotCanonical) ∷ (ended || nat_eq d (length before + 1), NotCanonical) ∷ []) (at_most_is d 128 (omega (arith, low))) (obeyed (nat_le 1 d && nat_le d (length before + 1)) NotCanonical ((ended || nat_eq d (length before + 1), NotCanonical) ∷ []) near (obeyed (ended || nat_eq d (length before + 1)) NotCanonical [] (child_is ended k (length before) child) refl)))
      (spells-then w16 (λ n. (not (nat_eq n 0), BadLength) ∷ (nat_le n 1023, OverLimit) ∷ []) (λ len. name_form before d len >>= λ name. ends_form version cover d last >>= λ ends. whole (row_of (path_at before d name) ends)) (to_be_bytes w16 (length name)) (name ++ bytes) (length name) row
      (stands16 (length name) (omega (arith, short))) (obeyed (not (nat_eq (length name) 0)) BadLength ((nat_le (length name) 1023, OverLimit) ∷ []) (some_is (length name) some) (obeyed (nat_le (length name) 1023) OverLimit [] (at_most_is (length name) 1023 short) refl))
      (spells-bind (name_form before d (length name)) (λ name. ends_form version cover d last >>= λ ends. whole (row_of (path_at before d name) ends)) name bytes name row
      (spells-name before d name good after)
      (spells-end (ends_form version cover d last) (λ ends. row_of (path_at before d name) ends) bytes ends spelled)))

  needed_at : (k : ℕ) (ends : Ranks) → (last ≡ true → ends ≢ none) → (k + 1 ≡ 128 → ends ≢ none) → ends_needed (k + 1) last ≢ None → ends ≢ none
  needed_at k ends at_last at_depth e = by (last || nat_eq (k + 1) 128) refl
    where
      by : (b : Bool) → (last || nat_eq (k + 1) 128) ≡ b → ends ≢ none
      by true h = elim (or_cases last (nat_eq (k + 1) 128) h) [ inl l ↦ at_last l | inr d ↦ at_depth (eqb-true (k + 1) 128 d) ]
      by false h = absurd (e (ap (λ b. cond b (Some NotCanonical) None) h))

  spells-row : (row : Row) → ((r : ℕ) → Has r cover → r < 64 * word_limit version) → MayFollow cover before ended last row → Spells (row_form version cover before ended last) (row_bytes version cover row) row
  spells-row row small may =
      let k = may.keep in
      let name = may.name in
      let bytes = set_bytes (numbers_of version cover row.ends) in
      let d : (k + 1) - 1 ≡ k = omega arith in
      let path : path_at before (k + 1) name ≡ row.path = ap (λ n. take n before ++ name ∷ []) d ∙ sym may.path in
      let len : k + 1 ≡ length row.path = omega (arith, ap length may.path, length-append (take k before) (name ∷ []), length-take k before, may.kept) in
      let last_name : name ≡ frame_of row.path = sym (ap frame_of may.path ∙ frame_last (take k before) name) in
      let after : is_after (slice_get before ((k + 1) - 1)) name ≡ true = ap (λ n. is_after (slice_get before n) name) d ∙ may.after in
      let good = and_parts (nat_lt 0 (length name)) (nat_le (length name) 1023 && list_all is_plain name) may.good in
      let plain = and_parts (nat_le (length name) 1023) (list_all is_plain name) good.1 in
      let text : is_name name ≡ true = and_from (is_utf8 name) (list_all is_plain name) may.text plain.1 in
      let one = spells-named k name row.ends may.kept may.low may.child (ltb-true 0 (length name) good.0) (leb-true (length name) 1023 plain.0) text after (spells-ends cover row.ends may.covered version (k + 1) last small (needed_at k row.ends may.at_last may.at_depth)) in
      let two = subst (λ p. Spells (row_form version cover before ended last) (to_be_bytes w8 (k + 1) ++ (to_be_bytes w16 (length name) ++ (name ++ bytes))) (row_of p row.ends)) path one in
      let three = subst (λ n. Spells (row_form version cover before ended last) (to_be_bytes w8 n ++ (to_be_bytes w16 (length name) ++ (name ++ bytes))) row) len two in
      subst (λ f. Spells (row_form version cover before ended last) (to_be_bytes w8 (length row.path) ++ (to_be_bytes w16 (length f) ++ (f ++ bytes))) row) last_name three

-- ---- a message

module _ (version : ℕ) where
  spells-rows : (cover : Ranks) (before : Path) (ended : Bool) (rows : List Row) → ((r : ℕ) → Has r cover → r < 64 * word_limit version) → MayBeRows cover before ended rows → Spells (list_form (next_row version cover) after_row (before, ended) (length rows)) (flat_map (row_bytes version cover) rows) rows
  spells-rows cover before ended [] small may = (refl, refl)
  spells-rows cover before ended (r ∷ rs) small may =
      let rest = list_form (next_row version cover) after_row (r.path, not (is_empty r.ends)) (length rs) in
      subst (λ b. Spells (list_form (next_row version cover) after_row (before, ended) (suc (length rs))) b (r ∷ rs)) (sym (flat_map-cons (row_bytes version cover) r rs))
      (spells-bind (row_form version cover before ended (nat_eq (length rs) 0)) (λ x. list_form (next_row version cover) after_row (after_row (before, ended) x) (length rs) >>= λ xs. whole (x ∷ xs)) (row_bytes version cover r) (flat_map (row_bytes version cover) rs) r (r ∷ rs)
      (spells-row version cover before ended (nat_eq (length rs) 0) r small may.0)
      (spells-end rest (λ xs. r ∷ xs) (flat_map (row_bytes version cover) rs) rs (spells-rows cover r.path (not (is_empty r.ends)) rs small may.1)))

  module _ (stream wave : ℕ) where
    abbrev sends : Sent → Message
    sends s = Up stream wave s

    abbrev over : Message
    over = Done stream wave

    spells-tree : (s : Sent) → MayBeSent version s → Spells (tree_form version stream wave) (sent_bytes version s) (sends s)
    unfolding tree_form row_count_form
    spells-tree s may =
        let n = length s.rows in
        let few : n ≤ 2048 = may.few in
        spells-bind (coverage_form version) (λ cover. number w16 (λ n. (nat_le n 2048, OverLimit) ∷ []) >>= λ count. list_form (next_row version cover) after_row ([], true) count >>= λ rows. whole (sends (sent_of cover rows))) (coverage_bytes version s.coverage) (to_be_bytes w16 n ++ flat_map (row_bytes version s.coverage) s.rows) s.coverage (sends s)
        (spells-coverage version s.coverage may.some may.small)
        (spells-then w16 (λ n. (nat_le n 2048, OverLimit) ∷ []) (λ count. list_form (next_row version s.coverage) after_row ([], true) count >>= λ rows. whole (sends (sent_of s.coverage rows))) (to_be_bytes w16 n) (flat_map (row_bytes version s.coverage) s.rows) n (sends s)
        (stands16 n (omega (arith, few))) (obeyed (nat_le n 2048) OverLimit [] (at_most_is n 2048 few) refl)
        (spells-end (list_form (next_row version s.coverage) after_row ([], true) n) (λ rows. sends (sent_of s.coverage rows)) (flat_map (row_bytes version s.coverage) s.rows) s.rows (spells-rows s.coverage [] true s.rows may.small may.rows)))

    spells-content : (kind : ℕ) (body : List ℕ) (m : Message) → stream < 8 → wave < 16 → Spells (content_form version kind stream wave) body m → Spells (stream_form >>= λ stream. wave_form >>= content_form version kind stream) (stream ∷ wave ∷ body) m
    unfolding stream_form wave_form
    spells-content kind body m low high s =
        spells-then w8 (λ n. (nat_lt n 8, OverLimit) ∷ []) (λ stream. wave_form >>= content_form version kind stream) (stream ∷ []) (wave ∷ body) stream m
        (one_byte stream) (obeyed (nat_lt stream 8) OverLimit [] (below_is stream 8 low) refl)
        (spells-then w8 (λ n. (nat_lt n 16, OverLimit) ∷ []) (content_form version kind stream) (wave ∷ []) body wave m
        (one_byte wave) (obeyed (nat_lt wave 16) OverLimit [] (below_is wave 16 high) refl) s)

  module _ (known : (nat_eq version 1 || nat_eq version 2) ≡ true) where
    -- the version and the kind before what follows them
    spells-frame : (kind : ℕ) (body : List ℕ) (m : Message) → (nat_le 1 kind && nat_le kind 4) ≡ true → Spells (packet_form version kind) body m → Spells frame_form (version ∷ kind ∷ body) m
    unfolding frame_form version_form kind_form
    spells-frame kind body m is s =
        spells-then w8 (λ n. (nat_eq n 1 || nat_eq n 2, BadKind) ∷ []) (λ version. kind_form >>= packet_form version) (version ∷ []) (kind ∷ body) version m
        (one_byte version) (obeyed (nat_eq version 1 || nat_eq version 2) BadKind [] known refl)
        (spells-then w8 (λ n. (nat_le 1 n && nat_le n 4, BadKind) ∷ []) (packet_form version) (kind ∷ []) body kind m
        (one_byte kind) (obeyed (nat_le 1 kind && nat_le kind 4) BadKind [] is refl) s)

    spells-message : (m : Message) → MayBeMessage version m → Spells frame_form (spelling version m) m
    unfolding packet_form content_form
    spells-message (Up stream wave s) may = spells-frame 1 (stream ∷ wave ∷ sent_bytes version s) (sends stream wave s) refl (spells-content stream wave 1 (sent_bytes version s) (sends stream wave s) may.0 may.1 (spells-tree stream wave s may.2))
    spells-message (Done stream wave) may = spells-frame 2 (stream ∷ wave ∷ []) (over stream wave) refl (spells-content stream wave 2 [] (over stream wave) may.0 may.1 (refl, refl))
    spells-message Attach may = spells-frame 3 [] Attach refl (refl, refl)
    spells-message Down may = spells-frame 4 [] Down refl (refl, refl)

    -- a spelling of what may be sent spells it, and is read again
    pub is_spelled_out : IsSpelledOut version
    is_spelled_out = record { spells = spells-message; again = λ m may front more. read-again frame_form front (spelling version m) more m (spells-message m may) }
