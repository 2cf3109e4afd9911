-- What a spelling of a message tells.
use Rattle.std.proofs.Common.{◌≡◌, ◌≢◌, ℕ, zero, suc, ◌+◌, ◌-◌, ◌*◌, ◌%◌, ◌<◌, ◌≤◌, Bool, true, false, not, ◌||◌, ◌&&◌, cond, nat_eq, nat_le, nat_lt, List, [], ◌∷◌, ◌++◌, length, take, Some, None, refl, sym, ap, subst, ◌∙◌, arith, ◌⊎◌, inl, inr}
use Rattle.std.specs.Prelude.{slice_get}
use Rattle.std.specs.List.{flat_map, list_all}
use Rattle.std.specs.Int.{w8, w16, to_be_bytes}
use Rattle.std.specs.Str.{is_utf8}
use Rattle.std.proofs.lemmas.Bool.{and_parts, and_from, leb-true, ltb-true, eqb-true, lt-ltb, eq-eqb, or_cases, true≢false}
use Rattle.std.proofs.lemmas.List.{append-nil, take-append-drop, length-append, length-take}
use Rattle.std.proofs.lemmas.List.Concat.{flat_map-cons}
use Rattle.rank_set.specs.Ranks.{Ranks, none, Has, IsSubset, in_order, size, is_subset, subset_has, all_have, is_empty, has-in_order}
use Rattle.rank_set.specs.Words.{ranks_in}
use Rattle.rank_set.specs.Runs.{runs_of}
use Rattle.rank_places.specs.Places.{to_places, from_places}
use Rattle.rank_places.proofs.Places.{back_to_places, ranks_in_cover}
use Rattle.call_path.specs.Path.{Path}
use Rattle.call_path.specs.Good.{is_plain}
use Rattle.prefix_tree.specs.Tree.{frame_of}
use Rattle.packet_frame.specs.declared.error.FrameReason.TheVariants.{BadKind, BadLength, NotCanonical, OverLimit}
use Rattle.packet_frame.specs.declared.packet.Packet.TheVariants.{Up}
use Rattle.packet_frame.specs.Fields.{whole, ◌>>=◌, Spells, Rules, broken, list_form}
use Rattle.packet_frame.specs.Frame.{Row, row_of, Sent, sent_of, Message, is_first, word_limit, no_rules, set_form, runs_form, coverage_form, ends_rule, ranks_at, ends_needed, ends_form, is_name, is_after, depth_form, name_length_form, name_form, path_at, row_form, next_row, after_row, version_form, kind_form, stream_form, wave_form, row_count_form, tree_form, content_form, packet_form, frame_form}
use Rattle.packet_frame.specs.Spelling.{set_bytes, runs_bytes, coverage_bytes, numbers_of, row_bytes, spelling}
use Rattle.packet_frame.specs.Sending.{MayFollow, MayBeRows, MayBeMessage, AreBytes, IsOneSpelling}
use Rattle.packet_frame.proofs.ReadFields.{parts_of, end_of, values_of, front_of, back_of, written8, written16, then_of, first_rule, other_rules}
use Rattle.packet_frame.proofs.ReadSets.{set_read, run_set_read}

-- ---- the coverage, and ends; the first version or the second

limit_most : (first : Bool) → cond first 256 16384 ≤ 16384
limit_most true = omega arith
limit_most false = omega arith

record CoverRead (version : ℕ) (bytes : List ℕ) (s : Ranks) : Type 0 where
  is : bytes ≡ coverage_bytes version s
  some : s ≢ none
  small : (r : ℕ) → Has r s → r < 64 * word_limit version

cover_by : (first : Bool) (bytes : List ℕ) (s : Ranks) → AreBytes bytes → Spells (cond first (set_form 256 (Some BadLength) no_rules) runs_form) bytes s → (bytes ≡ cond first (set_bytes s) (runs_bytes (runs_of (in_order s)))) × (s ≢ none) × ((r : ℕ) → Has r s → r < 64 * cond first 256 16384)
cover_by true bytes s small spelled = let read = set_read 256 (Some BadLength) no_rules bytes s (omega arith) small spelled in (read.is, read.some (λ e. cc), read.low)
cover_by false bytes s small spelled = let read = run_set_read bytes s small spelled in (read.is, read.some, λ r one. omega (arith, read.low r one))

cover_read : (version : ℕ) (bytes : List ℕ) (s : Ranks) → AreBytes bytes → Spells (coverage_form version) bytes s → CoverRead version bytes s
unfolding coverage_form
cover_read version bytes s small spelled = let read = cover_by (is_first version) bytes s small spelled in record { is = read.0; some = read.1; small = read.2 }

record EndsRead (version : ℕ) (cover : Ranks) (depth : ℕ) (last : Bool) (bytes : List ℕ) (ends : Ranks) : Type 0 where
  is : bytes ≡ set_bytes (numbers_of version cover ends)
  covered : IsSubset ends cover
  some : ends_needed depth last ≢ None → ends ≢ none

no_places : (cover : Ranks) → to_places cover none ≡ none
unfolding to_places
no_places cover = refl

module _ (cover numbers : Ranks) where
  -- each number obeys
  abbrev Obeys : Bool → Type 0
  Obeys first = (r : ℕ) → Has r numbers → (k w : ℕ) × Has r (ranks_in k (w ∷ [])) × (cond first (is_subset (ranks_in k (w ∷ [])) cover) (list_all (λ p. nat_lt p (size cover)) (in_order (ranks_in k (w ∷ [])))) ≡ true)

  low_places : Obeys false → (p : ℕ) → Has p numbers → p < size cover
  low_places each p one = let f = each p one in ltb-true p (size cover) (all_have (λ q. nat_lt q (size cover)) (in_order (ranks_in f.0 (f.1 ∷ []))) p f.3 (sym (has-in_order (ranks_in f.0 (f.1 ∷ [])) p) ∙ f.2))

  numbers_again : (first : Bool) → Obeys first → cond first (cond first numbers (from_places cover numbers)) (to_places cover (cond first numbers (from_places cover numbers))) ≡ numbers
  numbers_again true each = refl
  numbers_again false each = back_to_places cover numbers (low_places each)

  numbers_within : (first : Bool) → Obeys first → IsSubset (cond first numbers (from_places cover numbers)) cover
  numbers_within true each r one = let f = each r one in subset_has (ranks_in f.0 (f.1 ∷ [])) cover f.3 r f.2
  numbers_within false each r one = ranks_in_cover cover numbers r one

  some_ranks : (first : Bool) → Obeys first → numbers ≢ none → cond first numbers (from_places cover numbers) ≢ none
  some_ranks true each some e = some e
  some_ranks false each some e = some (sym (numbers_again false each) ∙ ap (to_places cover) e ∙ no_places cover)

ends_read : (version : ℕ) (cover : Ranks) (depth : ℕ) (last : Bool) (bytes : List ℕ) (ends : Ranks) → AreBytes bytes → Spells (ends_form version cover depth last) bytes ends → EndsRead version cover depth last bytes ends
unfolding ends_form ends_rule
ends_read version cover depth last bytes ends small spelled =
    let first = is_first version in
    let e = end_of (set_form (word_limit version) (ends_needed depth last) (ends_rule version cover)) (ranks_at version cover) bytes ends spelled in
    let numbers = e.value in
    let read = set_read (word_limit version) (ends_needed depth last) (ends_rule version cover) bytes numbers (limit_most first) small e.spells in
    let obeys : Obeys cover numbers first = λ r one. obeys_at first r (read.each r one) in
    subst (EndsRead version cover depth last bytes) e.is (record {
      is = read.is ∙ ap set_bytes (sym (numbers_again cover numbers first obeys));
      covered = numbers_within cover numbers first obeys;
      some = λ needs. some_ranks cover numbers first obeys (read.some needs);
    })
  where
    obeys_at : (first : Bool) (r : ℕ) → (k w : ℕ) × Has r (ranks_in k (w ∷ [])) × (broken ((cond first (is_subset (ranks_in k (w ∷ [])) cover) (list_all (λ p. nat_lt p (size cover)) (in_order (ranks_in k (w ∷ [])))), NotCanonical) ∷ []) ≡ None)
        → (k w : ℕ) × Has r (ranks_in k (w ∷ [])) × (cond first (is_subset (ranks_in k (w ∷ [])) cover) (list_all (λ p. nat_lt p (size cover)) (in_order (ranks_in k (w ∷ [])))) ≡ true)
    obeys_at first r f = (f.0, f.1, f.2, first_rule (cond first (is_subset (ranks_in f.0 (f.1 ∷ [])) cover) (list_all (λ p. nat_lt p (size cover)) (in_order (ranks_in f.0 (f.1 ∷ []))))) NotCanonical [] f.3)

-- ---- a row

record NameRead (before : Path) (depth size_of : ℕ) (bytes name : List ℕ) : Type 0 where
  is : bytes ≡ name
  len : length name ≡ size_of
  good : is_name name ≡ true
  after : is_after (slice_get before (depth - 1)) name ≡ true

name_read : (before : Path) (depth len : ℕ) (bytes name : List ℕ) → Spells (name_form before depth len) bytes name → NameRead before depth len bytes name
unfolding name_form
name_read before depth len bytes name s =
    let first = take len bytes in
    let same : first ≡ bytes = sym (append-nil first) ∙ ap (λ b. first ++ b) (sym s.2.0) ∙ take-append-drop len bytes in
    subst (NameRead before depth len bytes) s.2.1 (record {
      is = sym same;
      len = s.0;
      good = first_rule (is_name first) NotCanonical ((is_after (slice_get before (depth - 1)) first, NotCanonical) ∷ []) s.1;
      after = first_rule (is_after (slice_get before (depth - 1)) first) NotCanonical [] (other_rules (is_name first) NotCanonical ((is_after (slice_get before (depth - 1)) first, NotCanonical) ∷ []) s.1);
    })

frame_last : (front : Path) (name : List ℕ) → frame_of (front ++ name ∷ []) ≡ name
frame_last [] name = refl
frame_last (f ∷ []) name = refl
frame_last (f ∷ g ∷ front) name = frame_last (g ∷ front) name

pub record RowRead (version : ℕ) (cover : Ranks) (before : Path) (ended last : Bool) (bytes : List ℕ) (row : Row) : Type 0 where
  is : bytes ≡ row_bytes version cover row
  may : MayFollow cover before ended last row

row_read : (version : ℕ) (cover : Ranks) (before : Path) (ended last : Bool) (bytes : List ℕ) (row : Row) → AreBytes bytes → Spells (row_form version cover before ended last) bytes row → RowRead version cover before ended last bytes row
unfolding row_form depth_form name_length_form
row_read version cover before ended last bytes row small s =
    let depth_rules : ℕ → Rules = λ n. (nat_le n 128, OverLimit) ∷ (nat_le 1 n && nat_le n (length before + 1), NotCanonical) ∷ (ended || nat_eq n (length before + 1), NotCanonical) ∷ [] in
    let length_rules : ℕ → Rules = λ n. (not (nat_eq n 0), BadLength) ∷ (nat_le n 1023, OverLimit) ∷ [] in
    let a = then_of w8 depth_rules (λ depth. name_length_form >>= λ len. name_form before depth len >>= λ name. ends_form version cover depth last >>= λ ends. whole (row_of (path_at before depth name) ends)) bytes row written8 small s in
    let d = a.value in
    let b = then_of w16 length_rules (λ len. name_form before d len >>= λ name. ends_form version cover d last >>= λ ends. whole (row_of (path_at before d name) ends)) a.back row written16 a.small a.rest in
    let n = b.value in
    let c = parts_of (name_form before d n) (λ name. ends_form version cover d last >>= λ ends. whole (row_of (path_at before d name) ends)) b.back row b.rest in
    let name = c.value in
    let named = name_read before d n c.front name c.first in
    let e = end_of (ends_form version cover d last) (λ ends. row_of (path_at before d name) ends) c.back row c.rest in
    let ends = e.value in
    let read = ends_read version cover d last c.back ends (back_of b.back c.front c.back c.is b.small) e.spells in
    let deep : d ≤ 128 = leb-true d 128 (first_rule (nat_le d 128) OverLimit ((nat_le 1 d && nat_le d (length before + 1), NotCanonical) ∷ (ended || nat_eq d (length before + 1), NotCanonical) ∷ []) a.obeys) in
    let others = other_rules (nat_le d 128) OverLimit ((nat_le 1 d && nat_le d (length before + 1), NotCanonical) ∷ (ended || nat_eq d (length before + 1), NotCanonical) ∷ []) a.obeys in
    let bounds = and_parts (nat_le 1 d) (nat_le d (length before + 1)) (first_rule (nat_le 1 d && nat_le d (length before + 1)) NotCanonical ((ended || nat_eq d (length before + 1), NotCanonical) ∷ []) others) in
    let low : 1 ≤ d = leb-true 1 d bounds.0 in
    let near : d ≤ length before + 1 = leb-true d (length before + 1) bounds.1 in
    let next = first_rule (ended || nat_eq d (length before + 1)) NotCanonical [] (other_rules (nat_le 1 d && nat_le d (length before + 1)) NotCanonical ((ended || nat_eq d (length before + 1), NotCanonical) ∷ []) others) in
    let some : not (nat_eq n 0) ≡ true = first_rule (not (nat_eq n 0)) BadLength ((nat_le n 1023, OverLimit) ∷ []) b.obeys in
    let short : nat_le n 1023 ≡ true = first_rule (nat_le n 1023) OverLimit [] (other_rules (not (nat_eq n 0)) BadLength ((nat_le n 1023, OverLimit) ∷ []) b.obeys) in
    let text = and_parts (is_utf8 name) (list_all is_plain name) named.good in
    let path : Path = path_at before d name in
    let len : length path ≡ d = omega (arith, length-append (take (d - 1) before) (name ∷ []), length-take (d - 1) before, low, near) in
    let depth : (d - 1) + 1 ≡ d = omega (arith, low) in
    subst (RowRead version cover before ended last bytes) e.is (record {
      is = a.is ∙ (λ i. to_be_bytes w8 (sym len i) ++ (b.is ∙ (λ j. to_be_bytes w16 (sym named.len j) ++ (c.is ∙ (λ k. named.is k ++ read.is k)) j) ∙ ap (λ f. to_be_bytes w16 (length f) ++ (f ++ set_bytes (numbers_of version cover ends))) (sym (frame_last (take (d - 1) before) name))) i);
      may = record {
        keep = d - 1;
        name = name;
        path = refl;
        kept = omega (arith, near);
        low = omega (arith, deep, low);
        child = λ none_end. child ended d next none_end low;
        good = and_from (nat_lt 0 (length name)) (nat_le (length name) 1023 && list_all is_plain name) (lt-ltb 0 (length name) (omega (arith, named.len, not_zero n some))) (and_from (nat_le (length name) 1023) (list_all is_plain name) (ap (λ m. nat_le m 1023) named.len ∙ short) text.1);
        text = text.0;
        after = named.after;
        covered = read.covered;
        at_last = λ is_last. read.some (needs d (inl is_last));
        at_depth = λ is_deep. read.some (needs d (inr (sym depth ∙ is_deep)));
      };
    })
  where
    not_zero : (n : ℕ) → not (nat_eq n 0) ≡ true → 0 < n
    not_zero zero h = absurd (true≢false (sym h))
    not_zero (suc n) h = omega arith

    child : (ended : Bool) (d : ℕ) → (ended || nat_eq d (length before + 1)) ≡ true → ended ≡ false → 1 ≤ d → d - 1 ≡ length before
    child true d h e low = absurd (true≢false e)
    child false d h e low = omega (arith, eqb-true d (length before + 1) h)

    by : (b : Bool) → b ≡ true → cond b (Some NotCanonical) None ≢ None
    by true h e = cc
    by false h e = true≢false (sym h)

    either : (a b : Bool) → (a ≡ true) ⊎ (b ≡ true) → (a || b) ≡ true
    either true b h = refl
    either false b (inl h) = absurd (true≢false (sym h))
    either false b (inr h) = h

    at_128 : (d : ℕ) → (last ≡ true) ⊎ (d ≡ 128) → (last ≡ true) ⊎ (nat_eq d 128 ≡ true)
    at_128 d (inl h) = inl h
    at_128 d (inr h) = inr (eq-eqb d 128 h)

    needs : (d : ℕ) → (last ≡ true) ⊎ (d ≡ 128) → ends_needed d last ≢ None
    needs d h = by (last || nat_eq d 128) (either last (nat_eq d 128) (at_128 d h))

-- ---- a message

record RowsRead (version : ℕ) (cover : Ranks) (before : Path) (ended : Bool) (count : ℕ) (bytes : List ℕ) (rows : List Row) : Type 0 where
  len : length rows ≡ count
  is : bytes ≡ flat_map (row_bytes version cover) rows
  may : MayBeRows cover before ended rows

rows_read : (version : ℕ) (cover : Ranks) (before : Path) (ended : Bool) (count : ℕ) (bytes : List ℕ) (rows : List Row) → AreBytes bytes → Spells (list_form (next_row version cover) after_row (before, ended) count) bytes rows → RowsRead version cover before ended count bytes rows
rows_read version cover before ended zero bytes rows small s = subst (RowsRead version cover before ended 0 bytes) s.1 (record { len = refl; is = s.0; may = tt })
rows_read version cover before ended (suc count) bytes rows small s =
    let v = values_of (next_row version cover) after_row (before, ended) count bytes rows s in
    let one = row_read version cover before ended (nat_eq count 0) v.front v.value (front_of bytes v.front v.back v.is small) v.first in
    let more = rows_read version cover v.value.path (not (is_empty v.value.ends)) count v.back v.others (back_of bytes v.front v.back v.is small) v.rest in
    subst (RowsRead version cover before ended (suc count) bytes) v.values (record {
      len = ap suc more.len;
      is = v.is ∙ (λ i. one.is i ++ more.is i) ∙ sym (flat_map-cons (row_bytes version cover) v.value v.others);
      may = (subst (λ n. MayFollow cover before ended (nat_eq n 0) v.value) (sym more.len) one.may, more.may);
    })

one_byte : (n : ℕ) (rest : List ℕ) → n < 256 → to_be_bytes w8 n ++ rest ≡ n ∷ rest
one_byte n rest lt = let e : n % 256 ≡ n = omega (arith, lt) in ap (λ m. m ∷ rest) e

module _ (version : ℕ) where
  -- what follows the version and the kind
  record Read (bytes : List ℕ) (kind : ℕ) (m : Message) : Type 0 where
    may : MayBeMessage version m
    is : version ∷ kind ∷ bytes ≡ spelling version m

  module _ (stream wave : ℕ) (low : stream < 8) (high : wave < 16) where
    abbrev sends : Sent → Message
    sends s = Up stream wave s

    tree_read : (bytes : List ℕ) (m : Message) → AreBytes bytes → Spells (tree_form version stream wave) bytes m → Read (stream ∷ wave ∷ bytes) 1 m
    unfolding tree_form row_count_form
    tree_read bytes m small s =
        let count_rules : ℕ → Rules = λ n. (nat_le n 2048, OverLimit) ∷ [] in
        let a = parts_of (coverage_form version) (λ cover. row_count_form >>= λ count. list_form (next_row version cover) after_row ([], true) count >>= λ rows. whole (sends (sent_of cover rows))) bytes m s in
        let cover = a.value in
        let covered = cover_read version a.front cover (front_of bytes a.front a.back a.is small) a.first in
        let b = then_of w16 count_rules (λ count. list_form (next_row version cover) after_row ([], true) count >>= λ rows. whole (sends (sent_of cover rows))) a.back m written16 (back_of bytes a.front a.back a.is small) a.rest in
        let n = b.value in
        let e = end_of (list_form (next_row version cover) after_row ([], true) n) (λ rows. sends (sent_of cover rows)) b.back m b.rest in
        let rows = e.value in
        let read = rows_read version cover [] true n b.back rows b.small e.spells in
        subst (Read (stream ∷ wave ∷ bytes) 1) e.is (record {
          may = (low, high, record { some = covered.some; small = covered.small; few = omega (arith, read.len, leb-true n 2048 (first_rule (nat_le n 2048) OverLimit [] b.obeys)); rows = read.may });
          is = ap (λ t. version ∷ 1 ∷ stream ∷ wave ∷ t) (a.is ∙ (λ i. covered.is i ++ (b.is ∙ (λ j. to_be_bytes w16 (sym read.len j) ++ read.is j)) i));
        })

    content_read : (kind : ℕ) (bytes : List ℕ) (m : Message) → AreBytes bytes → kind ≤ 2 → 1 ≤ kind → Spells (content_form version kind stream wave) bytes m → Read (stream ∷ wave ∷ bytes) kind m
    unfolding content_form
    content_read zero bytes m small most some s = absurd (omega (arith, some))
    content_read (suc zero) bytes m small most some s = tree_read bytes m small s
    content_read (suc (suc zero)) bytes m small most some s =
        subst (Read (stream ∷ wave ∷ bytes) 2) s.1 (record { may = (low, high); is = ap (λ t. version ∷ 2 ∷ stream ∷ wave ∷ t) s.0 })
    content_read (suc (suc (suc kind))) bytes m small most some s = absurd (omega (arith, most))

  stream_read : (kind : ℕ) (bytes : List ℕ) (m : Message) → AreBytes bytes → kind ≤ 2 → 1 ≤ kind → Spells (stream_form >>= λ stream. wave_form >>= content_form version kind stream) bytes m → Read bytes kind m
  unfolding stream_form wave_form
  stream_read kind bytes m small most some s =
      let a = then_of w8 (λ n. (nat_lt n 8, OverLimit) ∷ []) (λ stream. wave_form >>= content_form version kind stream) bytes m written8 small s in
      let low : a.value < 8 = ltb-true a.value 8 (first_rule (nat_lt a.value 8) OverLimit [] a.obeys) in
      let b = then_of w8 (λ n. (nat_lt n 16, OverLimit) ∷ []) (content_form version kind a.value) a.back m written8 a.small a.rest in
      let high : b.value < 16 = ltb-true b.value 16 (first_rule (nat_lt b.value 16) OverLimit [] b.obeys) in
      subst (λ t. Read t kind m) (sym (a.is ∙ one_byte a.value a.back (omega (arith, low)) ∙ ap (λ t. a.value ∷ t) (b.is ∙ one_byte b.value b.back (omega (arith, high)))))
      (content_read a.value b.value low high kind b.back m b.small most some b.rest)

  packet_read : (kind : ℕ) (bytes : List ℕ) (m : Message) → AreBytes bytes → 1 ≤ kind → kind ≤ 4 → Spells (packet_form version kind) bytes m → Read bytes kind m
  unfolding packet_form
  packet_read zero bytes m small some most s = absurd (omega (arith, some))
  packet_read (suc zero) bytes m small some most s = stream_read 1 bytes m small (omega arith) (omega arith) s
  packet_read (suc (suc zero)) bytes m small some most s = stream_read 2 bytes m small (omega arith) (omega arith) s
  packet_read (suc (suc (suc zero))) bytes m small some most s = subst (Read bytes 3) s.1 (record { may = tt; is = ap (λ t. version ∷ 3 ∷ t) s.0 })
  packet_read (suc (suc (suc (suc zero)))) bytes m small some most s = subst (Read bytes 4) s.1 (record { may = tt; is = ap (λ t. version ∷ 4 ∷ t) s.0 })
  packet_read (suc (suc (suc (suc (suc kind))))) bytes m small some most s = absurd (omega (arith, most))

known_small : (n : ℕ) → (nat_eq n 1 || nat_eq n 2) ≡ true → n < 256
known_small n h = elim (or_cases (nat_eq n 1) (nat_eq n 2) h) [ inl e ↦ omega (arith, eqb-true n 1 e) | inr e ↦ omega (arith, eqb-true n 2 e) ]

-- what bytes spell may be sent, and they are its spelling
pub one_spelling : (bytes : List ℕ) (m : Message) → AreBytes bytes → Spells frame_form bytes m → IsOneSpelling bytes m
unfolding frame_form version_form kind_form
one_spelling bytes m small s =
    let a = then_of w8 (λ n. (nat_eq n 1 || nat_eq n 2, BadKind) ∷ []) (λ version. kind_form >>= packet_form version) bytes m written8 small s in
    let version = a.value in
    let known = first_rule (nat_eq version 1 || nat_eq version 2) BadKind [] a.obeys in
    let b = then_of w8 (λ n. (nat_le 1 n && nat_le n 4, BadKind) ∷ []) (packet_form version) a.back m written8 a.small a.rest in
    let kind = b.value in
    let bounds = and_parts (nat_le 1 kind) (nat_le kind 4) (first_rule (nat_le 1 kind && nat_le kind 4) BadKind [] b.obeys) in
    let most : kind ≤ 4 = leb-true kind 4 bounds.1 in
    let read = packet_read version kind b.back m b.small (leb-true 1 kind bounds.0) most b.rest in
    let text : version ∷ kind ∷ b.back ≡ bytes = sym (a.is ∙ one_byte version a.back (known_small version known) ∙ ap (λ t. version ∷ t) (b.is ∙ one_byte kind b.back (omega (arith, most)))) in
    subst (λ t. IsOneSpelling t m) text (record { known = known; may = read.may; is = read.is })
