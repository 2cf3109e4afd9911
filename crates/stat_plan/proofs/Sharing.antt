-- Rows that gain their parts of lines.
use Rattle.std.proofs.Common.{Vec, Global, ◌≡◌, ◌≢◌, ℕ, suc, zero, ◌<◌, Bool, true, false, ◌&&◌, ◌||◌, nat_eq, List, [], ◌∷◌, ◌++◌, map, get_or, set, length, refl, sym, ap, subst, ◌∙◌, arith, eqb-true, eq-eqb, inl, inr}
use Rattle.std.specs.Prelude.{not, if◌then◌else◌, slice_get, Option, Some, unwrap_or, Result, Ok, Err, OnOk}
use Rattle.std.specs.List.{list_any, AllByRecursion}
use Rattle.std.specs.List.Sorted.{IsPermutation}
use Rattle.std.proofs.lemmas.Bool.{true≢false, cases_Bool, eqb-false, and_parts, and_from, or_cases, or_left, or_right, false_from_ne_true}
use Rattle.std.proofs.lemmas.List.{get_or_default, length-set, length-map, map-append, map-set, set-get_or}
use Rattle.std.proofs.lemmas.List.Folds.{list_any-append}
use Rattle.std.proofs.lemmas.List.Sorted.{IsPermutation-refl, IsPermutation-sym, IsPermutation-trans}
use Rattle.std.proofs.lemmas.Option.{none-some}
use Rattle.indexmap.specs.IndexSet.{insert_key}
use Rattle.rank_set.specs.Ranks.{Ranks, none, has, Has, IsSubset, union, has-union, has-none}
use Rattle.rank_set.proofs.SomeMember.{some_member}
use Rattle.stat_plan.specs.Invariants.{ArePlacedOnce}
use Rattle.stat_plan.specs.OwnLines.{AreKeysOf, AreNotEmpty, AreParted, AreReordered, GainParts, GainsRanks, ListPlacedRanks, TakesLine, is_in, key_of, lists, ranks_at, row_at}
use Rattle.stat_plan.specs.Samples.{all_ranks}
use Rattle.overlay_setup.specs.NodeSets.{up_to}
use Rattle.overlay_setup.specs.Tables.{rows_view}
use Rattle.stat_plan.specs.declared.samples.StackLine.{StackLine}
use Rattle.stat_plan.proofs.Elements.{all_from}
use Rattle.stat_plan.proofs.FirstOver.{all_in}
use Rattle.stat_plan.proofs.Indexing.{other_row, row_here, rows_changed, same_row}
use Rattle.stat_plan.proofs.InLists.{any_from_in, in_from_any, in_permuted}
use Rattle.overlay_setup.proofs.UpTo.{length-up_to, at_table}

pub both_ways : (a b : Bool) → (a ≡ true → b ≡ true) → (b ≡ true → a ≡ true) → a ≡ b
both_ways true b there back = sym (there refl)
both_ways false true there back = back refl
both_ways false false there back = refl

or_none : (b : Bool) → (b || false) ≡ b
or_none true = refl
or_none false = refl

-- what follows from what holds where a result is `Ok`
pub on_ok : {A E P Q : Type 0} (result : Result A E) → (P → Q) → OnOk result P → OnOk result Q
on_ok (Ok x) follows p = follows p
on_ok (Err e) follows p = p

-- ---- one row

-- a new line at the end
pub gains_new : (line new : StackLine) (ranks : Ranks) (old : List StackLine) → new.time ≡ line.time → new.path ≡ line.path → new.ranks ≡ ranks → ranks ≢ none → GainsRanks line ranks old (old ++ new ∷ [])
gains_new line new ranks old time path is some = record {
  each = λ r t i.
      list_any-append (λ l. lists l r t i) old (new ∷ [])
      ∙ ap (λ b. is_in old r t i || b) (or_none (lists new r t i) ∙ (λ j. has (is j) r && (nat_eq (time j) t && nat_eq (path j) i)));
  not_empty = push old;
}
  where
    push : (xs : List StackLine) → AreNotEmpty xs → AreNotEmpty (xs ++ new ∷ [])
    push [] all = ((λ e. some (sym is ∙ e)), tt)
    push (x ∷ xs) all = (all.0, push xs all.1)

union_some : (s t : Ranks) → s ≢ none → union s t ≢ none
union_some s t some e = let r = some_member s some in true≢false (sym (has-union s t r.0 ∙ or_left (has s r.0) (has t r.0) r.1) ∙ ap (λ u. has u r.0) e ∙ has-none r.0)

-- a line that gains ranks
pub gains_at : (line new d : StackLine) (ranks : Ranks) (old : List StackLine) (k : ℕ) → k < length old → new.time ≡ line.time → new.path ≡ line.path → (get_or old k d).time ≡ line.time → (get_or old k d).path ≡ line.path
    → new.ranks ≡ union (get_or old k d).ranks ranks → GainsRanks line ranks old (set old k new)
gains_at line new d ranks [] k lt time path was_time was_path is = absurd (omega arith)
gains_at line new d ranks (x ∷ xs) zero lt time path was_time was_path is = record {
  each = λ r t i.
      ap (λ b. b || is_in xs r t i)
      ((λ j. has (is j) r && (nat_eq (time j) t && nat_eq (path j) i)) ∙ ap (λ b. b && (nat_eq line.time t && nat_eq line.path i)) (has-union x.ranks ranks r))
      ∙ spread (has x.ranks r) (has ranks r) (nat_eq line.time t && nat_eq line.path i) (is_in xs r t i)
      ∙ (λ j. ((has x.ranks r && (nat_eq (sym was_time j) t && nat_eq (sym was_path j) i)) || is_in xs r t i) || (has ranks r && (nat_eq line.time t && nat_eq line.path i)));
  not_empty = λ all. (subst (λ s. s ≢ none) (sym is) (union_some x.ranks ranks all.0), all.1);
}
  where
    spread : (a b c d : Bool) → (((a || b) && c) || d) ≡ (((a && c) || d) || (b && c))
    spread true true true d = refl
    spread true true false true = refl
    spread true true false false = refl
    spread true false true d = refl
    spread true false false true = refl
    spread true false false false = refl
    spread false true true true = refl
    spread false true true false = refl
    spread false true false true = refl
    spread false true false false = refl
    spread false false c true = refl
    spread false false c false = refl
gains_at line new d ranks (x ∷ xs) (suc k) lt time path was_time was_path is =
    let rest = gains_at line new d ranks xs k (omega (arith, lt)) time path was_time was_path is in
    record {
      each = λ r t i. ap (λ b. lists x r t i || b) (rest.each r t i) ∙ regroup (lists x r t i) (is_in xs r t i) (has ranks r && (nat_eq line.time t && nat_eq line.path i));
      not_empty = λ all. (all.0, rest.not_empty all.1);
    }
  where
    regroup : (a b c : Bool) → (a || (b || c)) ≡ ((a || b) || c)
    regroup true b c = refl
    regroup false b c = refl

-- an entry gains ranks, where it is at a line's time in its path
pub entry_gains : (line was : StackLine) (ranks gained : Ranks) (old : List StackLine) (k : ℕ) → k < length old → was ≡ get_or old k was → was.time ≡ line.time → was.path ≡ line.path
    → gained ≡ union was.ranks ranks → GainsRanks line ranks old (set old k (record { time = was.time; ranks = gained; path = was.path }))
entry_gains line was ranks gained old k lt was_is time path is =
    gains_at line (record { time = was.time; ranks = gained; path = was.path }) was ranks old k lt time path (ap (λ (l : StackLine). l.time) (sym was_is) ∙ time) (ap (λ (l : StackLine). l.path) (sym was_is) ∙ path)
    (is ∙ ap (λ (l : StackLine). union l.ranks ranks) was_is)

-- the last line gains ranks, where it is at a line's time in its path
pub last_gains : (line seen was : StackLine) (ranks gained : Ranks) (old : List StackLine) (k : ℕ) → k < length old → seen ≡ get_or old k seen → was ≡ get_or old k was → (nat_eq seen.time line.time && nat_eq seen.path line.path) ≡ true
    → gained ≡ union was.ranks ranks → GainsRanks line ranks old (set old k (record { time = was.time; ranks = gained; path = was.path }))
last_gains line seen was ranks gained old k lt seen_is was_is at is =
    let parts = and_parts (nat_eq seen.time line.time) (nat_eq seen.path line.path) at in
    let same : was ≡ seen = was_is ∙ get_or_default old k was seen lt ∙ sym seen_is in
    entry_gains line was ranks gained old k lt was_is (ap (λ (l : StackLine). l.time) same ∙ eqb-true seen.time line.time parts.0) (ap (λ (l : StackLine). l.path) same ∙ eqb-true seen.path line.path parts.1) is

-- a rank that a line lists is listed
pub lists_itself : (line : StackLine) (r : ℕ) → Has r line.ranks → lists line r line.time line.path ≡ true
lists_itself line r there = and_from (has line.ranks r) (nat_eq line.time line.time && nat_eq line.path line.path) there (and_from (nat_eq line.time line.time) (nat_eq line.path line.path) (eq-eqb line.time line.time refl) (eq-eqb line.path line.path refl))

-- ---- the parts of one line

and_none : (a : Bool) → (a && false) ≡ false
and_none true = refl
and_none false = refl

-- a line whose ranks are one node's
pub parts_of_node : (placed : List Ranks) (line : StackLine) (node : ℕ) (old : List (List StackLine)) (row : List StackLine) → ArePlacedOnce placed → node < length old → IsSubset line.ranks (ranks_at placed node)
    → GainsRanks line line.ranks (row_at old node) row → GainParts placed line old (set old node row)
parts_of_node placed line node old row once inside lies gain = record {
  paired = length-set old node row;
  each = λ n r t i below. elim (cases_Bool (nat_eq n node)) [
    | (inl same) ↦
        let e : n ≡ node = eqb-true n node same in
        subst (λ m. is_in (row_at (set old node row) m) r t i ≡ (is_in (row_at old m) r t i || (has (ranks_at placed m) r && (has line.ranks r && (nat_eq line.time t && nat_eq line.path i))))) (sym e)
        (ap (λ xs. is_in xs r t i) (same_row old node row inside) ∙ gain.each r t i ∙ ap (λ b. is_in (row_at old node) r t i || b) (within (has (ranks_at placed node) r) (has line.ranks r) (nat_eq line.time t && nat_eq line.path i) (lies r)))
    | (inr other) ↦
        ap (λ xs. is_in xs r t i) (other_row old node row inside n (eqb-false n node other))
        ∙ sym (ap (λ b. is_in (row_at old n) r t i || b) (false_from_ne_true (has (ranks_at placed n) r && (has line.ranks r && (nat_eq line.time t && nat_eq line.path i))) (λ both.
        let parts = and_parts (has (ranks_at placed n) r) ((has line.ranks r && (nat_eq line.time t && nat_eq line.path i))) both in
        eqb-false n node other (once n node r parts.0 (lies r (and_parts (has line.ranks r) (nat_eq line.time t && nat_eq line.path i) parts.1).0)))) ∙ or_none (is_in (row_at old n) r t i))
  ];
  not_empty = λ n below all. elim (cases_Bool (nat_eq n node)) [
    | (inl same) ↦
        let e : n ≡ node = eqb-true n node same in
        subst (λ m. AreNotEmpty (row_at (set old node row) m)) (sym e) (subst AreNotEmpty (sym (same_row old node row inside)) (gain.not_empty (subst (λ m. AreNotEmpty (row_at old m)) e all)))
    | (inr other) ↦ subst AreNotEmpty (sym (other_row old node row inside n (eqb-false n node other))) all
  ];
}
  where
    within : (o l c : Bool) → (l ≡ true → o ≡ true) → (l && c) ≡ (o && (l && c))
    within true l c sub = refl
    within false true c sub = absurd (true≢false (sym (sub refl)))
    within false false c sub = refl

-- ---- all lines

and_or : (a b c : Bool) → ((a && b) || (a && c)) ≡ (a && (b || c))
and_or true b c = refl
and_or false b c = refl

or_swap : (a b c : Bool) → ((a || b) || c) ≡ ((a || c) || b)
or_swap true b c = refl
or_swap false true true = refl
or_swap false true false = refl
or_swap false false true = refl
or_swap false false false = refl

or_group : (a b c : Bool) → (a || (b || c)) ≡ ((a || b) || c)
or_group true b c = refl
or_group false b c = refl

-- one line more
one_more : (before : List StackLine) (line : StackLine) (r t i : ℕ) → is_in (before ++ line ∷ []) r t i ≡ (is_in before r t i || lists line r t i)
one_more before line r t i =
    list_any-append (λ l. lists l r t i) before (line ∷ [])
    ∙ ap (λ b. is_in before r t i || b) (or_none (lists line r t i))

-- no line is shared out yet
pub parted_none : (placed : List Ranks) (spread : List StackLine) (rows : List (List StackLine)) → spread ≡ [] → rows ≡ map (λ (_ : ℕ). []) (up_to (length placed)) → AreParted placed [] spread rows
parted_none placed spread rows none_spread is = subst (λ xs. AreParted placed [] xs rows) (sym none_spread) (record {
  paired = ap length is ∙ length-map (up_to (length placed)) (λ (_ : ℕ). []) ∙ length-up_to (length placed);
  each = λ n r t i below. ap (λ xs. is_in xs r t i || (has (ranks_at placed n) r && false)) (empty n below);
  not_empty = λ n below. subst AreNotEmpty (sym (empty n below)) tt;
  spread_within = λ r t i there. there;
  spread_not_empty = tt;
})
  where
    empty : (n : ℕ) → n < length placed → row_at rows n ≡ []
    empty n below = ap (λ xs. row_at xs n) is ∙ at_table (λ _. []) (length placed) n [] below

-- a line more is taken
module _ (placed : List Ranks) (before : List StackLine) (line : StackLine) where
  -- by the rows
  pub parted_by_rows : (spread : List StackLine) (old new : List (List StackLine)) → AreParted placed before spread old → GainParts placed line old new → AreParted placed (before ++ line ∷ []) spread new
  parted_by_rows spread old new so_far gain = record {
    paired = gain.paired ∙ so_far.paired;
    each = λ n r t i below.
        let own = has (ranks_at placed n) r in
        ap (λ b. b || (own && is_in spread r t i)) (gain.each n r t i (inside n below))
        ∙ or_swap (is_in (row_at old n) r t i) (own && lists line r t i) (own && is_in spread r t i)
        ∙ ap (λ b. b || (own && lists line r t i)) (so_far.each n r t i below)
        ∙ and_or own (is_in before r t i) (lists line r t i)
        ∙ ap (λ b. own && b) (sym (one_more before line r t i));
    not_empty = λ n below. gain.not_empty n (inside n below) (so_far.not_empty n below);
    spread_within = λ r t i there. one_more before line r t i ∙ or_left (is_in before r t i) (lists line r t i) (so_far.spread_within r t i there);
    spread_not_empty = so_far.spread_not_empty;
  }
    where
      inside : (n : ℕ) → n < length placed → n < length old
      inside n below = subst (λ m. n < m) (sym so_far.paired) below

  -- by the spread lines
  pub parted_by_spread : (old new : List StackLine) (rows : List (List StackLine)) → AreParted placed before old rows → GainsRanks line line.ranks old new → AreParted placed (before ++ line ∷ []) new rows
  parted_by_spread old new rows so_far gain = record {
    paired = so_far.paired;
    each = λ n r t i below.
        let own = has (ranks_at placed n) r in
        ap (λ b. is_in (row_at rows n) r t i || (own && b)) (gain.each r t i)
        ∙ ap (λ b. is_in (row_at rows n) r t i || b) (sym (and_or own (is_in old r t i) (lists line r t i)))
        ∙ or_group (is_in (row_at rows n) r t i) (own && is_in old r t i) (own && lists line r t i)
        ∙ ap (λ b. b || (own && lists line r t i)) (so_far.each n r t i below)
        ∙ and_or own (is_in before r t i) (lists line r t i)
        ∙ ap (λ b. own && b) (sym (one_more before line r t i));
    not_empty = so_far.not_empty;
    spread_within = λ r t i there. one_more before line r t i ∙ elim (or_cases (is_in old r t i) (lists line r t i) (sym (gain.each r t i) ∙ there)) [
      | (inl earlier) ↦ or_left (is_in before r t i) (lists line r t i) (so_far.spread_within r t i earlier)
      | (inr now) ↦ or_right (is_in before r t i) (lists line r t i) now
    ];
    spread_not_empty = gain.not_empty so_far.spread_not_empty;
  }

-- spread lines list placed ranks
pub spread_placed : (placed : List Ranks) (lines spread : List StackLine) (rows : List (List StackLine)) → ListPlacedRanks placed lines → AreParted placed lines spread rows → ListPlacedRanks placed spread
spread_placed placed lines spread rows placed_ranks are = all_from _ spread (λ line there. (
  all_in (λ (l : StackLine). l.ranks ≢ none) spread line are.spread_not_empty there,
  λ r rank.
      let here = any_from_in (λ (l : StackLine). lists l r line.time line.path) line spread there (lists_itself line r rank) in
      let from = in_from_any (λ (l : StackLine). lists l r line.time line.path) lines (are.spread_within r line.time line.path here) in
      (all_in (λ (l : StackLine). (l.ranks ≢ none) × IsSubset l.ranks (all_ranks placed)) lines from.0 placed_ranks from.1.0).1 r (and_parts (has from.0.ranks r) (nat_eq from.0.time line.time && nat_eq from.0.path line.path) from.1.1).0,
))

-- ---- the keys of lines

-- a new line's key goes last
pub keys_new : (keys new : List (ℕ × ℕ)) (old : List StackLine) (line : StackLine) → AreKeysOf keys old → new ≡ keys ++ key_of line ∷ [] → AreKeysOf new (old ++ line ∷ [])
keys_new keys new old line are is = is ∙ ap (λ ks. ks ++ key_of line ∷ []) are ∙ sym (map-append key_of old (line ∷ []))

-- a line that gains ranks keeps its key
pub keys_kept : (keys new : List (ℕ × ℕ)) (old : List StackLine) (k : ℕ) (was : StackLine) (gained : Ranks) → AreKeysOf keys old → new ≡ keys → was ≡ get_or old k was → AreKeysOf new (set old k (record { time = was.time; ranks = gained; path = was.path }))
keys_kept keys new old k was gained are same is =
    same
    ∙ are
    ∙ sym (set-get_or (map key_of old) k (key_of was))
    ∙ ap (set (map key_of old) k) (get_or-map-same old k was ∙ ap key_of (sym is))
    ∙ sym (map-set key_of old k (record { time = was.time; ranks = gained; path = was.path }))
  where
    get_or-map-same : (xs : List StackLine) (k : ℕ) (d : StackLine) → get_or (map key_of xs) k (key_of d) ≡ key_of (get_or xs k d)
    get_or-map-same [] k d = refl
    get_or-map-same (x ∷ xs) zero d = refl
    get_or-map-same (x ∷ xs) (suc k) d = get_or-map-same xs k d

-- whether two keys are the same
abbrev pub key_eq : ℕ × ℕ → ℕ × ℕ → Bool
key_eq a b = nat_eq a.0 b.0 && nat_eq a.1 b.1

-- a key that is there is not added
pub keys_same : (keys new : List (ℕ × ℕ)) (key : ℕ × ℕ) (added : Bool) → new ≡ insert_key key_eq keys key → added ≡ not (list_any (key_eq key) keys) → added ≡ false → new ≡ keys
keys_same keys new key added is by not_added = is ∙ stays (list_any (key_eq key) keys) (sym by ∙ not_added)
  where
    stays : (b : Bool) → not b ≡ false → (if b then keys else keys ++ key ∷ []) ≡ keys
    stays true e = refl
    stays false e = absurd (true≢false e)

key_at : (lines : List StackLine) (k : ℕ) (key : ℕ × ℕ) (d : StackLine) → slice_get (map key_of lines) k ≡ Some key → (k < length lines) × (key_of (get_or lines k d) ≡ key)
key_at [] k key d is = absurd (none-some key is)
key_at (l ∷ lines) zero key d is = (omega arith, ap (λ (o : Option (ℕ × ℕ)). unwrap_or o (key_of l)) is)
key_at (l ∷ lines) (suc k) key d is = let rest = key_at lines k key d is in let lt = rest.0 in (omega (arith, lt), rest.1)

-- the line with the key of a line gains its ranks
pub key_gains : (line was : StackLine) (ranks gained : Ranks) (keys new : List (ℕ × ℕ)) (old : List StackLine) (k : ℕ) (key : ℕ × ℕ) → AreKeysOf keys old → new ≡ keys → slice_get new k ≡ Some key → key_eq (key_of line) key ≡ true
    → was ≡ get_or old k was → gained ≡ union was.ranks ranks → GainsRanks line ranks old (set old k (record { time = was.time; ranks = gained; path = was.path }))
key_gains line was ranks gained keys new old k key are same found equal was_is is =
    let at = key_at old k key was (ap (λ ks. slice_get ks k) (sym (same ∙ are)) ∙ found) in
    let parts = and_parts (nat_eq line.path key.0) (nat_eq line.time key.1) equal in
    let here : key_of was ≡ key = ap key_of was_is ∙ at.1 in
    entry_gains line was ranks gained old k at.0 was_is (ap (λ (p : ℕ × ℕ). p.1) here ∙ sym (eqb-true line.time key.1 parts.1)) (ap (λ (p : ℕ × ℕ). p.0) here ∙ sym (eqb-true line.path key.0 parts.0)) is

-- ---- rows in another order

pub reordered_none : (rows : List (List StackLine)) → AreReordered rows rows
reordered_none rows = record { paired = refl; rows = λ n. IsPermutation-refl (row_at rows n) }

pub reordered_more : (old new : List (List StackLine)) (node : ℕ) (row : List StackLine) → node < length new → IsPermutation (row_at new node) row → AreReordered old new → AreReordered old (set new node row)
reordered_more old new node row inside moved so_far = record {
  paired = length-set new node row ∙ so_far.paired;
  rows = λ n. elim (cases_Bool (nat_eq n node)) [
    | (inl same) ↦
        let e : n ≡ node = eqb-true n node same in
        subst (λ m. IsPermutation (row_at old m) (row_at (set new node row) m)) (sym e)
        (subst (IsPermutation (row_at old node)) (sym (same_row new node row inside)) (IsPermutation-trans (row_at old node) (row_at new node) row (so_far.rows node) moved))
    | (inr other) ↦ subst (IsPermutation (row_at old n)) (sym (other_row new node row inside n (eqb-false n node other))) (so_far.rows n)
  ];
}

-- what is found in some lines doesn't depend on their order
found : (test : StackLine → Bool) (xs ys : List StackLine) → IsPermutation xs ys → list_any test xs ≡ true → list_any test ys ≡ true
found test xs ys moved there = let x = in_from_any test xs there in any_from_in test x.0 ys (in_permuted x.0 xs ys moved x.1.0) x.1.1

pub any_permuted : (test : StackLine → Bool) (xs ys : List StackLine) → IsPermutation xs ys → list_any test ys ≡ list_any test xs
any_permuted test xs ys moved = both_ways (list_any test ys) (list_any test xs) (found test ys xs (IsPermutation-sym xs ys moved)) (found test xs ys moved)

-- what holds of all lines doesn't either
pub all_permuted : (P : StackLine → Type 0) (xs ys : List StackLine) → IsPermutation xs ys → AllByRecursion P xs → AllByRecursion P ys
all_permuted P xs ys moved all = all_from P ys (λ l there. all_in P xs l all (in_permuted l ys xs (IsPermutation-sym xs ys moved) there))

-- so lines stay parted in another order
pub parted_reordered : (placed : List Ranks) (lines spread sorted : List StackLine) (old new : List (List StackLine)) → AreReordered old new → IsPermutation spread sorted → AreParted placed lines spread old → AreParted placed lines sorted new
parted_reordered placed lines spread sorted old new moved order are = record {
  paired = moved.paired ∙ are.paired;
  each = λ n r t i below.
      (λ j. any_permuted (λ l. lists l r t i) (row_at old n) (row_at new n) (moved.rows n) j || (has (ranks_at placed n) r && any_permuted (λ l. lists l r t i) spread sorted order j))
      ∙ are.each n r t i below;
  not_empty = λ n below. all_permuted (λ (l : StackLine). l.ranks ≢ none) (row_at old n) (row_at new n) (moved.rows n) (are.not_empty n below);
  spread_within = λ r t i there. are.spread_within r t i (sym (any_permuted (λ l. lists l r t i) spread sorted order) ∙ there);
  spread_not_empty = all_permuted (λ (l : StackLine). l.ranks ≢ none) spread sorted order are.spread_not_empty;
}

-- a line is taken by the row of the node that has its ranks
pub taken_by_row : (placed : List Ranks) (rows : List (Vec StackLine Global)) (line : StackLine) (ranks : Ranks) (node : ℕ) (d row : Vec StackLine Global) (spread : List StackLine) → ArePlacedOnce placed → length rows ≡ length placed → node < length placed → IsSubset ranks (ranks_at placed node) → line.ranks ≡ ranks
    → GainsRanks line ranks (get_or rows node d).items row.items → TakesLine placed line spread (rows_view rows) spread (rows_view (set rows node row))
taken_by_row placed rows line ranks node d row spread once paired below lies is gain before so_far =
    let inside : node < length rows = subst (λ k. node < k) (sym paired) below in
    let gained = subst (λ xs. GainsRanks line line.ranks xs row.items) (row_here rows node d inside) (subst (λ s. GainsRanks line s (get_or rows node d).items row.items) (sym is) gain) in
    subst (AreParted placed (before ++ line ∷ []) spread) (sym (rows_changed rows node row))
    (parted_by_rows placed before line spread (rows_view rows) (set (rows_view rows) node row.items) so_far
    (parts_of_node placed line node (rows_view rows) row.items once (subst (λ k. node < k) (sym (length-map rows (λ (r : Vec StackLine Global). r.items))) inside) (subst (λ s. IsSubset s (ranks_at placed node)) (sym is) lies) gained))
