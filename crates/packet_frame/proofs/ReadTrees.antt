-- The tree of rows that may be sent has just these rows.
use Rattle.std.proofs.Common.{◌≡◌, ℕ, zero, suc, ◌+◌, ◌≤◌, Bool, true, false, not, ◌||◌, ◌&&◌, nat_eq, List, [], ◌∷◌, ◌++◌, length, take, map, refl, sym, ap, subst, ◌∙◌, arith, ◌⊎◌, inl, inr, T}
use Rattle.std.specs.Prelude.{All, IsTrue, slice_get}
use Rattle.std.specs.Str.{is_utf8}
use Rattle.std.specs.Ordering.{is_eq, is_lt, nat_cmp, eq_by_cmp, ordering_then}
use Rattle.std.specs.declared.cmp.Ordering.{Ordering}
use Rattle.std.specs.declared.cmp.Ordering.TheVariants.{Less, Equal, Greater}
use Rattle.std.specs.Cmp.{tied_itself}
use Rattle.std.specs.Cmp.Lexicographic.{slice_cmp, nat_list_cmp_total}
use Rattle.std.specs.FinMap as finmap
use Rattle.std.specs.FinMap.Entries.{below_all}
use Rattle.std.specs.List.{list_any}
use Rattle.std.proofs.lemmas.Bool.{true≢false, and_parts, and_from, or_cases, or_left, or_right, cases_Bool, eqb-true}
use Rattle.std.proofs.lemmas.List.{length-map, length-append, length-take, take_all}
use Rattle.std.proofs.lemmas.List.Elements.{All-nil, All-cons, All-append, All-take}
use Rattle.rank_set.specs.Ranks.{Ranks, none, has, in_order, size, is_empty, has-those, none_from_size}
use Rattle.rank_set.proofs.SomeMember.{first_member}
use Rattle.call_path.specs.Path.{Path, path_cmp, is_path, is_prefix, path_cmp_total}
use Rattle.call_path.specs.Good.{is_good_frame, IsGoodPath, AreGoodFrames}
use Rattle.call_path.specs.Pairs.{Pairs, pairs_at, passes, is_pair, is_below}
use Rattle.call_path.proofs.PathLemmas.{is_path-exact, is_path-itself, is_path-cons}
use Rattle.prefix_tree.specs.Pairs.{label}
use Rattle.prefix_tree.specs.Tree.{Tree, Marks, IsTree, tree_of, frame_of}
use Rattle.prefix_tree.specs.Joined.{in_rows, seen, labelled, ended}
use Rattle.prefix_tree.proofs.Rows.{in_rows-entries, both}
use Rattle.prefix_tree.proofs.PairLemmas.{and_swap, any-pairs_of_set, any-flat_map, any_alike, pair_from_passes, passes-from_pair}
use Rattle.prefix_tree.proofs.TreeLemmas.{is_prefix-itself, tree_of-is, IsTree-tree_of}
use Rattle.prefix_tree.proofs.Walking.{is_prefix-trans}
use Rattle.packet_frame.specs.declared.packet.Packet.TheVariants.{Up, Done, Attach, Down}
use Rattle.packet_frame.specs.Frame.{Row, row_of, Sent, sent_of, Message, is_after}
use Rattle.packet_frame.specs.Sent.{sent_from, pairs_of_rows, tree_from, packet_map}
use Rattle.packet_frame.specs.Spelling.{spelling}
use Rattle.packet_frame.specs.Sending.{MayFollow, MayBeRows, MayBeSent, MayBeMessage, MayBeTree, version_of, IsOnlySpelling}
use Rattle.packet_frame.proofs.ReadRows.{one_spelling}

-- ---- the order of the paths

-- a path that keeps so many frames of another, and goes on with a greater frame, is greater
sibling_before : (before : Path) (k : ℕ) (name : List ℕ) → k ≤ length before → is_after (slice_get before k) name ≡ true → path_cmp before (take k before ++ name ∷ []) ≡ Less
sibling_before [] zero name le after = refl
sibling_before [] (suc k) name le after = absurd (omega (arith, le))
sibling_before (f ∷ b) zero name le after = by (slice_cmp nat_cmp f name) after
  where
    by : (o : Ordering) → is_lt o ≡ true → ordering_then o (path_cmp b []) ≡ Less
    by Less e = refl
    by Equal e = absurd (true≢false (sym e))
    by Greater e = absurd (true≢false (sym e))
sibling_before (f ∷ b) (suc k) name le after = ap (λ o. ordering_then o (path_cmp b (take k b ++ name ∷ []))) (tied_itself nat_list_cmp_total f) ∙ sibling_before b k name (omega (arith, le)) after

rises : (C : Ranks) (before : Path) (ended last : Bool) (r : Row) → MayFollow C before ended last r → path_cmp before r.path ≡ Less
rises C before ended last r may = ap (path_cmp before) may.path ∙ sibling_before before may.keep may.name may.kept may.after

-- ---- the prefixes of the paths

nothing_before : (q : Path) → is_prefix q [] ≡ true → is_path q [] ≡ true
nothing_before [] h = refl
nothing_before (f ∷ q) h = absurd (true≢false (sym h))

only_name : (f : List ℕ) (q : Path) (name : List ℕ) → is_prefix (f ∷ q) (name ∷ []) ≡ true → is_path (f ∷ q) (name ∷ []) ≡ true
only_name f q name h =
    let parts = and_parts (eq_by_cmp (slice_cmp nat_cmp) f name) (is_prefix q []) h in
    is_path-cons f name q [] ∙ and_from (eq_by_cmp (slice_cmp nat_cmp) f name) (is_path q []) parts.0 (nothing_before q parts.1)

-- a prefix of such a path is one of the path before, or the path itself
pub prefix_kept : (q b : Path) (k : ℕ) (name : List ℕ) → is_prefix q (take k b ++ name ∷ []) ≡ true → (is_prefix q b ≡ true) ⊎ (is_path q (take k b ++ name ∷ []) ≡ true)
prefix_kept [] b k name h = inl refl
prefix_kept (f ∷ q) [] zero name h = inr (only_name f q name h)
prefix_kept (f ∷ q) [] (suc k) name h = inr (only_name f q name h)
prefix_kept (f ∷ q) (g ∷ b) zero name h = inr (only_name f q name h)
prefix_kept (f ∷ q) (g ∷ b) (suc k) name h =
    let parts = and_parts (eq_by_cmp (slice_cmp nat_cmp) f g) (is_prefix q (take k b ++ name ∷ [])) h in
    elim (prefix_kept q b k name parts.1) [
      | inl shorter ↦ inl (and_from (eq_by_cmp (slice_cmp nat_cmp) f g) (is_prefix q b) parts.0 shorter)
      | inr whole ↦ inr (is_path-cons f g q (take k b ++ name ∷ []) ∙ and_from (eq_by_cmp (slice_cmp nat_cmp) f g) (is_path q (take k b ++ name ∷ [])) parts.0 whole)
    ]

starts_longer : (p : Path) (name : List ℕ) → is_prefix p (p ++ name ∷ []) ≡ true
starts_longer [] name = refl
starts_longer (f ∷ p) name = and_from (eq_by_cmp (slice_cmp nat_cmp) f f) (is_prefix p (p ++ name ∷ [])) (ap is_eq (tied_itself nat_list_cmp_total f)) (starts_longer p name)

-- a row has the path
abbrev pub has_path : Path → List Row → Bool
has_path p rows = list_any (λ row. is_path p row.path) rows

-- the rank's path ends there
abbrev pub ends_at : ℕ → Path → List Row → Bool
ends_at x p rows = list_any (λ row. is_path p row.path && has row.ends x) rows

-- the pairs are what the ends say
pub pair_of_rows : (rows : List Row) (x : ℕ) (p : Path) → is_pair (pairs_of_rows rows) x p ≡ ends_at x p rows
pair_of_rows rows x p =
    any-flat_map (λ e. nat_eq e.0 x && is_path p e.1) (λ (row : Row). pairs_at (in_order row.ends) row.path) rows
    ∙ any_alike (λ (row : Row). list_any (λ e. nat_eq e.0 x && is_path p e.1) (pairs_at (in_order row.ends) row.path)) (λ row. is_path p row.path && has row.ends x) (λ row. any-pairs_of_set (is_path p) row.ends row.path x ∙ and_swap (has row.ends x) (is_path p row.path)) rows

-- and so a row has the path
pub ends_have_path : (x : ℕ) (p : Path) (rows : List Row) → ends_at x p rows ≡ true → has_path p rows ≡ true
ends_have_path x p [] h = h
ends_have_path x p (r ∷ rs) h = elim (or_cases (is_path p r.path && has r.ends x) (ends_at x p rs) h) [
  | inl here ↦ or_left (is_path p r.path) (has_path p rs) (and_parts (is_path p r.path) (has r.ends x) here).0
  | inr later ↦ or_right (is_path p r.path) (has_path p rs) (ends_have_path x p rs later)
]

module _ (C : Ranks) where
  ends_covered : (before : Path) (ended : Bool) (rows : List Row) → MayBeRows C before ended rows → (x : ℕ) (p : Path) → ends_at x p rows ≡ true → has C x ≡ true
  ends_covered before ended [] may x p h = absurd (true≢false (sym h))
  ends_covered before ended (r ∷ rs) may x p h = elim (or_cases (is_path p r.path && has r.ends x) (ends_at x p rs) h) [
    | inl here ↦ may.0.covered x (and_parts (is_path p r.path) (has r.ends x) here).1
    | inr later ↦ ends_covered r.path (not (is_empty r.ends)) rs may.1 x p later
  ]

  paths_below : (before : Path) (ended : Bool) (rows : List Row) → MayBeRows C before ended rows → (p : Path) → has_path p rows ≡ true → is_below p ≡ true
  paths_below before ended [] may p h = absurd (true≢false (sym h))
  paths_below before ended (r ∷ rs) may p h = elim (or_cases (is_path p r.path) (has_path p rs) h) [
    | inl here ↦ ap is_below (is_path-exact p r.path here ∙ may.0.path) ∙ more (take may.0.keep before) may.0.name
    | inr later ↦ paths_below r.path (not (is_empty r.ends)) rs may.1 p later
  ]
    where
      more : (q : Path) (name : List ℕ) → is_below (q ++ name ∷ []) ≡ true
      more [] name = refl
      more (f ∷ q) name = refl

  prefix_next : (before : Path) (ended last : Bool) (q : Path) (r : Row) (rs : List Row) → MayFollow C before ended last r → is_prefix q r.path ≡ true → (has_path q (r ∷ rs) ≡ true) ⊎ (is_prefix q before ≡ true)
  prefix_next before ended last q r rs may h =
      elim (prefix_kept q before may.keep may.name (ap (is_prefix q) (sym may.path) ∙ h)) [
        | inl shorter ↦ inr shorter
        | inr whole ↦ inl (or_left (is_path q r.path) (has_path q rs) (ap (is_path q) may.path ∙ whole))
      ]

  -- a prefix of a row's path is a row's path, or begins the path before
  closed : (before : Path) (ended : Bool) (rows : List Row) → MayBeRows C before ended rows → (p q : Path) → has_path p rows ≡ true → is_prefix q p ≡ true → (has_path q rows ≡ true) ⊎ (is_prefix q before ≡ true)
  closed before ended [] may p q there h = absurd (true≢false (sym there))
  closed before ended (r ∷ rs) may p q there h = elim (or_cases (is_path p r.path) (has_path p rs) there) [
    | inl here ↦ prefix_next before ended (nat_eq (length rs) 0) q r rs may.0 (ap (is_prefix q) (sym (is_path-exact p r.path here)) ∙ h)
    | inr later ↦ elim (closed r.path (not (is_empty r.ends)) rs may.1 p q later h) [
      | inl found ↦ inl (or_right (is_path q r.path) (has_path q rs) found)
      | inr above ↦ prefix_next before ended (nat_eq (length rs) 0) q r rs may.0 above
    ]
  ]

  -- a rank whose path ends at or below a path
  record HasEnd (p : Path) (rows : List Row) : Type 0 where
    rank : ℕ
    path : Path
    starts : is_prefix p path ≡ true
    ends : ends_at rank path rows ≡ true

  end_later : (p : Path) (r : Row) (rs : List Row) → HasEnd p rs → HasEnd p (r ∷ rs)
  end_later p r rs e = record { rank = e.rank; path = e.path; starts = e.starts; ends = or_right (is_path e.path r.path && has r.ends e.rank) (ends_at e.rank e.path rs) e.ends }

  no_member : (s : Ranks) → is_empty s ≡ true → s ≡ none
  no_member s e = none_from_size s (eqb-true (size s) 0 e)

  below : (p : Path) (open_row last : Bool) (q : Row) → MayFollow C p open_row last q → open_row ≡ false → is_prefix p q.path ≡ true
  below p open_row last q may e = ap (is_prefix p) (may.path ∙ ap (λ n. take n p ++ may.name ∷ []) (may.child e) ∙ ap (λ q. q ++ may.name ∷ []) (take_all (length p) p (omega arith))) ∙ starts_longer p may.name

  end_here : (r : Row) (rs : List Row) → is_empty r.ends ≡ false → HasEnd r.path (r ∷ rs)
  end_here r rs e =
      let one = first_member r.ends e in
      record { rank = one.0; path = r.path; starts = is_prefix-itself r.path; ends = or_left (is_path r.path r.path && has r.ends one.0) (ends_at one.0 r.path rs) (and_from (is_path r.path r.path) (has r.ends one.0) (is_path-itself r.path) one.1) }

  -- at or below the first row some path ends
  first_end : (before : Path) (ended : Bool) (r : Row) (rs : List Row) → MayBeRows C before ended (r ∷ rs) → HasEnd r.path (r ∷ rs)
  first_end before ended r [] may = elim (cases_Bool (is_empty r.ends)) [
    | inl e ↦ absurd (may.0.at_last refl (no_member r.ends e))
    | inr e ↦ end_here r [] e
  ]
  first_end before ended r (q ∷ qs) may =
      let rest = first_end r.path (not (is_empty r.ends)) q qs may.1 in
      elim (cases_Bool (is_empty r.ends)) [
        | inl e ↦ end_later r.path r (q ∷ qs) (record { rank = rest.rank; path = rest.path; starts = is_prefix-trans r.path q.path rest.path (below r.path (not (is_empty r.ends)) (nat_eq (length qs) 0) q may.1.0 (ap not e)) rest.starts; ends = rest.ends })
        | inr e ↦ end_here r (q ∷ qs) e
      ]

  -- and so it is at each row
  some_end : (before : Path) (ended : Bool) (rows : List Row) → MayBeRows C before ended rows → (p : Path) → has_path p rows ≡ true → HasEnd p rows
  some_end before ended [] may p there = absurd (true≢false (sym there))
  some_end before ended (r ∷ rs) may p there = elim (or_cases (is_path p r.path) (has_path p rs) there) [
    | inl here ↦ subst (λ q. HasEnd q (r ∷ rs)) (sym (is_path-exact p r.path here)) (first_end before ended r rs may)
    | inr later ↦ end_later p r rs (some_end r.path (not (is_empty r.ends)) rs may.1 p later)
  ]

-- ---- the rows with their labels are the tree

abbrev each : Marks → Bool
each m = true

and_later : (b : Bool) (rows : List Row) (p : Path) → list_any (λ row. is_path p row.path && b) rows ≡ (has_path p rows && b)
and_later b [] p = refl
and_later b (r ∷ rs) p = ap (λ c. (is_path p r.path && b) || c) (and_later b rs p) ∙ spread (is_path p r.path) (has_path p rs) b
  where
    spread : (x y b : Bool) → ((x && b) || (y && b)) ≡ ((x || y) && b)
    spread true true true = refl
    spread true true false = refl
    spread true false true = refl
    spread true false false = refl
    spread false y b = refl

module _ (C : Ranks) (rows : List Row) (may : MayBeRows C [] true rows) where
  abbrev P : Pairs
  P = pairs_of_rows rows

  abbrev marked : Row → Path × Marks
  marked row = (row.path, (label P C row.path, row.ends))

  abbrev marked_rows : List Row → List (Path × Marks)
  marked_rows rs = map marked rs

  -- in order
  below_rows : (p before : Path) (ended : Bool) (rs : List Row) → (path_cmp p before ≡ Less) ⊎ (p ≡ before) → MayBeRows C before ended rs → T (below_all path_cmp p (marked_rows rs))
  below_rows p before ended [] from m = tt
  below_rows p before ended (r ∷ rs) from m =
      let step = rises C before ended (nat_eq (length rs) 0) r m.0 in
      let less : path_cmp p r.path ≡ Less = elim from [ inl lt ↦ path_cmp_total.trans p before r.path lt step | inr same ↦ ap (λ q. path_cmp q r.path) same ∙ step ] in
      both (is_lt (path_cmp p r.path)) (below_all path_cmp p (marked_rows rs)) (subst T (sym (ap is_lt less)) tt) (below_rows p r.path (not (is_empty r.ends)) rs (inl less) m.1)

  sorted_rows : (before : Path) (ended : Bool) (rs : List Row) → MayBeRows C before ended rs → T (finmap.is_sorted path_cmp (marked_rows rs))
  sorted_rows before ended [] m = tt
  sorted_rows before ended (r ∷ rs) m = both (below_all path_cmp r.path (marked_rows rs)) (finmap.is_sorted path_cmp (marked_rows rs)) (below_rows r.path r.path (not (is_empty r.ends)) rs (inr refl) m.1) (sorted_rows r.path (not (is_empty r.ends)) rs m.1)

  abbrev made : Tree
  made = record { coverage = C; below = finmap.from_sorted {R = path_cmp} (marked_rows rows) }

  entries_made : finmap.entries made.below ≡ marked_rows rows
  entries_made = finmap.entries-from_sorted path_cmp (marked_rows rows) (sorted_rows [] true rows may)

  seen_made : (test : Marks → Bool) (p : Path) → seen test made.below p ≡ list_any (λ row. is_path p row.path && test (label P C row.path, row.ends)) rows
  seen_made test p = sym (in_rows-entries test made.below p) ∙ ap (λ es. in_rows test es p) entries_made ∙ in_marked rows
    where
      in_marked : (rs : List Row) → in_rows test (map (λ (row : Row). let m : Path × Marks = (row.path, (label P C row.path, row.ends)) in m) rs) p ≡ list_any (λ row. is_path p row.path && test (label P C row.path, row.ends)) rs
      in_marked [] = refl
      in_marked (r ∷ rs) = ap (λ b. (is_path p r.path && test (label P C r.path, r.ends)) || b) (in_marked rs)

  -- a prefix that a covered rank passes is a row's path
  passed_there : (p : Path) (x : ℕ) → is_below p ≡ true → passes P x p ≡ true → has_path p rows ≡ true
  passed_there p x under passed =
      let pair = pair_from_passes P x p passed in
      let there = ends_have_path x pair.path rows (sym (pair_of_rows rows x pair.path) ∙ pair.seen_in) in
      elim (closed C [] true rows may pair.path p there pair.starts) [ inl found ↦ found | inr root ↦ absurd (not_root p under root) ]
    where
      not_root : (q : Path) → is_below q ≡ true → is_prefix q [] ≡ true → ⊥
      not_root [] b h = true≢false (sym b)
      not_root (f ∷ q) b h = true≢false (sym h)

  labels_made : (p : Path) (x : ℕ) → seen (labelled x) made.below p ≡ (is_below p && (has C x && passes P x p))
  labels_made p x =
      seen_made (labelled x) p
      ∙ any_alike (λ (row : Row). is_path p row.path && has (label P C row.path) x) (λ row. is_path p row.path && has (label P C p) x) (λ row. at_path row.path) rows
      ∙ and_later (has (label P C p) x) rows p
      ∙ ap (λ b. has_path p rows && b) (has-those (λ r. passes P r p) C x)
      ∙ same_test (has_path p rows) (is_below p) (has C x) (passes P x p) (paths_below C [] true rows may p) (passed_there p x)
    where
      at_path : (q : Path) → (is_path p q && has (label P C q) x) ≡ (is_path p q && has (label P C p) x)
      at_path q = by (is_path p q) refl
        where
          by : (b : Bool) → is_path p q ≡ b → (b && has (label P C q) x) ≡ (b && has (label P C p) x)
          by true e = ap (λ k. has (label P C k) x) (sym (is_path-exact p q e))
          by false e = refl

      same_test : (h b c s : Bool) → (h ≡ true → b ≡ true) → (b ≡ true → s ≡ true → h ≡ true) → (h && (c && s)) ≡ (b && (c && s))
      same_test true true c s f g = refl
      same_test true false c s f g = absurd (true≢false (sym (f refl)))
      same_test false true c true f g = absurd (true≢false (sym (g refl refl)))
      same_test false true true false f g = refl
      same_test false true false false f g = refl
      same_test false false c s f g = refl

  ends_made : (p : Path) (x : ℕ) → seen (ended x) made.below p ≡ (is_below p && (has C x && is_pair P x p))
  ends_made p x =
      seen_made (ended x) p
      ∙ more (ends_at x p rows) (is_below p) (has C x) (λ e. paths_below C [] true rows may p (ends_have_path x p rows e)) (ends_covered C [] true rows may x p)
      ∙ ap (λ b. is_below p && (has C x && b)) (sym (pair_of_rows rows x p))
    where
      more : (e b c : Bool) → (e ≡ true → b ≡ true) → (e ≡ true → c ≡ true) → e ≡ (b && (c && e))
      more true true true f g = refl
      more true true false f g = absurd (true≢false (sym (g refl)))
      more true false c f g = absurd (true≢false (sym (f refl)))
      more false true true f g = refl
      more false true false f g = refl
      more false false c f g = refl

  used_made : (p : Path) → seen each made.below p ≡ true → (x : ℕ) × (seen (labelled x) made.below p ≡ true)
  used_made p there =
      let found : has_path p rows ≡ true = and_true (has_path p rows) (sym (and_later true rows p) ∙ sym (seen_made each p) ∙ there) in
      let end = some_end C [] true rows may p found in
      let passed : passes P end.rank p ≡ true = passes-from_pair P end.rank p end.path (pair_of_rows rows end.rank end.path ∙ end.ends) end.starts in
      (end.rank, labels_made p end.rank ∙ all_three (is_below p) (has C end.rank) (passes P end.rank p) (paths_below C [] true rows may p found) (ends_covered C [] true rows may end.rank end.path end.ends) passed)
    where
      and_true : (a : Bool) → (a && true) ≡ true → a ≡ true
      and_true true h = refl
      and_true false h = absurd (true≢false (sym h))

      all_three : (a b c : Bool) → a ≡ true → b ≡ true → c ≡ true → (a && (b && c)) ≡ true
      all_three true true c x y z = z
      all_three true false c x y z = absurd (true≢false (sym y))
      all_three false b c x y z = absurd (true≢false (sym x))

  made_is : made ≡ tree_of P C
  made_is = tree_of-is P C made (record { coverage = refl; labels = labels_made; ends = ends_made; used = used_made })

  rows_made : map (λ (e : Path × Marks). row_of e.0 e.1.1) (finmap.entries made.below) ≡ rows
  rows_made = ap (map (λ (e : Path × Marks). row_of e.0 e.1.1)) entries_made ∙ back rows
    where
      back : (rs : List Row) → map (λ (e : Path × Marks). row_of e.0 e.1.1) (marked_rows rs) ≡ rs
      back [] = refl
      back (r ∷ rs) = ap (λ qs. r ∷ qs) (back rs)

-- the rows that are read are those of their tree
pub rows_back : (version : ℕ) (s : Sent) → MayBeSent version s → sent_from (tree_from s) ≡ s
rows_back version s may =
    ap sent_from (sym (made_is s.coverage s.rows may.rows)) ∙ (λ i. sent_of s.coverage (rows_made s.coverage s.rows may.rows i))

-- ---- and that tree may be sent

abbrev IsGoodFrame : List ℕ → Type 0
IsGoodFrame f = IsTrue (is_good_frame f)

module _ (C : Ranks) where
  frames_kept : (before : Path) (ended last : Bool) (r : Row) → AreGoodFrames before → MayFollow C before ended last r → IsGoodPath r.path
  frames_kept before ended last r good may =
      let len : length r.path ≡ may.keep + 1 = omega (arith, ap length may.path, length-append (take may.keep before) (may.name ∷ []), length-take may.keep before, may.kept) in
      record {
        some = omega (arith, len);
        good = record {
          within_limit = omega (arith, len, may.low);
          good = subst (All IsGoodFrame) (sym may.path) (All-append IsGoodFrame (take may.keep before) (may.name ∷ []) (All-take IsGoodFrame may.keep before good.good) (All-cons IsGoodFrame may.name [] may.good (All-nil IsGoodFrame)));
        };
      }

  all_good : (f : Row → Path × Marks) → ((r : Row) → (f r).0 ≡ r.path) → (before : Path) (ended : Bool) (rows : List Row) → AreGoodFrames before → MayBeRows C before ended rows → All (λ e. IsGoodPath e.0) (map f rows)
  all_good f same before ended [] good may = All-nil (λ e. IsGoodPath e.0)
  all_good f same before ended (r ∷ rs) good may =
      let path = frames_kept before ended (nat_eq (length rs) 0) r good may.0 in
      All-cons (λ e. IsGoodPath e.0) (f r) (map f rs) (subst IsGoodPath (sym (same r)) path) (all_good f same r.path (not (is_empty r.ends)) rs path.good may.1)

  all_text : (f : Row → Path × Marks) → ((r : Row) → (f r).0 ≡ r.path) → (before : Path) (ended : Bool) (rows : List Row) → MayBeRows C before ended rows → All (λ e. is_utf8 (frame_of e.0) ≡ true) (map f rows)
  all_text f same before ended [] may = All-nil (λ e. is_utf8 (frame_of e.0) ≡ true)
  all_text f same before ended (r ∷ rs) may =
      All-cons (λ e. is_utf8 (frame_of e.0) ≡ true) (f r) (map f rs)
      (ap (λ p. is_utf8 (frame_of p)) (same r ∙ may.0.path) ∙ ap is_utf8 (frame_last (take may.0.keep before) may.0.name) ∙ may.0.text)
      (all_text f same r.path (not (is_empty r.ends)) rs may.1)
    where
      frame_last : (front : Path) (name : List ℕ) → frame_of (front ++ name ∷ []) ≡ name
      frame_last [] name = refl
      frame_last (f ∷ []) name = refl
      frame_last (f ∷ g ∷ front) name = frame_last (g ∷ front) name

root_good : AreGoodFrames []
root_good = record { within_limit = omega arith; good = All-nil (λ f. IsTrue (is_good_frame f)) }

pub tree_may : (version : ℕ) (s : Sent) → MayBeSent version s → MayBeTree version (tree_from s)
tree_may version s may = subst (MayBeTree version) (made_is s.coverage s.rows may.rows) (record {
  lawful = record {
    tree = subst IsTree (sym (made_is s.coverage s.rows may.rows)) (IsTree-tree_of (pairs_of_rows s.rows) s.coverage);
    within_limit = omega (arith, may.few, finmap.len-entries (made s.coverage s.rows may.rows).below, ap length (entries_made s.coverage s.rows may.rows), length-map s.rows (marked s.coverage s.rows may.rows));
    good = subst (All (λ e. IsGoodPath e.0)) (sym (entries_made s.coverage s.rows may.rows)) (all_good s.coverage (marked s.coverage s.rows may.rows) (λ r. refl) [] true s.rows root_good may.rows);
  };
  text = subst (All (λ e. is_utf8 (frame_of e.0) ≡ true)) (sym (entries_made s.coverage s.rows may.rows)) (all_text s.coverage (marked s.coverage s.rows may.rows) (λ r. refl) [] true s.rows may.rows);
  some = may.some;
  small = may.small;
})

-- ---- packets

message_back : (version : ℕ) (m : Message) → MayBeMessage version m → packet_map sent_from (packet_map tree_from m) ≡ m
message_back version (Up stream wave s) may = λ i. Up stream wave (rows_back version s may.2 i)
message_back version (Done stream wave) may = refl
message_back version Attach may = refl
message_back version Down may = refl

-- two messages that stand for one packet are one
same_message : (version : ℕ) (m n : Message) → MayBeMessage version m → MayBeMessage version n → packet_map tree_from m ≡ packet_map tree_from n → m ≡ n
same_message version m n one two same = sym (message_back version m one) ∙ ap (packet_map sent_from) same ∙ message_back version n two

pub only_spelling : IsOnlySpelling
only_spelling bytes others m n small smaller s t same_version same =
    let one = one_spelling bytes m small s in
    let two = one_spelling others n smaller t in
    let m_is_n = same_message (version_of bytes) m n one.may (subst (λ v. MayBeMessage v n) (sym same_version) two.may) same in
    one.is ∙ (λ i. spelling (same_version i) (m_is_n i)) ∙ sym two.is
