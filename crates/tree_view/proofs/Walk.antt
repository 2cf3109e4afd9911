-- A tree's rows, walked in order: the path of each goes on from the one before.
use Rattle.std.proofs.Common.{◌≡◌, ℕ, ◌+◌, ◌-◌, ◌<◌, ◌≤◌, Bool, true, false, cond, ◌&&◌, ◌||◌, List, [], ◌∷◌, ◌++◌, length, take, get_or, refl, sym, ap, ◌∙◌, arith, inl, inr}
use Rattle.std.specs.List.{list_any, slice_get, flat_map}
use Rattle.std.specs.Option.{IfSome}
use Rattle.std.specs.FinMap as finmap
use Rattle.std.proofs.lemmas.Grind.{flat_map-append}
use Rattle.std.proofs.lemmas.List.{append-nil, length-append, length-take, take_more}
use Rattle.std.proofs.lemmas.Bool.{cases_Bool}
use Rattle.rank_set.specs.Ranks.{Ranks, none, has, has-union, in_order, is_empty, union}
use Rattle.std.proofs.lemmas.List.Folds.{list_any-append}
use Rattle.tree_view.specs.Views.{has_frame}
use Rattle.call_path.specs.Path.{Path}
use Rattle.call_path.specs.Pairs.{pairs_at}
use Rattle.prefix_tree.specs.Tree.{Tree, Marks, IsTree, added, rows_of, tree_of}
use Rattle.prefix_tree.specs.Shown.{Shows}
use Rattle.prefix_tree.specs.declared.Row.{Row}
use Rattle.prefix_tree.proofs.PairLemmas.{no_pairs}
use Rattle.prefix_tree.proofs.TreeLaws.{added-tree_of}
use Rattle.equiv_class.proofs.Walk.{frames_step, row_entry}
use Rattle.tree_view.specs.Selections.{edited, with_ends}

-- the path of a row has as many frames as the row is deep
pub row_depth : (t : Tree) (i : ℕ) (row : Row) (path : Path) → 1 ≤ i → i < length (rows_of t) → IfSome (slice_get (rows_of t) i) (Shows row)
    → path ≡ (get_or (finmap.entries t.below) (i - 1) ([], (none, none))).0 → length path ≡ row.depth
row_depth t i row path le lt h own =
    let shown : Shows row (get_or (finmap.entries t.below) (i - 1) ([], (none, none))) = row_entry t i row ([], (none, none)) le lt h in
    ap length own ∙ sym shown.depth

-- so the path that it goes on from has at most one frame fewer
pub others_within : (before : Path) (d : ℕ) (g : List ℕ) → 0 < d → length (take (d - 1) before ++ g ∷ []) ≡ d → d ≤ length before + 1
others_within before d g some is =
    let e = length-append (take (d - 1) before) (g ∷ []) in
    let f = length-take (d - 1) before in
    omega (arith, some, is, e, f)

-- one step of a walk: the path of the next row, its depth, and how many frames come before the one that is sought
pub row_step : (at : Path → ℕ) (t : Tree) → IsTree t → (i : ℕ) (row : Row) (before after : Path) (place next : ℕ) → 1 ≤ i → i < length (rows_of t) → IfSome (slice_get (rows_of t) i) (Shows row) → 0 < row.depth
    → before ≡ (get_or (rows_of t) (i - 1) ([], (none, none))).0 → after ≡ take (row.depth - 1) before ++ row.frame.now ∷ [] → place ≡ at before
    → ((p : Path) → row.depth ≤ length p + 1 → place ≡ at p → next ≡ at (take (row.depth - 1) p ++ row.frame.now ∷ []))
    → (after ≡ (get_or (rows_of t) ((i + 1) - 1) ([], (none, none))).0) × (after ≡ (get_or (finmap.entries t.below) (i - 1) ([], (none, none))).0) × (length after ≡ row.depth) × (next ≡ at after)
row_step at t tree i row before after place next le lt h some so_far is place_is next_is =
    let step = frames_step t tree i row before after le lt h some so_far is in
    let deep : length after ≡ row.depth = row_depth t i row after le lt h step.1 in
    (step.0, step.1, deep, next_is before (others_within before row.depth row.frame.now some (ap length (sym is) ∙ deep)) place_is ∙ ap at (sym is))

edited-more : (h : Path → Marks → Ranks) (es : List (Path × Marks)) (e : Path × Marks) → edited h (es ++ e ∷ []) ≡ edited h es ++ pairs_at (in_order (h e.0 e.1)) e.0
edited-more h es e = flat_map-append (λ (e : Path × Marks). pairs_at (in_order (h e.0 e.1)) e.0) es (e ∷ []) ∙ ap (λ Q. edited h es ++ Q) (append-nil (pairs_at (in_order (h e.0 e.1)) e.0))

one_more : (h : Path → Marks → Ranks) (es : List (Path × Marks)) (e : Path × Marks) (C : Ranks) (t : Tree) → t ≡ tree_of (edited h es) C → with_ends t (h e.0 e.1) e.0 ≡ tree_of (edited h (es ++ e ∷ [])) C
one_more h es e C t is = elim (cases_Bool (is_empty (h e.0 e.1))) [
  | inl nobody ↦
      ap (λ b. cond b t (added t (h e.0 e.1) e.0)) nobody ∙ is
      ∙ ap (λ P. tree_of P C) (sym (edited-more h es e ∙ ap (λ Q. edited h es ++ Q) (no_pairs (h e.0 e.1) e.0 nobody) ∙ append-nil (edited h es)))
  | inr some ↦
      ap (λ b. cond b t (added t (h e.0 e.1) e.0)) some
      ∙ ap (λ u. added u (h e.0 e.1) e.0) is
      ∙ added-tree_of (edited h es) C (h e.0 e.1) e.0
      ∙ ap (λ P. tree_of P C) (sym (edited-more h es e))
]

-- what is left of the rows so far, with the ends of one more
pub edit_step : (h : Path → Marks → Ranks) (t : Tree) (C : Ranks) (i : ℕ) (row : Row) (path : Path) (ends : Ranks) (left : Tree) → 1 ≤ i → i < length (rows_of t) → IfSome (slice_get (rows_of t) i) (Shows row)
    → path ≡ (get_or (finmap.entries t.below) (i - 1) ([], (none, none))).0 → ends ≡ h path (row.label.now, row.ends.now)
    → left ≡ tree_of (edited h (take (i - 1) (finmap.entries t.below))) C → with_ends left ends path ≡ tree_of (edited h (take ((i + 1) - 1) (finmap.entries t.below))) C
edit_step h t C i row path ends left le lt shows own is so_far =
    let es : List (Path × Marks) = finmap.entries t.below in
    let d : Path × Marks = ([], (none, none)) in
    let e : Path × Marks = get_or es (i - 1) d in
    let shown : Shows row e = row_entry t i row d le lt shows in
    let n : (i - 1) + 1 ≡ (i + 1) - 1 = omega arith in
    (λ k. with_ends left ((is ∙ (λ j. h (own j) (shown.label j, shown.ends j))) k) (own k))
    ∙ one_more h (take (i - 1) es) e C left so_far
    ∙ ap (λ xs. tree_of (edited h xs) C) (sym (take_more es (i - 1) d (omega arith)) ∙ ap (λ k. take k es) n)

-- the ends of a row in a view are those of its entry
pub shown_ends : (h : Path → Marks → Ranks) (t : Tree) (i : ℕ) (row : Row) (path : Path) (ends : Ranks) → 1 ≤ i → i < length (rows_of t) → IfSome (slice_get (rows_of t) i) (Shows row)
    → path ≡ (get_or (finmap.entries t.below) (i - 1) ([], (none, none))).0 → ends ≡ h path (row.label.now, row.ends.now)
    → ends ≡ h (get_or (finmap.entries t.below) (i - 1) ([], (none, none))).0 (get_or (finmap.entries t.below) (i - 1) ([], (none, none))).1
shown_ends h t i row path ends le lt shows own is =
    let shown : Shows row (get_or (finmap.entries t.below) (i - 1) ([], (none, none))) = row_entry t i row ([], (none, none)) le lt shows in
    is ∙ (λ j. h (own j) (shown.label j, shown.ends j))

-- whether some end of the first rows has a test, and of one more
pub any_more : (test : Path × Marks → Bool) (t : Tree) (i : ℕ) → 1 ≤ i → i < length (rows_of t)
    → list_any test (take ((i + 1) - 1) (finmap.entries t.below)) ≡ (list_any test (take (i - 1) (finmap.entries t.below)) || test (get_or (finmap.entries t.below) (i - 1) ([], (none, none))))
any_more test t i le lt =
    let es : List (Path × Marks) = finmap.entries t.below in
    let d : Path × Marks = ([], (none, none)) in
    let n : (i + 1) - 1 ≡ (i - 1) + 1 = omega arith in
    ap (λ k. list_any test (take k es)) n ∙ ap (list_any test) (take_more es (i - 1) d (omega arith)) ∙ list_any-append test (take (i - 1) es) (get_or es (i - 1) d ∷ [])
    ∙ ap (λ b. list_any test (take (i - 1) es) || b) (or_false (test (get_or es (i - 1) d)))
  where
    or_false : (b : Bool) → (b || false) ≡ b
    or_false true = refl
    or_false false = refl

-- the ranks of ends with a frame, and those of one row more
pub framed_step : (f : List ℕ) (t : Tree) (i next : ℕ) (row : Row) (path : Path) (old new : Ranks) (b : Bool) → 1 ≤ i → i < length (rows_of t) → next ≡ i + 1 → IfSome (slice_get (rows_of t) i) (Shows row)
    → path ≡ (get_or (finmap.entries t.below) (i - 1) ([], (none, none))).0 → has_frame f path ≡ b → new ≡ cond b (union old row.ends.now) old
    → ((r : ℕ) → has old r ≡ list_any (λ (e : Path × Marks). has_frame f e.0 && has e.1.1 r) (take (i - 1) (finmap.entries t.below)))
    → (r : ℕ) → has new r ≡ list_any (λ (e : Path × Marks). has_frame f e.0 && has e.1.1 r) (take (next - 1) (finmap.entries t.below))
framed_step f t i next row path old new b le lt e shows own is is_new so_far r =
    let es : List (Path × Marks) = finmap.entries t.below in
    let d : Path × Marks = ([], (none, none)) in
    let shown : Shows row (get_or es (i - 1) d) = row_entry t i row d le lt shows in
    let test : Path × Marks → Bool = λ e. has_frame f e.0 && has e.1.1 r in
    ap (λ (s : Ranks). has s r) is_new ∙ one b old row.ends.now
    ∙ (λ j. so_far r j || (sym is j && has row.ends.now r))
    ∙ (λ j. list_any test (take (i - 1) es) || (has_frame f (own j) && has (shown.ends j) r))
    ∙ sym (any_more test t i le lt)
    ∙ ap (λ n. list_any test (take (n - 1) es)) (sym e)
  where
    or_false : (b : Bool) → b ≡ (b || false)
    or_false true = refl
    or_false false = refl

    one : (b : Bool) (old ends : Ranks) → has (cond b (union old ends) old) r ≡ (has old r || (b && has ends r))
    one true old ends = has-union old ends r
    one false old ends = or_false (has old r)
