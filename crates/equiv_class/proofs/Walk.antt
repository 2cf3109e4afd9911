-- A tree's rows, walked in order: the path of each goes on from the one before.
use Rattle.std.proofs.Common.{◌≡◌, ℕ, zero, suc, ◌+◌, ◌-◌, ◌==◌, ◌<◌, ◌≤◌, Bool, true, false, not, cond, List, [], ◌∷◌, ◌++◌, length, map, take, drop, get_or, drop-cons, append_assoc, refl, sym, ap, ◌∙◌, subst, arith}
use Rattle.std.specs.List.{filter, slice_get}
use Rattle.std.specs.Option.{IfSome}
use Rattle.std.specs.FinMap as finmap
use Rattle.rank_set.specs.Ranks.{Ranks, none, size}
use Rattle.call_path.specs.Path.{Path}
use Rattle.prefix_tree.specs.Tree.{Tree, Marks, IsTree, frame_of, rows_of}
use Rattle.prefix_tree.specs.Shown.{Shows}
use Rattle.prefix_tree.specs.Walk.{Follows, parent}
use Rattle.prefix_tree.specs.declared.Row.{Row}
use Rattle.prefix_tree.proofs.Walking.{IsTree-follows}
use Rattle.equiv_class.specs.SeenPaths.{ends_at, has_ends, seen_in}

-- a path goes on from that of the row before
pub follows_at : (before : Path × Marks) (es : List (Path × Marks)) (k : ℕ) (d : Path × Marks) → Follows before.0 es → k < length es → parent (get_or es k d).0 ≡ take (length (get_or es k d).0 - 1) (get_or (before ∷ es) k d).0
follows_at before [] k d h lt = absurd (omega arith)
follows_at before (e ∷ es) zero d h lt = h.0
follows_at before (e ∷ es) (suc k) d h lt = follows_at e es k d h.1 (omega arith)

-- a path is its parent with its last frame
pub parent_frame : (p : Path) → 0 < length p → parent p ++ frame_of p ∷ [] ≡ p
parent_frame [] lt = absurd (omega arith)
parent_frame (f ∷ []) lt = refl
parent_frame (f ∷ g ∷ p) lt =
    let e : length (f ∷ g ∷ p) - 1 ≡ suc (length (g ∷ p) - 1) = omega arith in
    ap (λ n. take n (f ∷ g ∷ p) ++ frame_of (g ∷ p) ∷ []) e ∙ ap (λ q. f ∷ q) (parent_frame (g ∷ p) (omega arith))

-- a row past the root is an entry
pub row_entry : (t : Tree) (i : ℕ) (row : Row) (d : Path × Marks) → 1 ≤ i → i < length (rows_of t) → IfSome (slice_get (rows_of t) i) (Shows row) → Shows row (get_or (finmap.entries t.below) (i - 1) d)
row_entry t i row d le lt h =
    let e : i ≡ suc (i - 1) = omega arith in
    at (finmap.entries t.below) (i - 1) (omega arith) (subst (λ k. IfSome (slice_get (rows_of t) k) (Shows row)) e h)
  where
    at : (es : List (Path × Marks)) (k : ℕ) → k < length es → IfSome (slice_get es k) (Shows row) → Shows row (get_or es k d)
    at [] k l s = absurd (omega arith)
    at (x ∷ es) zero l s = s
    at (x ∷ es) (suc k) l s = at es k (omega arith) s

-- the path of the next row
pub frames_step : (t : Tree) → IsTree t → (i : ℕ) (row : Row) (before after : Path) → 1 ≤ i → i < length (rows_of t) → IfSome (slice_get (rows_of t) i) (Shows row) → 0 < row.depth
    → before ≡ (get_or (rows_of t) (i - 1) ([], (none, none))).0 → after ≡ take (row.depth - 1) before ++ row.frame.now ∷ []
    → (after ≡ (get_or (rows_of t) ((i + 1) - 1) ([], (none, none))).0) × (after ≡ (get_or (finmap.entries t.below) (i - 1) ([], (none, none))).0)
frames_step t tree i row before after le lt h some so_far is =
    let es : List (Path × Marks) = finmap.entries t.below in
    let d : Path × Marks = ([], (none, none)) in
    let root : Path × Marks = ([], (t.coverage, none)) in
    let e : Path × Marks = get_or es (i - 1) d in
    let shown : Shows row e = row_entry t i row d le lt h in
    let walk : parent e.0 ≡ take (length e.0 - 1) (get_or (root ∷ es) (i - 1) d).0 = follows_at root es (i - 1) d (IsTree-follows t tree) (omega arith) in
    let own : after ≡ e.0 = is ∙ (λ k. take (shown.depth k - 1) (so_far k) ++ shown.frame k ∷ []) ∙ ap (λ p. p ++ frame_of e.0 ∷ []) (sym walk) ∙ parent_frame e.0 (omega (arith, shown.depth, some)) in
    let n : suc (i - 1) ≡ (i + 1) - 1 = omega arith in
    (own ∙ ap (λ k. (get_or (root ∷ es) k d).0) n, own)

-- one row's step for the paths in which ranks were seen
seen_step : (t : Tree) (i : ℕ) (row : Row) (path : Path) (before after : List (Path × Ranks)) → 1 ≤ i → i < length (rows_of t) → IfSome (slice_get (rows_of t) i) (Shows row)
    → path ≡ (get_or (finmap.entries t.below) (i - 1) ([], (none, none))).0 → after ≡ before ++ cond (not (size row.ends.now == 0)) ((path, row.ends.now) ∷ []) []
    → before ++ map ends_at (filter has_ends (drop (i - 1) (finmap.entries t.below))) ≡ seen_in t → after ++ map ends_at (filter has_ends (drop ((i + 1) - 1) (finmap.entries t.below))) ≡ seen_in t
seen_step t i row path before after le lt h own is so_far =
    let es : List (Path × Marks) = finmap.entries t.below in
    let d : Path × Marks = ([], (none, none)) in
    let e : Path × Marks = get_or es (i - 1) d in
    let shown : Shows row e = row_entry t i row d le lt h in
    let n : suc (i - 1) ≡ (i + 1) - 1 = omega arith in
    let rest : List (Path × Marks) = drop ((i + 1) - 1) es in
    let next : drop (i - 1) es ≡ e ∷ rest = drop-cons es (i - 1) d (omega arith) ∙ ap (λ k. e ∷ drop k es) n in
    ap (λ xs. xs ++ map ends_at (filter has_ends rest)) is
    ∙ append_assoc before (cond (not (size row.ends.now == 0)) ((path, row.ends.now) ∷ []) []) (map ends_at (filter has_ends rest))
    ∙ ap (λ xs. before ++ xs) ((λ k. cond (not (size (shown.ends k) == 0)) ((own k, shown.ends k) ∷ []) [] ++ map ends_at (filter has_ends rest))
    ∙ one (has_ends e) e (filter has_ends rest) ∙ ap (λ xs. map ends_at (filter has_ends xs)) (sym next)) ∙ so_far
  where
    one : (b : Bool) (e : Path × Marks) (kept : List (Path × Marks)) → cond b (ends_at e ∷ []) [] ++ map ends_at kept ≡ map ends_at (cond b (e ∷ kept) kept)
    one true e kept = refl
    one false e kept = refl

-- one step of a walk: the frames, and the paths in which ranks were seen
pub walk_step : (t : Tree) → IsTree t → (i next : ℕ) (row : Row) (before path : Path) (seen after : List (Path × Ranks)) → 1 ≤ i → i < length (rows_of t) → next ≡ i + 1
    → IfSome (slice_get (rows_of t) i) (Shows row) → 0 < row.depth
    → before ≡ (get_or (rows_of t) (i - 1) ([], (none, none))).0 → path ≡ take (row.depth - 1) before ++ row.frame.now ∷ []
    → seen ++ map ends_at (filter has_ends (drop (i - 1) (finmap.entries t.below))) ≡ seen_in t → after ≡ seen ++ cond (not (size row.ends.now == 0)) ((path, row.ends.now) ∷ []) []
    → (path ≡ (get_or (rows_of t) (next - 1) ([], (none, none))).0) × (after ++ map ends_at (filter has_ends (drop (next - 1) (finmap.entries t.below))) ≡ seen_in t)
walk_step t tree i next row before path seen after le lt e h some is_before is_path so_far is_after =
    let frames = frames_step t tree i row before path le lt h some is_before is_path in (
      frames.0 ∙ ap (λ n. (get_or (rows_of t) (n - 1) ([], (none, none))).0) (sym e),
      ap (λ n. after ++ map ends_at (filter has_ends (drop (n - 1) (finmap.entries t.below)))) e ∙ seen_step t i row path seen after le lt h frames.1 is_after so_far,
    )
