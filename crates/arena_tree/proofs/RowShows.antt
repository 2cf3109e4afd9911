-- What rows of a forest show.
use Rattle.std.proofs.Common.{◌≡◌, ℕ, zero, suc, ◌+◌, ◌-◌, ◌<◌, ◌≤◌, List, [], ◌∷◌, ◌++◌, length, map, drop, refl, sym, ap, ◌∙◌, subst, arith, Option, Some, None}
use Rattle.std.specs.Prelude.{slice_get, All, IsTrue, IfSome}
use Rattle.std.specs.Option.{option_map}
use Rattle.std.proofs.lemmas.List.{length-append, map-append, append_assoc, append-nil}
use Rattle.std.proofs.lemmas.List.Elements.{All-head, All-tail}
use Rattle.std.proofs.lemmas.Option.{slice_get-map, slice_get_within, same_Some}
use Rattle.call_path.specs.Path.{Path}
use Rattle.call_path.specs.Good.{is_good_frame, IsGoodPath}
use Rattle.prefix_tree.specs.Tree.{Marks, frame_of}
use Rattle.prefix_tree.specs.Joined.{below_frame}
use Rattle.prefix_tree.specs.declared.Row.{Row}
use Rattle.prefix_tree.specs.Shown.{Shows, IsGoodRow}
use Rattle.arena_tree.specs.NodeViews.{NodeView}
use Rattle.arena_tree.specs.RowForest.{RowForest, no_rows, row_node, size, forest_rows}
use Rattle.arena_tree.specs.ChainForest.{ChainForest, chain_node, row_ends, row_marks, rows_below, rows_of_chains, count_rows, count_nodes}
use Rattle.arena_tree.specs.Reading.{forest_at, LeadsToForest}
use Rattle.arena_tree.specs.ReadingOrder.{shows, row_seen}
use Rattle.arena_tree.proofs.Changes.{none_some}
use Rattle.arena_tree.proofs.Growing.{size-rows_of_chains}
use Rattle.arena_tree.proofs.Planning.{Reads, reads}

pub get_front : {X : Type 0} (xs ys : List X) (i : ℕ) → i < length xs → slice_get (xs ++ ys) i ≡ slice_get xs i
get_front [] ys i lt = absurd (omega (arith, lt))
get_front (x ∷ xs) ys zero lt = refl
get_front (x ∷ xs) ys (suc i) lt = get_front xs ys i (omega (arith, lt))

pub get_back : {X : Type 0} (xs ys : List X) (i j : ℕ) → i ≡ length xs + j → slice_get (xs ++ ys) i ≡ slice_get ys j
get_back [] ys i j e = ap (slice_get ys) (omega (arith, e))
get_back (x ∷ xs) ys zero j e = absurd (omega (arith, e))
get_back (x ∷ xs) ys (suc i) j e = get_back xs ys i j (omega (arith, e))

pub length-shows : (d : ℕ) (k : RowForest) → length (shows d k) ≡ size k
length-shows d no_rows = refl
length-shows d (row_node a f m b s) =
    let e = length-append (shows (suc d) b) (shows d s) in
    let one = length-shows (suc d) b in
    let two = length-shows d s in
    omega (arith, e, one, two)

-- what a row shows below some frames
abbrev pub show : ℕ → Path × Marks → ℕ × List ℕ × Marks
show d e = (length e.0 + d, frame_of e.0, e.1)

-- no row is the root's
abbrev pub AreBelow : List (Path × Marks) → Type 0
AreBelow [] = Unit {0}
AreBelow (e ∷ es) = (0 < length e.0) × AreBelow es

below-append : (es fs : List (Path × Marks)) → AreBelow es → AreBelow fs → AreBelow (es ++ fs)
below-append [] fs u v = v
below-append (e ∷ es) fs u v = (u.0, below-append es fs u.1 v)

below-under : (f : List ℕ) (es : List (Path × Marks)) → AreBelow (map (below_frame f) es)
below-under f [] = tt
below-under f (e ∷ es) = (omega arith, below-under f es)

pub rows_under : (k : RowForest) → AreBelow (forest_rows k)
rows_under no_rows = tt
rows_under (row_node a f m b s) = (omega arith, below-append (map (below_frame f) (forest_rows b)) (forest_rows s) (below-under f (forest_rows b)) (rows_under s))

show_under : (d : ℕ) (f : List ℕ) (p : Path) (m : Marks) → 0 < length p → show d (f ∷ p, m) ≡ show (suc d) (p, m)
show_under d f [] m lt = absurd (omega (arith, lt))
show_under d f (g ∷ p) m lt = let e : length (f ∷ g ∷ p) + d ≡ length (g ∷ p) + suc d = omega arith in λ i. (e i, frame_of (g ∷ p), m)

shows-under : (d : ℕ) (f : List ℕ) (es : List (Path × Marks)) → AreBelow es → map (show d) (map (below_frame f) es) ≡ map (show (suc d)) es
shows-under d f [] u = refl
shows-under d f (e ∷ es) u = λ i. show_under d f e.0 e.1 u.0 i ∷ shows-under d f es u.1 i

first_shows : (d : ℕ) (f : List ℕ) (m : Marks) → show d (f ∷ [], m) ≡ (suc d, f, m)
first_shows d f m = let e : 1 + d ≡ suc d = omega arith in λ i. (e i, f, m)

-- the rows show that
pub shows_rows : (d : ℕ) (k : RowForest) → map (show d) (forest_rows k) ≡ shows (suc d) k
shows_rows d no_rows = refl
shows_rows d (row_node a f m b s) =
    let rest : map (show d) (map (below_frame f) (forest_rows b) ++ forest_rows s) ≡ shows (suc (suc d)) b ++ shows (suc d) s =
    map-append (show d) (map (below_frame f) (forest_rows b)) (forest_rows s) ∙ (λ j. (shows-under d f (forest_rows b) (rows_under b) ∙ shows_rows (suc d) b) j ++ shows_rows d s j) in
    λ i. first_shows d f m i ∷ rest i

-- the last frame of a good path is good
good_last : (p : Path) → 0 < length p → All (λ f. IsTrue (is_good_frame f)) p → IsTrue (is_good_frame (frame_of p))
good_last [] lt h = absurd (omega (arith, lt))
good_last (f ∷ []) lt h = All-head (λ f. IsTrue (is_good_frame f)) f [] h
good_last (f ∷ g ∷ p) lt h = good_last (g ∷ p) (omega arith) (All-tail (λ f. IsTrue (is_good_frame f)) f (g ∷ p) h)

pub good_frame : (p : Path) → IsGoodPath p → IsTrue (is_good_frame (frame_of p))
good_frame p good = good_last p good.some good.good.good

-- a row that shows what a row of the tree shows
module _ (row : Row) where
  abbrev seen : ℕ × List ℕ × Marks
  seen = (row.depth, row.frame.now, (row.label.now, row.ends.now))

  shown_one : (e : Path × Marks) → show 0 e ≡ seen → Shows row e
  shown_one e is = record {
    depth = let n : length e.0 + 0 ≡ row.depth = ap (λ (x : ℕ × List ℕ × Marks). x.0) is in omega (arith, n);
    frame = sym (ap (λ (x : ℕ × List ℕ × Marks). x.1) is);
    label = sym (ap (λ (x : ℕ × List ℕ × Marks). x.2.0) is);
    ends = sym (ap (λ (x : ℕ × List ℕ × Marks). x.2.1) is);
  }

  pub shown_if : (o : Option (Path × Marks)) → option_map (show 0) o ≡ Some seen → IfSome o (Shows row)
  shown_if None is = tt
  shown_if (Some e) is = shown_one e (same_Some (show 0 e) seen is)

  good_one : (e : Path × Marks) → IsGoodPath e.0 → Shows row e → IsGoodRow row
  good_one e good is = record {
    some = let d = is.depth in let some = good.some in omega (arith, d, some);
    within_limit = let d = is.depth in let few = good.good.within_limit in omega (arith, d, few);
    frame = subst (λ f. IsTrue (is_good_frame f)) (sym is.frame) (good_frame e.0 good);
  }

  good_at : (es : List (Path × Marks)) → All (λ e. IsGoodPath e.0) es → (j : ℕ) (e : Path × Marks) → slice_get es j ≡ Some e → IsGoodPath e.0
  good_at [] h j e is = absurd (none_some e is)
  good_at (x ∷ es) h zero e is = subst (λ (y : Path × Marks). IsGoodPath y.0) (same_Some x e is) (All-head (λ e. IsGoodPath e.0) x es h)
  good_at (x ∷ es) h (suc j) e is = good_at es (All-tail (λ e. IsGoodPath e.0) x es h) j e is

  good_if : (es : List (Path × Marks)) → All (λ e. IsGoodPath e.0) es → (j : ℕ) (o : Option (Path × Marks)) → slice_get es j ≡ o → option_map (show 0) o ≡ Some seen → IsGoodRow row
  good_if es h j None at is = absurd (none_some seen is)
  good_if es h j (Some e) at is = good_one e (good_at es h j e at) (shown_one e (same_Some (show 0 e) seen is))

  -- read off a forest
  module _ (k : RowForest) (j : ℕ) (is : slice_get (shows 1 k) j ≡ Some seen) where
    pub read : option_map (show 0) (slice_get (forest_rows k) j) ≡ Some seen
    read = sym (slice_get-map (show 0) (forest_rows k) j) ∙ ap (λ xs. slice_get xs j) (shows_rows 0 k) ∙ is

    pub row_shows : IfSome (slice_get (forest_rows k) j) (Shows row)
    row_shows = shown_if (slice_get (forest_rows k) j) read

    pub row_good : All (λ e. IsGoodPath e.0) (forest_rows k) → IsGoodRow row
    row_good h = good_if (forest_rows k) h j (slice_get (forest_rows k) j) refl read

-- the rows of one chain
abbrev pub node_rows : ℕ → Path → Marks → List (ℕ × List ℕ × Marks)
node_rows d [] m = []
node_rows d (f ∷ fs) m = (d, f, row_marks fs m) ∷ node_rows (suc d) fs m

pub length-node_rows : (d : ℕ) (fs : Path) (m : Marks) → length (node_rows d fs m) ≡ length fs
length-node_rows d [] m = refl
length-node_rows d (f ∷ fs) m = ap suc (length-node_rows (suc d) fs m)

get-node_rows : (d : ℕ) (fs : Path) (m : Marks) (i : ℕ) (f : List ℕ) → slice_get fs i ≡ Some f → slice_get (node_rows d fs m) i ≡ Some (d + i, f, row_marks (drop (i + 1) fs) m)
get-node_rows d [] m i f e = absurd (none_some f e)
get-node_rows d (g ∷ fs) m zero f e = let n : d ≡ d + 0 = omega arith in λ j. Some (n j, same_Some g f e j, row_marks fs m)
get-node_rows d (g ∷ fs) m (suc i) f e =
    let n : suc d + i ≡ d + suc i = omega arith in
    let k : suc (i + 1) ≡ suc i + 1 = omega arith in
    get-node_rows (suc d) fs m i f e ∙ (λ j. Some (n j, f, row_marks (drop (k j) (g ∷ fs)) m))

shows-below : (d a : ℕ) (fs : Path) (m : Marks) (b : RowForest) → shows d (rows_below a fs m b) ≡ node_rows d fs m ++ shows (d + length fs) b
shows-below d a [] m b = let n : d ≡ d + 0 = omega arith in ap (λ k. shows k b) n
shows-below d a (f ∷ fs) m b =
    let n : suc d + length fs ≡ d + suc (length fs) = omega arith in
    ap (λ es. (d, f, row_marks fs m) ∷ es) (append-nil (shows (suc d) (rows_below a fs m b)) ∙ shows-below (suc d) a fs m b ∙ ap (λ k. node_rows (suc d) fs m ++ shows k b) n)

shows-chain : (d a : ℕ) (f : List ℕ) (fs : Path) (m : Marks) (b s : ChainForest)
    → shows d (rows_of_chains (chain_node a f fs m b s)) ≡ node_rows d (f ∷ fs) m ++ (shows (d + length (f ∷ fs)) (rows_of_chains b) ++ shows d (rows_of_chains s))
shows-chain d a f fs m b s =
    let n : suc d + length fs ≡ d + suc (length fs) = omega arith in
    ap (λ es. (d, f, row_marks fs m) ∷ es)
    ((λ i. (shows-below (suc d) a fs m (rows_of_chains b) ∙ ap (λ k. node_rows (suc d) fs m ++ shows k (rows_of_chains b)) n) i ++ shows d (rows_of_chains s))
    ∙ append_assoc (node_rows (suc d) fs m) (shows (d + suc (length fs)) (rows_of_chains b)) (shows d (rows_of_chains s)))

pub length-forest : (d : ℕ) (t : ChainForest) → length (shows d (rows_of_chains t)) ≡ count_rows t
length-forest d t = length-shows d (rows_of_chains t) ∙ size-rows_of_chains t

-- a row of the node that was read, or of what is behind it
module _ (cs : List NodeView) (at : ℕ) (c : NodeView) (to : LeadsToForest cs at) (there : slice_get cs at ≡ Some c) (d i : ℕ) where
  it : Reads cs at c
  it = reads cs at c to there

  abbrev b : ChainForest
  b = forest_at cs c.first

  abbrev s : ChainForest
  s = forest_at cs c.next

  pub all_rows : shows d (rows_of_chains (forest_at cs at)) ≡ node_rows d c.frames (c.label, c.ends) ++ (shows (d + length c.frames) (rows_of_chains b) ++ shows d (rows_of_chains s))
  all_rows =
      ap (λ t. shows d (rows_of_chains t)) it.is ∙ shows-chain d at it.frame it.behind (c.label, c.ends) b s
      ∙ ap (λ p. node_rows d p (c.label, c.ends) ++ (shows (d + length p) (rows_of_chains b) ++ shows d (rows_of_chains s))) (sym it.frames)

  pub rows_here : count_rows (forest_at cs at) ≡ length c.frames + (count_rows b + count_rows s)
  rows_here = let e = ap count_rows it.is in let long = ap length it.frames in omega (arith, e, long)

  pub nodes_here : count_nodes (forest_at cs at) ≡ suc (count_nodes b + count_nodes s)
  nodes_here = ap count_nodes it.is

  pub first_here : LeadsToForest cs c.first
  first_here = it.first

  pub next_here : LeadsToForest cs c.next
  next_here = it.next

  pub row_of_node : (row : Row) → row.depth ≡ d + i → slice_get c.frames i ≡ Some row.frame.now → row.label.now ≡ c.label → row.ends.now ≡ row_ends (drop (i + 1) c.frames) c.ends
      → slice_get (shows d (rows_of_chains (forest_at cs at))) i ≡ Some (row_seen row)
  row_of_node row depth frame label ends =
      let within = slice_get_within c.frames i row.frame.now frame in
      let long = length-node_rows d c.frames (c.label, c.ends) in
      ap (λ es. slice_get es i) all_rows ∙ get_front _ _ i (omega (arith, within, long)) ∙ get-node_rows d c.frames (c.label, c.ends) i row.frame.now frame
      ∙ (λ j. Some (sym depth j, row.frame.now, (sym label j, sym ends j)))

  module _ (first : ℕ) (first_is : first ≡ c.first) (less : length c.frames ≤ i) where
    from_here : slice_get (shows d (rows_of_chains (forest_at cs at))) i ≡ slice_get (shows (d + length c.frames) (rows_of_chains (forest_at cs first)) ++ shows d (rows_of_chains s)) (i - length c.frames)
    from_here =
        let long = length-node_rows d c.frames (c.label, c.ends) in
        ap (λ es. slice_get es i) all_rows ∙ get_back _ _ i (i - length c.frames) (omega (arith, less, long))
        ∙ ap (λ y. slice_get (shows (d + length c.frames) (rows_of_chains (forest_at cs y)) ++ shows d (rows_of_chains s)) (i - length c.frames)) (sym first_is)

    pub row_below : (x : ℕ × List ℕ × Marks) → slice_get (shows (d + length c.frames) (rows_of_chains (forest_at cs first))) (i - length c.frames) ≡ Some x
        → slice_get (shows d (rows_of_chains (forest_at cs at))) i ≡ Some x
    row_below x found = from_here ∙ get_front _ _ (i - length c.frames) (slice_get_within _ (i - length c.frames) x found) ∙ found

    pub row_later : (left next : ℕ) → next ≡ c.next → left + count_rows (forest_at cs first) ≡ i - length c.frames
        → slice_get (shows d (rows_of_chains (forest_at cs at))) i ≡ slice_get (shows d (rows_of_chains (forest_at cs next))) left
    row_later left next next_is none =
        let long = length-forest (d + length c.frames) (forest_at cs first) in
        from_here ∙ get_back _ _ (i - length c.frames) left (omega (arith, none, long)) ∙ ap (λ y. slice_get (shows d (rows_of_chains (forest_at cs y))) left) (sym next_is)

    pub left_over : (left next total i0 : ℕ) → next ≡ c.next → left + count_rows (forest_at cs first) ≡ i - length c.frames → i + total ≡ i0 + count_rows (forest_at cs at) → left + total ≡ i0 + count_rows (forest_at cs next)
    left_over left next total i0 next_is none all =
        let one = ap (λ y. count_rows (forest_at cs y)) first_is in
        let two = ap (λ y. count_rows (forest_at cs y)) next_is in
        omega (arith, one, two, none, all, rows_here, less)
