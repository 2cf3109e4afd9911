-- Forests in order, and their rows in order.
use Rattle.std.proofs.Common.{◌≡◌, ℕ, suc, ◌+◌, List, [], ◌∷◌, ◌++◌, map, refl, sym, ap, ◌∙◌, subst, T}
use Rattle.std.specs.declared.cmp.Ordering.TheVariants.{Less, Equal, Greater}
use Rattle.std.specs.Ordering.{ordering_then, ordering_reverse, is_lt}
use Rattle.std.specs.FinMap as finmap
use Rattle.std.specs.FinMap.Entries.{below_all}
use Rattle.std.specs.Cmp.{tied_itself}
use Rattle.std.specs.Cmp.Lexicographic.{nat_list_cmp_total}
use Rattle.call_path.specs.Path.{Path, path_cmp}
use Rattle.prefix_tree.specs.Tree.{Marks}
use Rattle.prefix_tree.specs.Joined.{below_frame}
use Rattle.prefix_tree.specs.Owned.{by_order}
use Rattle.prefix_tree.proofs.Rows.{both as two, first, second}
use Rattle.arena_tree.specs.RowForest.{RowForest, no_rows, row_node, frame_cmp, size, forest_rows, IsBefore, HasIncreasingRows}
use Rattle.arena_tree.specs.RowMerge.{united_marks, count_new, merge_rows}

-- a frame ties with itself, and with no other
pub frame_exact : finmap.IsAntisymmetric frame_cmp
frame_exact = finmap.slice_cmp-IsAntisymmetric finmap.nat_cmp-IsAntisymmetric

pub cmp_itself : (f : List ℕ) → frame_cmp f f ≡ Equal
cmp_itself f = tied_itself nat_list_cmp_total f

pub turned : (g f : List ℕ) → frame_cmp g f ≡ Greater → frame_cmp f g ≡ Less
turned g f k = nat_list_cmp_total.antisymm f g ∙ ap ordering_reverse k

before-merge_rows : (n : ℕ) (e : List ℕ) (k o : RowForest) → IsBefore e k → IsBefore e o → IsBefore e (merge_rows n k o)
before-merge_rows n e no_rows no_rows u v = tt
before-merge_rows n e (row_node a f m b s) no_rows u v = u
before-merge_rows n e no_rows (row_node x g w c t) u v = v
before-merge_rows n e (row_node a f m b s) (row_node x g w c t) u v =
    elim (frame_cmp g f) as (λ r. IsBefore e (by_order r (row_node n g w (merge_rows (suc n) no_rows c) (merge_rows (suc n + size c) (row_node a f m b s) t)) (row_node a f (united_marks m w) (merge_rows n b c) (merge_rows (n + count_new b c) s t)) (row_node a f m b (merge_rows n s (row_node x g w c t))))) [
      | Less ↦ v
      | Equal ↦ u
      | Greater ↦ u
    ]

-- forests in order merge to one in order
pub ordered-merge_rows : (n : ℕ) (k o : RowForest) → HasIncreasingRows k → HasIncreasingRows o → HasIncreasingRows (merge_rows n k o)
ordered-merge_rows n no_rows no_rows up vp = tt
ordered-merge_rows n (row_node a f m b s) no_rows up vp = up
ordered-merge_rows n no_rows (row_node x g w c t) up vp =
    (before-merge_rows (suc n + size c) g no_rows t tt vp.0, ordered-merge_rows (suc n) no_rows c tt vp.1, ordered-merge_rows (suc n + size c) no_rows t tt vp.2)
ordered-merge_rows n (row_node a f m b s) (row_node x g w c t) up vp =
    let new_c = ordered-merge_rows (suc n) no_rows c tt vp.1 in
    let new_t = ordered-merge_rows (suc n + size c) (row_node a f m b s) t up vp.2 in
    let same_b = ordered-merge_rows n b c up.1 vp.1 in
    let same_s = ordered-merge_rows (n + count_new b c) s t up.2 vp.2 in
    let pass = ordered-merge_rows n s (row_node x g w c t) up.2 vp in
    elim (frame_cmp g f) as (λ r. frame_cmp g f ≡ r → HasIncreasingRows (by_order r (row_node n g w (merge_rows (suc n) no_rows c) (merge_rows (suc n + size c) (row_node a f m b s) t)) (row_node a f (united_marks m w) (merge_rows n b c) (merge_rows (n + count_new b c) s t)) (row_node a f m b (merge_rows n s (row_node x g w c t))))) [
      | Less ↦ λ e. (before-merge_rows (suc n + size c) g (row_node a f m b s) t e vp.0, new_c, new_t)
      | Equal ↦ λ e. (before-merge_rows (n + count_new b c) f s t up.0 (subst (λ h. IsBefore h t) (frame_exact g f e) vp.0), same_b, same_s)
      | Greater ↦ λ e. (before-merge_rows n f s (row_node x g w c t) up.0 (turned g f e), up.1, pass)
    ] refl

is_less : (p q : Path) → path_cmp p q ≡ Less → T (is_lt (path_cmp p q))
is_less p q e = subst (λ o. T (is_lt o)) (sym e) tt

-- paths under a frame
below_under : (f : List ℕ) (q : Path) (es : List (Path × Marks)) → T (below_all path_cmp q es) → T (below_all path_cmp (f ∷ q) (map (below_frame f) es))
below_under f q [] up = tt
below_under f q (e ∷ es) up =
    two (is_lt (path_cmp (f ∷ q) (f ∷ e.0))) (below_all path_cmp (f ∷ q) (map (below_frame f) es))
    (subst (λ o. T (is_lt (ordering_then o (path_cmp q e.0)))) (sym (cmp_itself f)) (first _ _ up)) (below_under f q es (second _ _ up))

sorted_under : (f : List ℕ) (es : List (Path × Marks)) → T (finmap.is_sorted path_cmp es) → T (finmap.is_sorted path_cmp (map (below_frame f) es))
sorted_under f [] up = tt
sorted_under f (e ∷ es) up =
    two (below_all path_cmp (f ∷ e.0) (map (below_frame f) es)) (finmap.is_sorted path_cmp (map (below_frame f) es)) (below_under f e.0 es (first _ _ up)) (sorted_under f es (second _ _ up))

below-append : (p : Path) (es fs : List (Path × Marks)) → T (below_all path_cmp p es) → T (below_all path_cmp p fs) → T (below_all path_cmp p (es ++ fs))
below-append p [] fs u v = v
below-append p (e ∷ es) fs u v = two (is_lt (path_cmp p e.0)) (below_all path_cmp p (es ++ fs)) (first _ _ u) (below-append p es fs (second _ _ u) v)

-- what lies under a frame is before what comes later
behind : (f g : List ℕ) (q : Path) (es : List (Path × Marks)) → frame_cmp f g ≡ Less → T (below_all path_cmp (f ∷ q) (map (below_frame g) es))
behind f g q [] lt = tt
behind f g q (e ∷ es) lt =
    two (is_lt (path_cmp (f ∷ q) (g ∷ e.0))) (below_all path_cmp (f ∷ q) (map (below_frame g) es))
    (subst (λ o. T (is_lt (ordering_then o (path_cmp q e.0)))) (sym lt) tt) (behind f g q es lt)

pub before_less : (f g : List ℕ) (s : RowForest) → frame_cmp f g ≡ Less → IsBefore g s → IsBefore f s
before_less f g no_rows lt is = tt
before_less f g (row_node a h m b s) lt is = nat_list_cmp_total.trans f g h lt is

later : (f : List ℕ) (q : Path) (s : RowForest) → IsBefore f s → HasIncreasingRows s → T (below_all path_cmp (f ∷ q) (forest_rows s))
later f q no_rows is up = tt
later f q (row_node a g m b s) is up =
    two (is_lt (path_cmp (f ∷ q) (g ∷ []))) (below_all path_cmp (f ∷ q) (map (below_frame g) (forest_rows b) ++ forest_rows s))
    (subst (λ o. T (is_lt (ordering_then o (path_cmp q [])))) (sym is) tt)
    (below-append (f ∷ q) (map (below_frame g) (forest_rows b)) (forest_rows s) (behind f g q (forest_rows b) is) (later f q s (before_less f g s is up.0) up.2))

-- nothing comes before a path of one frame under it
children : (f : List ℕ) (es : List (Path × Marks)) → T (below_all path_cmp [] es) → T (below_all path_cmp (f ∷ []) (map (below_frame f) es))
children f es up = below_under f [] es up

rootless : (f : List ℕ) (es : List (Path × Marks)) → T (below_all path_cmp [] (map (below_frame f) es))
rootless f [] = tt
rootless f (e ∷ es) = rootless f es

no_root : (k : RowForest) → T (below_all path_cmp [] (forest_rows k))
no_root no_rows = tt
no_root (row_node a f m b s) = below-append [] (map (below_frame f) (forest_rows b)) (forest_rows s) (rootless f (forest_rows b)) (no_root s)

sorted-append : (f : List ℕ) (es : List (Path × Marks)) (s : RowForest) → T (finmap.is_sorted path_cmp (map (below_frame f) es)) → T (finmap.is_sorted path_cmp (forest_rows s)) → IsBefore f s → HasIncreasingRows s → T (finmap.is_sorted path_cmp (map (below_frame f) es ++ forest_rows s))
sorted-append f [] s u v is up = v
sorted-append f (e ∷ es) s u v is up =
    two (below_all path_cmp (f ∷ e.0) (map (below_frame f) es ++ forest_rows s)) (finmap.is_sorted path_cmp (map (below_frame f) es ++ forest_rows s))
    (below-append (f ∷ e.0) (map (below_frame f) es) (forest_rows s) (first _ _ u) (later f e.0 s is up))
    (sorted-append f es s (second _ _ u) v is up)

-- the rows of a forest in order rise
pub rows_sorted : (k : RowForest) → HasIncreasingRows k → T (finmap.is_sorted path_cmp (forest_rows k))
rows_sorted no_rows up = tt
rows_sorted (row_node a f m b s) up =
    two (below_all path_cmp (f ∷ []) (map (below_frame f) (forest_rows b) ++ forest_rows s)) (finmap.is_sorted path_cmp (map (below_frame f) (forest_rows b) ++ forest_rows s))
    (below-append (f ∷ []) (map (below_frame f) (forest_rows b)) (forest_rows s) (children f (forest_rows b) (no_root b)) (later f [] s up.0 up.2))
    (sorted-append f (forest_rows b) s (sorted_under f (forest_rows b) (rows_sorted b up.1)) (rows_sorted s up.2) up.0 up.2)
