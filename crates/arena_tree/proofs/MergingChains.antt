-- The rows of two forests of chains, merged.
use Rattle.std.proofs.Common.{◌≡◌, ℕ, suc, ◌+◌, true, false, true≢false, List, [], ◌∷◌, ◌++◌, refl, sym, ap, ◌∙◌}
use Rattle.std.specs.declared.cmp.Ordering.{Ordering}
use Rattle.std.specs.declared.cmp.Ordering.TheVariants.{Less, Equal, Greater}
use Rattle.std.specs.Ordering.{is_eq}
use Rattle.std.specs.FinMap as finmap
use Rattle.rank_set.specs.Ranks.{Ranks, none, union}
use Rattle.rank_set.proofs.WordSets.{union_none}
use Rattle.call_path.specs.Path.{Path, path_cmp}
use Rattle.prefix_tree.specs.Tree.{Marks}
use Rattle.prefix_tree.specs.Joined.{insert_rows}
use Rattle.prefix_tree.specs.Owned.{by_order}
use Rattle.arena_tree.specs.RowForest.{RowForest, no_rows, row_node, frame_cmp, size, forest_rows}
use Rattle.arena_tree.specs.RowMerge.{united_marks, count_new, merge_rows}
use Rattle.arena_tree.specs.ChainForest.{ChainForest, no_chains, chain_node, row_marks, rows_below, rows_of_chains, HasIncreasingChains, count_nodes, FrameSplit, no_common, with_common, split_frames, cut_count, renumbered}
use Rattle.arena_tree.specs.ChainMerge.{shared_marks, new_nodes, merge_sides, merge_chains}
use Rattle.arena_tree.proofs.Orders.{ordered-merge_rows}
use Rattle.arena_tree.proofs.MergedRows.{rows_united}
use Rattle.arena_tree.proofs.BareForests.{bare, merge_rows-new, merge_rows-none, rows_alike, increasing_alike}

pub below_alike : (p q : ℕ) (fs : Path) (m : Marks) (B D : RowForest) → bare B ≡ bare D → bare (rows_below p fs m B) ≡ bare (rows_below q fs m D)
below_alike p q [] m B D e = e
below_alike p q (f ∷ fs) m B D e = λ i. row_node 0 f (row_marks fs m) (below_alike p q fs m B D e i) no_rows

pub moved_alike : (n : ℕ) (t : ChainForest) → bare (rows_of_chains (renumbered n t)) ≡ bare (rows_of_chains t)
moved_alike n no_chains = refl
moved_alike n (chain_node x g gs w c t) = λ i. row_node 0 g (row_marks gs w) (below_alike n x gs w (rows_of_chains (renumbered (suc n) c)) (rows_of_chains c) (moved_alike (suc n) c) i) (moved_alike (suc n + count_nodes c) t i)

-- cutting a node shows the same rows
none_over : (fs : Path) (l : Ranks) → row_marks fs (l, none) ≡ (l, none)
none_over [] l = refl
none_over (f ∷ fs) l = refl

over_more : (fs gs : Path) (g : List ℕ) (m : Marks) → row_marks (fs ++ g ∷ gs) m ≡ row_marks fs (m.0, none)
over_more [] gs g m = refl
over_more (f ∷ fs) gs g m = refl

rest_cut : (a n : ℕ) (fs gs : Path) (g : List ℕ) (m : Marks) (B : RowForest) → bare (rows_below a (fs ++ g ∷ gs) m B) ≡ bare (rows_below a fs (m.0, none) (row_node n g (row_marks gs m) (rows_below n gs m B) no_rows))
rest_cut a n [] gs g m B = λ i. row_node 0 g (row_marks gs m) (below_alike a n gs m B B refl i) no_rows
rest_cut a n (f ∷ fs) gs g m B = λ i. row_node 0 f (over_more fs gs g m i) (rest_cut a n fs gs g m B i) no_rows

pub cut_shows_the_same_rows : (a n : ℕ) (f g : List ℕ) (fs gs : Path) (m : Marks) (b s : ChainForest) → bare (rows_of_chains (chain_node a f (fs ++ g ∷ gs) m b s)) ≡ bare (rows_of_chains (chain_node a f fs (m.0, none) (chain_node n g gs m b no_chains) s))
cut_shows_the_same_rows a n f g fs gs m b s = λ i. row_node 0 f (over_more fs gs g m i) (rest_cut a n fs gs g m (rows_of_chains b) i) (bare (rows_of_chains s))

-- two chains that begin with one frame: what they share, over what is merged of the rest of both
abbrev Meets : FrameSplit → Marks → Marks → RowForest → RowForest → RowForest → Type 0
Meets s m w B C K = (n p x : ℕ) → bare K ≡ bare (merge_rows n (rows_below p s.own m B) (rows_below x s.other w C))

meets_marks : (fs gs : Path) (m w : Marks) → row_marks (split_frames fs gs).common (shared_marks (split_frames fs gs) m w) ≡ united_marks (row_marks fs m) (row_marks gs w)
meets_marks [] gs m w = refl
meets_marks (f ∷ fs) [] m w = refl
meets_marks (f ∷ fs) (g ∷ gs) m w =
    elim (frame_cmp g f) as (λ r.
    row_marks (by_order r (no_common (f ∷ fs) (g ∷ gs)) (with_common f (split_frames fs gs)) (no_common (f ∷ fs) (g ∷ gs))).common
    (shared_marks (by_order r (no_common (f ∷ fs) (g ∷ gs)) (with_common f (split_frames fs gs)) (no_common (f ∷ fs) (g ∷ gs))) m w)
    ≡ united_marks (row_marks (f ∷ fs) m) (row_marks (g ∷ gs) w)) [
      | Less ↦ refl
      | Equal ↦ λ i. (union m.0 w.0, union_none none i)
      | Greater ↦ refl
    ]

meets_below : (a n p x : ℕ) (fs gs : Path) (m w : Marks) (B C K : RowForest) → Meets (split_frames fs gs) m w B C K
    → bare (rows_below a (split_frames fs gs).common (shared_marks (split_frames fs gs) m w) K) ≡ bare (merge_rows n (rows_below p fs m B) (rows_below x gs w C))
meets_below a n p x [] gs m w B C K is = is n p x
meets_below a n p x (f ∷ fs) [] m w B C K is = is n p x
meets_below a n p x (f ∷ fs) (g ∷ gs) m w B C K is =
    let inner = meets_below a n p x fs gs m w B C K in
    let k1 : RowForest = row_node n g (row_marks gs w) (merge_rows (suc n) no_rows (rows_below x gs w C)) (merge_rows (suc n + size (rows_below x gs w C)) (row_node p f (row_marks fs m) (rows_below p fs m B) no_rows) no_rows) in
    let k2 : RowForest = row_node p f (united_marks (row_marks fs m) (row_marks gs w)) (merge_rows n (rows_below p fs m B) (rows_below x gs w C)) (merge_rows (n + count_new (rows_below p fs m B) (rows_below x gs w C)) no_rows no_rows) in
    let k3 : RowForest = row_node p f (row_marks fs m) (rows_below p fs m B) (merge_rows n no_rows (row_node x g (row_marks gs w) (rows_below x gs w C) no_rows)) in
    elim (frame_cmp g f) as (λ r. frame_cmp g f ≡ r →
    Meets (by_order r (no_common (f ∷ fs) (g ∷ gs)) (with_common f (split_frames fs gs)) (no_common (f ∷ fs) (g ∷ gs))) m w B C K
    → bare (rows_below a (by_order r (no_common (f ∷ fs) (g ∷ gs)) (with_common f (split_frames fs gs)) (no_common (f ∷ fs) (g ∷ gs))).common
    (shared_marks (by_order r (no_common (f ∷ fs) (g ∷ gs)) (with_common f (split_frames fs gs)) (no_common (f ∷ fs) (g ∷ gs))) m w) K)
    ≡ bare (by_order r k1 k2 k3)) [
      | Less ↦ λ e here. here n p x ∙ ap (λ r. bare (by_order r k1 k2 k3)) e
      | Equal ↦ λ e here. λ i. row_node 0 f (meets_marks fs gs m w i) (inner here i) no_rows
      | Greater ↦ λ e here. here n p x ∙ ap (λ r. bare (by_order r k1 k2 k3)) e
    ] refl is

-- two chains begin with different frames, where both have one
abbrev pub IsParted : Path → Path → Type 0
IsParted [] gs = Unit {0}
IsParted (f ∷ fs) [] = Unit {0}
IsParted (f ∷ fs) (g ∷ gs) = is_eq (frame_cmp g f) ≡ false

pub parted : (fs gs : Path) → IsParted (split_frames fs gs).own (split_frames fs gs).other
parted [] gs = tt
parted (f ∷ fs) [] = tt
parted (f ∷ fs) (g ∷ gs) =
    let inner = parted fs gs in
    elim (frame_cmp g f) as (λ r. frame_cmp g f ≡ r →
    IsParted (by_order r (no_common (f ∷ fs) (g ∷ gs)) (with_common f (split_frames fs gs)) (no_common (f ∷ fs) (g ∷ gs))).own
    (by_order r (no_common (f ∷ fs) (g ∷ gs)) (with_common f (split_frames fs gs)) (no_common (f ∷ fs) (g ∷ gs))).other) [
      | Less ↦ λ e. ap is_eq e
      | Equal ↦ λ e. inner
      | Greater ↦ λ e. ap is_eq e
    ] refl

by_three : (r : Ordering) (t1 t2 t3 : ChainForest) (k1 k2 k3 : RowForest) → bare (rows_of_chains t1) ≡ bare k1 → (is_eq r ≡ true → bare (rows_of_chains t2) ≡ bare k2) → bare (rows_of_chains t3) ≡ bare k3 → bare (rows_of_chains (by_order r t1 t2 t3)) ≡ bare (by_order r k1 k2 k3)
by_three Less t1 t2 t3 k1 k2 k3 a b c = a
by_three Equal t1 t2 t3 k1 k2 k3 a b c = b refl
by_three Greater t1 t2 t3 k1 k2 k3 a b c = c

-- nodes that are all new
all_new : (n k x : ℕ) (gs : Path) (w : Marks) (c : ChainForest) → bare (rows_below k gs w (rows_of_chains (renumbered n c))) ≡ bare (rows_below x gs w (rows_of_chains c))
all_new n k x gs w c = below_alike k x gs w (rows_of_chains (renumbered n c)) (rows_of_chains c) (moved_alike n c)

new_below : (n k x v : ℕ) (gs : Path) (w : Marks) (c : ChainForest) → bare (rows_below k gs w (rows_of_chains (renumbered n c))) ≡ bare (merge_rows v no_rows (rows_below x gs w (rows_of_chains c)))
new_below n k x v gs w c = all_new n k x gs w c ∙ sym (merge_rows-new v (rows_below x gs w (rows_of_chains c)))

new_all : (n v : ℕ) (c : ChainForest) → bare (rows_of_chains (renumbered n c)) ≡ bare (merge_rows v no_rows (rows_of_chains c))
new_all n v c = moved_alike n c ∙ sym (merge_rows-new v (rows_of_chains c))

-- the forest that comes out shows the merge of what both show
merged_sides_same : (n p : ℕ) (fs : Path) (m : Marks) (b : ChainForest) (gs : Path) (w : Marks) (c : ChainForest) → IsParted fs gs → (v q y : ℕ) → bare (rows_of_chains (merge_sides n p fs m b gs w c)) ≡ bare (merge_rows v (rows_below q fs m (rows_of_chains b)) (rows_below y gs w (rows_of_chains c)))
merged_sides_same n p [] m no_chains [] w c off v q y = new_all n v c
merged_sides_same n p [] m no_chains (g ∷ gs) w c off v q y = (λ i. row_node 0 g (row_marks gs w) (all_new (suc n) n y gs w c i) no_rows) ∙ sym (merge_rows-new v (row_node y g (row_marks gs w) (rows_below y gs w (rows_of_chains c)) no_rows))
merged_sides_same n p [] m0 (chain_node a f fs m b s) [] w no_chains off v q y = refl
merged_sides_same n p [] m0 (chain_node a f fs m b s) [] w0 (chain_node x g gs w c t) off v q y =
    by_three (frame_cmp g f) _ _ _ _ _ _
    (λ i. row_node 0 g (row_marks gs w) (new_below (suc n) n x (suc v) gs w c i) (merged_sides_same (suc n + count_nodes c) 0 [] (none, none) (chain_node a f fs m b s) [] (none, none) t tt (suc v + size (rows_below x gs w (rows_of_chains c))) q y i))
    (λ e. λ i. row_node 0 f (meets_marks fs gs m w i)
    (meets_below a v a x fs gs m w (rows_of_chains b) (rows_of_chains c) _ (merged_sides_same (cut_count (split_frames fs gs).own + n) n (split_frames fs gs).own m b (split_frames fs gs).other w c (parted fs gs)) i)
    (merged_sides_same (cut_count (split_frames fs gs).own + n + new_nodes (split_frames fs gs).own b (split_frames fs gs).other c) 0 [] (none, none) s [] (none, none) t tt (v + count_new (rows_below a fs m (rows_of_chains b)) (rows_below x gs w (rows_of_chains c))) q y i))
    (λ i. row_node 0 f (row_marks fs m) (bare (rows_below a fs m (rows_of_chains b))) (merged_sides_same n 0 [] (none, none) s [] (none, none) (chain_node x g gs w c t) tt v q y i))
merged_sides_same n p [] m0 (chain_node a f fs m b s) (g ∷ gs) w c off v q y =
    by_three (frame_cmp g f) _ _ _ _ _ _
    (λ i. row_node 0 g (row_marks gs w) (new_below (suc n) n y (suc v) gs w c i) (bare (rows_of_chains (chain_node a f fs m b s))))
    (λ e. λ i. row_node 0 f (meets_marks fs gs m w i)
    (meets_below a v a y fs gs m w (rows_of_chains b) (rows_of_chains c) _ (merged_sides_same (cut_count (split_frames fs gs).own + n) n (split_frames fs gs).own m b (split_frames fs gs).other w c (parted fs gs)) i)
    (bare (sym (merge_rows-none (v + count_new (rows_below a fs m (rows_of_chains b)) (rows_below y gs w (rows_of_chains c))) (rows_of_chains s)) i)))
    (λ i. row_node 0 f (row_marks fs m) (bare (rows_below a fs m (rows_of_chains b))) (merged_sides_same n 0 [] (none, none) s (g ∷ gs) w c tt v q y i))
merged_sides_same n p (f ∷ fs) m b [] w0 no_chains off v q y = λ i. row_node 0 f (row_marks fs m) (below_alike p q fs m (rows_of_chains b) (rows_of_chains b) refl i) no_rows
merged_sides_same n p (f ∷ fs) m b [] w0 (chain_node x g gs w c t) off v q y =
    by_three (frame_cmp g f) _ _ _ _ _ _
    (λ i. row_node 0 g (row_marks gs w) (new_below (suc n) n x (suc v) gs w c i) (merged_sides_same (suc n + count_nodes c) p (f ∷ fs) m b [] (none, none) t tt (suc v + size (rows_below x gs w (rows_of_chains c))) q y i))
    (λ e. λ i. row_node 0 f (meets_marks fs gs m w i)
    (meets_below p v q x fs gs m w (rows_of_chains b) (rows_of_chains c) _ (merged_sides_same (cut_count (split_frames fs gs).own + n) n (split_frames fs gs).own m b (split_frames fs gs).other w c (parted fs gs)) i)
    (new_all (cut_count (split_frames fs gs).own + n + new_nodes (split_frames fs gs).own b (split_frames fs gs).other c) (v + count_new (rows_below q fs m (rows_of_chains b)) (rows_below x gs w (rows_of_chains c))) t i))
    (λ i. row_node 0 f (row_marks fs m) (below_alike p q fs m (rows_of_chains b) (rows_of_chains b) refl i) (new_all n v (chain_node x g gs w c t) i))
merged_sides_same n p (f ∷ fs) m b (g ∷ gs) w c off v q y =
    by_three (frame_cmp g f) _ _ _ _ _ _
    (λ i. row_node 0 g (row_marks gs w) (new_below (suc n) n y (suc v) gs w c i) (row_node 0 f (row_marks fs m) (below_alike p q fs m (rows_of_chains b) (rows_of_chains b) refl i) no_rows))
    (λ e. absurd (true≢false (sym e ∙ off)))
    (λ i. row_node 0 f (row_marks fs m) (below_alike p q fs m (rows_of_chains b) (rows_of_chains b) refl i) (new_below_one i))
  where
    new_below_one : bare (rows_of_chains (chain_node n g gs w (renumbered (suc n) c) no_chains)) ≡ bare (merge_rows v no_rows (row_node y g (row_marks gs w) (rows_below y gs w (rows_of_chains c)) no_rows))
    new_below_one = (λ i. row_node 0 g (row_marks gs w) (all_new (suc n) n y gs w c i) no_rows) ∙ sym (merge_rows-new v (row_node y g (row_marks gs w) (rows_below y gs w (rows_of_chains c)) no_rows))

pub merged_chains_same : (n v : ℕ) (t o : ChainForest) → bare (rows_of_chains (merge_chains n t o)) ≡ bare (merge_rows v (rows_of_chains t) (rows_of_chains o))
merged_chains_same n v t o = merged_sides_same n 0 [] (none, none) t [] (none, none) o tt v 0 0

-- what comes out is in order
pub increasing-merge_sides : (n : ℕ) (t o : ChainForest) → HasIncreasingChains t → HasIncreasingChains o → HasIncreasingChains (merge_chains n t o)
increasing-merge_sides n t o up vp = increasing_alike (rows_of_chains (merge_chains n t o)) (merge_rows n (rows_of_chains t) (rows_of_chains o)) (merged_chains_same n n t o) (ordered-merge_rows n (rows_of_chains t) (rows_of_chains o) up vp)

pub merge_rows_united : (n : ℕ) (t o : ChainForest) → HasIncreasingChains t → HasIncreasingChains o → finmap.from_sorted {R = path_cmp} (forest_rows (rows_of_chains (merge_chains n t o))) ≡ insert_rows (finmap.from_sorted (forest_rows (rows_of_chains t))) (forest_rows (rows_of_chains o))
merge_rows_united n t o up vp = ap (λ es. finmap.from_sorted {R = path_cmp} es) (rows_alike (rows_of_chains (merge_chains n t o)) (merge_rows n (rows_of_chains t) (rows_of_chains o)) (merged_chains_same n n t o)) ∙ rows_united n (rows_of_chains t) (rows_of_chains o) up vp
