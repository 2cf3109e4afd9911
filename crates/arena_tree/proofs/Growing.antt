-- How many rows a merged forest has.
use Rattle.std.proofs.Common.{◌≡◌, ℕ, suc, ◌+◌, ◌≤◌, true, true≢false, [], ◌∷◌, length, map, refl, sym, ap, ◌∙◌, arith}
use Rattle.std.specs.declared.cmp.Ordering.{Ordering}
use Rattle.std.specs.declared.cmp.Ordering.TheVariants.{Less, Equal, Greater}
use Rattle.std.specs.Ordering.{is_eq}
use Rattle.std.proofs.lemmas.List.{length-append, length-map}
use Rattle.call_path.specs.Path.{Path}
use Rattle.rank_set.specs.Ranks.{none}
use Rattle.prefix_tree.specs.Tree.{Marks}
use Rattle.prefix_tree.specs.Joined.{below_frame}
use Rattle.prefix_tree.specs.Owned.{by_order}
use Rattle.arena_tree.specs.RowForest.{RowForest, no_rows, row_node, frame_cmp, size, forest_rows}
use Rattle.arena_tree.specs.ChainForest.{ChainForest, no_chains, chain_node, rows_below, rows_of_chains, count_nodes, count_rows, FrameSplit, split_frames, cut_count, renumbered}
use Rattle.arena_tree.specs.ChainMerge.{new_nodes, new_rows, merge_sides, merge_chains}
use Rattle.arena_tree.specs.Steps.{rest_over}
use Rattle.arena_tree.proofs.MergingChains.{IsParted, parted}
use Rattle.arena_tree.proofs.MergedSteps.{split_own}

size-rows_below : (a : ℕ) (fs : Path) (m : Marks) (b : RowForest) → size (rows_below a fs m b) ≡ length fs + size b
size-rows_below a [] m b = omega arith
size-rows_below a (f ∷ fs) m b = let e = size-rows_below a fs m b in omega (arith, e)

-- as many as the forest shows
pub size-rows_of_chains : (t : ChainForest) → size (rows_of_chains t) ≡ count_rows t
size-rows_of_chains no_chains = refl
size-rows_of_chains (chain_node a f fs m b s) = let e = size-rows_below a fs m (rows_of_chains b) in omega (arith, e, size-rows_of_chains b, size-rows_of_chains s)

-- no fewer than nodes
pub nodes_within_rows : (t : ChainForest) → count_nodes t ≤ count_rows t
nodes_within_rows no_chains = omega arith
nodes_within_rows (chain_node a f fs m b s) = omega (arith, nodes_within_rows b, nodes_within_rows s)

count_rows-renumbered : (n : ℕ) (t : ChainForest) → count_rows (renumbered n t) ≡ count_rows t
count_rows-renumbered n no_chains = refl
count_rows-renumbered n (chain_node x g gs w c t) = let one = count_rows-renumbered (suc n) c in let two = count_rows-renumbered (suc n + count_nodes c) t in omega (arith, one, two)

count_rows-rest_over : (p : ℕ) (fs : Path) (m : Marks) (b : ChainForest) → count_rows (rest_over p fs m b) ≡ length fs + count_rows b
count_rows-rest_over p [] m b = omega arith
count_rows-rest_over p (f ∷ fs) m b = omega arith

long_split : (fs gs : Path) → length fs ≡ length (split_frames fs gs).common + length (split_frames fs gs).own
long_split fs gs = ap length (split_own fs gs) ∙ length-append (split_frames fs gs).common (split_frames fs gs).own

by_three : (r : Ordering) (x : ℕ) (t1 t2 t3 : ChainForest) (m1 m2 m3 : ℕ) → count_rows t1 ≡ x + m1 → (is_eq r ≡ true → count_rows t2 ≡ x + m2) → count_rows t3 ≡ x + m3 → count_rows (by_order r t1 t2 t3) ≡ x + by_order r m1 m2 m3
by_three Less x t1 t2 t3 m1 m2 m3 a b c = a
by_three Equal x t1 t2 t3 m1 m2 m3 a b c = b refl
by_three Greater x t1 t2 t3 m1 m2 m3 a b c = c

pub count_rows-merge_sides : (n p : ℕ) (fs : Path) (m : Marks) (b : ChainForest) (gs : Path) (w : Marks) (c : ChainForest) → IsParted fs gs → count_rows (merge_sides n p fs m b gs w c) ≡ count_rows (rest_over p fs m b) + new_rows fs b gs c
count_rows-merge_sides n p [] m no_chains [] w c off = let e = count_rows-renumbered n c in omega (arith, e)
count_rows-merge_sides n p [] m no_chains (g ∷ gs) w c off = let e = count_rows-renumbered (suc n) c in omega (arith, e)
count_rows-merge_sides n p [] m0 (chain_node a f fs m b s) [] w no_chains off = omega arith
count_rows-merge_sides n p [] m0 (chain_node a f fs m b s) [] w0 (chain_node x g gs w c t) off =
    let z : FrameSplit = split_frames fs gs in
    by_three (frame_cmp g f) (suc (length fs + (count_rows b + count_rows s))) _ _ _ _ _ _
    (let one = count_rows-renumbered (suc n) c in let two = count_rows-merge_sides (suc n + count_nodes c) 0 [] (none, none) (chain_node a f fs m b s) [] (none, none) t tt in omega (arith, one, two))
    (λ e.
    let one = count_rows-merge_sides (cut_count z.own + n) n z.own m b z.other w c (parted fs gs) in
    let two = count_rows-merge_sides (cut_count z.own + n + new_nodes z.own b z.other c) 0 [] (none, none) s [] (none, none) t tt in
    let by_three = count_rows-rest_over n z.own m b in
    let long = long_split fs gs in
    omega (arith, one, two, by_three, long))
    (let one = count_rows-merge_sides n 0 [] (none, none) s [] (none, none) (chain_node x g gs w c t) tt in omega (arith, one))
count_rows-merge_sides n p [] m0 (chain_node a f fs m b s) (g ∷ gs) w c off =
    let z : FrameSplit = split_frames fs gs in
    by_three (frame_cmp g f) (suc (length fs + (count_rows b + count_rows s))) _ _ _ _ _ _
    (let one = count_rows-renumbered (suc n) c in omega (arith, one))
    (λ e.
    let one = count_rows-merge_sides (cut_count z.own + n) n z.own m b z.other w c (parted fs gs) in
    let by_three = count_rows-rest_over n z.own m b in
    let long = long_split fs gs in
    omega (arith, one, by_three, long))
    (let one = count_rows-merge_sides n 0 [] (none, none) s (g ∷ gs) w c tt in omega (arith, one))
count_rows-merge_sides n p (f ∷ fs) m b [] w0 no_chains off = omega arith
count_rows-merge_sides n p (f ∷ fs) m b [] w0 (chain_node x g gs w c t) off =
    let z : FrameSplit = split_frames fs gs in
    by_three (frame_cmp g f) (suc (length fs + (count_rows b + 0))) _ _ _ _ _ _
    (let one = count_rows-renumbered (suc n) c in let two = count_rows-merge_sides (suc n + count_nodes c) p (f ∷ fs) m b [] (none, none) t tt in omega (arith, one, two))
    (λ e.
    let one = count_rows-merge_sides (cut_count z.own + n) n z.own m b z.other w c (parted fs gs) in
    let two = count_rows-renumbered (cut_count z.own + n + new_nodes z.own b z.other c) t in
    let by_three = count_rows-rest_over n z.own m b in
    let long = long_split fs gs in
    omega (arith, one, two, by_three, long))
    (let one = count_rows-renumbered (suc n) c in let two = count_rows-renumbered (suc n + count_nodes c) t in omega (arith, one, two))
count_rows-merge_sides n p (f ∷ fs) m b (g ∷ gs) w c off =
    by_three (frame_cmp g f) (suc (length fs + (count_rows b + 0))) _ _ _ _ _ _
    (let one = count_rows-renumbered (suc n) c in omega (arith, one))
    (λ e. absurd (true≢false (sym e ∙ off)))
    (let one = count_rows-renumbered (suc n) c in omega (arith, one))

pub count_rows-merge_chains : (n : ℕ) (t o : ChainForest) → count_rows (merge_chains n t o) ≡ count_rows t + new_rows [] t [] o
count_rows-merge_chains n t o = count_rows-merge_sides n 0 [] (none, none) t [] (none, none) o tt

length-forest_rows : (k : RowForest) → length (forest_rows k) ≡ size k
length-forest_rows no_rows = refl
length-forest_rows (row_node a f m b s) =
    let one = length-append (map (below_frame f) (forest_rows b)) (forest_rows s) in
    let two = length-map (forest_rows b) (below_frame f) in
    omega (arith, one, two, length-forest_rows b, length-forest_rows s)

-- as many as it shows
pub length-shown : (t : ChainForest) → length (forest_rows (rows_of_chains t)) ≡ count_rows t
length-shown t = length-forest_rows (rows_of_chains t) ∙ size-rows_of_chains t

pub shown_new_rows : (n : ℕ) (t o : ChainForest) → length (forest_rows (rows_of_chains (merge_chains n t o))) ≡ length (forest_rows (rows_of_chains t)) + new_rows [] t [] o
shown_new_rows n t o =
    let one = length-shown (merge_chains n t o) in
    let two = length-shown t in
    omega (arith, one, two, count_rows-merge_chains n t o)
