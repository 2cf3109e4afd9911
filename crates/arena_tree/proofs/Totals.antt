-- How many nodes and rows steps add.
use Rattle.std.proofs.Common.{◌≡◌, ℕ, suc, ◌+◌, List, [], ◌∷◌, ◌++◌, refl, ap, arith}
use Rattle.std.specs.declared.cmp.Ordering.{Ordering}
use Rattle.std.specs.declared.cmp.Ordering.TheVariants.{Less, Equal, Greater}
use Rattle.rank_set.specs.Ranks.{none}
use Rattle.call_path.specs.Path.{Path}
use Rattle.prefix_tree.specs.Tree.{Marks}
use Rattle.prefix_tree.specs.Owned.{by_order}
use Rattle.arena_tree.specs.declared.node.Link.{Link}
use Rattle.arena_tree.specs.declared.node.Link.TheVariants.{FirstOf, NextOf}
use Rattle.arena_tree.specs.declared.node.ChangeStep.{ChangeStep}
use Rattle.arena_tree.specs.RowForest.{frame_cmp}
use Rattle.arena_tree.specs.ChainForest.{ChainForest, no_chains, chain_node, count_nodes, count_rows, FrameSplit, split_frames, cut_count}
use Rattle.arena_tree.specs.ChainMerge.{added_marks, new_nodes, new_rows}
use Rattle.arena_tree.specs.Steps.{nodes_added_by, nodes_added, rows_added_by, rows_added, shared_step, copy_steps, side_steps, merge_steps}

pub nodes_added-append : (ss ts : List ChangeStep) → nodes_added (ss ++ ts) ≡ nodes_added ss + nodes_added ts
nodes_added-append [] ts = omega arith
nodes_added-append (s ∷ ss) ts = let e = nodes_added-append ss ts in omega (arith, e)

pub rows_added-append : (ss ts : List ChangeStep) → rows_added (ss ++ ts) ≡ rows_added ss + rows_added ts
rows_added-append [] ts = omega arith
rows_added-append (s ∷ ss) ts = let e = rows_added-append ss ts in omega (arith, e)

nodes_by : (r : Ordering) (s1 s2 s3 : List ChangeStep) (m1 m2 m3 : ℕ) → nodes_added s1 ≡ m1 → nodes_added s2 ≡ m2 → nodes_added s3 ≡ m3 → nodes_added (by_order r s1 s2 s3) ≡ by_order r m1 m2 m3
nodes_by Less s1 s2 s3 m1 m2 m3 a b c = a
nodes_by Equal s1 s2 s3 m1 m2 m3 a b c = b
nodes_by Greater s1 s2 s3 m1 m2 m3 a b c = c

rows_by : (r : Ordering) (s1 s2 s3 : List ChangeStep) (m1 m2 m3 : ℕ) → rows_added s1 ≡ m1 → rows_added s2 ≡ m2 → rows_added s3 ≡ m3 → rows_added (by_order r s1 s2 s3) ≡ by_order r m1 m2 m3
rows_by Less s1 s2 s3 m1 m2 m3 a b c = a
rows_by Equal s1 s2 s3 m1 m2 m3 a b c = b
rows_by Greater s1 s2 s3 m1 m2 m3 a b c = c

pub nodes_added-shared : (a : ℕ) (own common : Path) (v m : Marks) (b : ChainForest) → nodes_added_by (shared_step a own common v m b) ≡ cut_count own
nodes_added-shared a [] common v m b = refl
nodes_added-shared a (g ∷ gs) common v m b = refl

pub rows_added-shared : (a : ℕ) (own common : Path) (v m : Marks) (b : ChainForest) → rows_added_by (shared_step a own common v m b) ≡ 0
rows_added-shared a [] common v m b = refl
rows_added-shared a (g ∷ gs) common v m b = refl

nodes_added-copy : (l : Link) (n : ℕ) (c : ChainForest) → nodes_added (copy_steps l n c) ≡ count_nodes c
nodes_added-copy l n no_chains = refl
nodes_added-copy l n (chain_node x g gs w c t) =
    let e = nodes_added-append (copy_steps (FirstOf n) (suc n) c) (copy_steps (NextOf n) (suc n + count_nodes c) t) in
    let one = nodes_added-copy (FirstOf n) (suc n) c in
    let two = nodes_added-copy (NextOf n) (suc n + count_nodes c) t in
    omega (arith, e, one, two)

rows_added-copy : (l : Link) (n : ℕ) (c : ChainForest) → rows_added (copy_steps l n c) ≡ count_rows c
rows_added-copy l n no_chains = refl
rows_added-copy l n (chain_node x g gs w c t) =
    let e = rows_added-append (copy_steps (FirstOf n) (suc n) c) (copy_steps (NextOf n) (suc n + count_nodes c) t) in
    let one = rows_added-copy (FirstOf n) (suc n) c in
    let two = rows_added-copy (NextOf n) (suc n + count_nodes c) t in
    omega (arith, e, one, two)

-- as many as there are new nodes
pub nodes_added-steps : (l : Link) (n p : ℕ) (fs : Path) (m : Marks) (b : ChainForest) (gs : Path) (w : Marks) (c : ChainForest) → nodes_added (side_steps l n p fs m b gs w c) ≡ new_nodes fs b gs c
nodes_added-steps l n p [] m no_chains [] w c = nodes_added-copy l n c
nodes_added-steps l n p [] m no_chains (g ∷ gs) w c = let e = nodes_added-copy (FirstOf n) (suc n) c in omega (arith, e)
nodes_added-steps l n p [] m0 (chain_node a f fs m b s) [] w no_chains = refl
nodes_added-steps l n p [] m0 (chain_node a f fs m b s) [] w0 (chain_node x g gs w c t) =
    let z : FrameSplit = split_frames fs gs in
    nodes_by (frame_cmp g f) _ _ _ _ _ _
    (let e = nodes_added-append (copy_steps (FirstOf n) (suc n) c) (side_steps (NextOf n) (suc n + count_nodes c) 0 [] (none, none) (chain_node a f fs m b s) [] (none, none) t) in
    let one = nodes_added-copy (FirstOf n) (suc n) c in
    let two = nodes_added-steps (NextOf n) (suc n + count_nodes c) 0 [] (none, none) (chain_node a f fs m b s) [] (none, none) t in
    omega (arith, e, one, two))
    (let e = nodes_added-append (side_steps (FirstOf a) (cut_count z.own + n) n z.own m b z.other w c) (side_steps (NextOf a) (cut_count z.own + n + new_nodes z.own b z.other c) 0 [] (none, none) s [] (none, none) t) in
    let one = nodes_added-shared a z.own z.common (added_marks z w) m b in
    let two = nodes_added-steps (FirstOf a) (cut_count z.own + n) n z.own m b z.other w c in
    let three = nodes_added-steps (NextOf a) (cut_count z.own + n + new_nodes z.own b z.other c) 0 [] (none, none) s [] (none, none) t in
    omega (arith, e, one, two, three))
    (nodes_added-steps (NextOf a) n 0 [] (none, none) s [] (none, none) (chain_node x g gs w c t))
nodes_added-steps l n p [] m0 (chain_node a f fs m b s) (g ∷ gs) w c =
    let z : FrameSplit = split_frames fs gs in
    nodes_by (frame_cmp g f) _ _ _ _ _ _
    (let one = nodes_added-copy (FirstOf n) (suc n) c in omega (arith, one))
    (let one = nodes_added-shared a z.own z.common (added_marks z w) m b in
    let two = nodes_added-steps (FirstOf a) (cut_count z.own + n) n z.own m b z.other w c in
    omega (arith, one, two))
    (nodes_added-steps (NextOf a) n 0 [] (none, none) s (g ∷ gs) w c)
nodes_added-steps l n p (f ∷ fs) m b [] w0 no_chains = refl
nodes_added-steps l n p (f ∷ fs) m b [] w0 (chain_node x g gs w c t) =
    let z : FrameSplit = split_frames fs gs in
    nodes_by (frame_cmp g f) _ _ _ _ _ _
    (let e = nodes_added-append (copy_steps (FirstOf n) (suc n) c) (side_steps (NextOf n) (suc n + count_nodes c) p (f ∷ fs) m b [] (none, none) t) in
    let one = nodes_added-copy (FirstOf n) (suc n) c in
    let two = nodes_added-steps (NextOf n) (suc n + count_nodes c) p (f ∷ fs) m b [] (none, none) t in
    omega (arith, e, one, two))
    (let e = nodes_added-append (side_steps (FirstOf p) (cut_count z.own + n) n z.own m b z.other w c) (copy_steps (NextOf p) (cut_count z.own + n + new_nodes z.own b z.other c) t) in
    let one = nodes_added-shared p z.own z.common (added_marks z w) m b in
    let two = nodes_added-steps (FirstOf p) (cut_count z.own + n) n z.own m b z.other w c in
    let three = nodes_added-copy (NextOf p) (cut_count z.own + n + new_nodes z.own b z.other c) t in
    omega (arith, e, one, two, three))
    (nodes_added-copy (NextOf p) n (chain_node x g gs w c t))
nodes_added-steps l n p (f ∷ fs) m b (g ∷ gs) w c =
    nodes_by (frame_cmp g f) _ _ _ _ _ _
    (let one = nodes_added-copy (FirstOf n) (suc n) c in omega (arith, one))
    refl
    (let one = nodes_added-copy (FirstOf n) (suc n) c in omega (arith, one))

-- as many as there are new rows
pub rows_added-steps : (l : Link) (n p : ℕ) (fs : Path) (m : Marks) (b : ChainForest) (gs : Path) (w : Marks) (c : ChainForest) → rows_added (side_steps l n p fs m b gs w c) ≡ new_rows fs b gs c
rows_added-steps l n p [] m no_chains [] w c = rows_added-copy l n c
rows_added-steps l n p [] m no_chains (g ∷ gs) w c = let e = rows_added-copy (FirstOf n) (suc n) c in omega (arith, e)
rows_added-steps l n p [] m0 (chain_node a f fs m b s) [] w no_chains = refl
rows_added-steps l n p [] m0 (chain_node a f fs m b s) [] w0 (chain_node x g gs w c t) =
    let z : FrameSplit = split_frames fs gs in
    rows_by (frame_cmp g f) _ _ _ _ _ _
    (let e = rows_added-append (copy_steps (FirstOf n) (suc n) c) (side_steps (NextOf n) (suc n + count_nodes c) 0 [] (none, none) (chain_node a f fs m b s) [] (none, none) t) in
    let one = rows_added-copy (FirstOf n) (suc n) c in
    let two = rows_added-steps (NextOf n) (suc n + count_nodes c) 0 [] (none, none) (chain_node a f fs m b s) [] (none, none) t in
    omega (arith, e, one, two))
    (let e = rows_added-append (side_steps (FirstOf a) (cut_count z.own + n) n z.own m b z.other w c) (side_steps (NextOf a) (cut_count z.own + n + new_nodes z.own b z.other c) 0 [] (none, none) s [] (none, none) t) in
    let one = rows_added-shared a z.own z.common (added_marks z w) m b in
    let two = rows_added-steps (FirstOf a) (cut_count z.own + n) n z.own m b z.other w c in
    let three = rows_added-steps (NextOf a) (cut_count z.own + n + new_nodes z.own b z.other c) 0 [] (none, none) s [] (none, none) t in
    omega (arith, e, one, two, three))
    (rows_added-steps (NextOf a) n 0 [] (none, none) s [] (none, none) (chain_node x g gs w c t))
rows_added-steps l n p [] m0 (chain_node a f fs m b s) (g ∷ gs) w c =
    let z : FrameSplit = split_frames fs gs in
    rows_by (frame_cmp g f) _ _ _ _ _ _
    (let one = rows_added-copy (FirstOf n) (suc n) c in omega (arith, one))
    (let one = rows_added-shared a z.own z.common (added_marks z w) m b in
    let two = rows_added-steps (FirstOf a) (cut_count z.own + n) n z.own m b z.other w c in
    omega (arith, one, two))
    (rows_added-steps (NextOf a) n 0 [] (none, none) s (g ∷ gs) w c)
rows_added-steps l n p (f ∷ fs) m b [] w0 no_chains = refl
rows_added-steps l n p (f ∷ fs) m b [] w0 (chain_node x g gs w c t) =
    let z : FrameSplit = split_frames fs gs in
    rows_by (frame_cmp g f) _ _ _ _ _ _
    (let e = rows_added-append (copy_steps (FirstOf n) (suc n) c) (side_steps (NextOf n) (suc n + count_nodes c) p (f ∷ fs) m b [] (none, none) t) in
    let one = rows_added-copy (FirstOf n) (suc n) c in
    let two = rows_added-steps (NextOf n) (suc n + count_nodes c) p (f ∷ fs) m b [] (none, none) t in
    omega (arith, e, one, two))
    (let e = rows_added-append (side_steps (FirstOf p) (cut_count z.own + n) n z.own m b z.other w c) (copy_steps (NextOf p) (cut_count z.own + n + new_nodes z.own b z.other c) t) in
    let one = rows_added-shared p z.own z.common (added_marks z w) m b in
    let two = rows_added-steps (FirstOf p) (cut_count z.own + n) n z.own m b z.other w c in
    let three = rows_added-copy (NextOf p) (cut_count z.own + n + new_nodes z.own b z.other c) t in
    omega (arith, e, one, two, three))
    (rows_added-copy (NextOf p) n (chain_node x g gs w c t))
rows_added-steps l n p (f ∷ fs) m b (g ∷ gs) w c =
    rows_by (frame_cmp g f) _ _ _ _ _ _
    (let one = rows_added-copy (FirstOf n) (suc n) c in omega (arith, one))
    refl
    (let one = rows_added-copy (FirstOf n) (suc n) c in omega (arith, one))

pub merge_nodes : (l : Link) (n : ℕ) (t o : ChainForest) → nodes_added (merge_steps l n t o) ≡ new_nodes [] t [] o
merge_nodes l n t o = nodes_added-steps l n 0 [] (none, none) t [] (none, none) o

pub merge_rows : (l : Link) (n : ℕ) (t o : ChainForest) → rows_added (merge_steps l n t o) ≡ new_rows [] t [] o
merge_rows l n t o = rows_added-steps l n 0 [] (none, none) t [] (none, none) o

-- one step more
pub nodes_added-one : (xs ys : List ChangeStep) (s : ChangeStep) → ys ≡ xs ++ s ∷ [] → nodes_added ys ≡ nodes_added xs + nodes_added_by s
nodes_added-one xs ys s e = let same = ap nodes_added e in let sum = nodes_added-append xs (s ∷ []) in omega (arith, same, sum)

pub rows_added-one : (xs ys : List ChangeStep) (s : ChangeStep) → ys ≡ xs ++ s ∷ [] → rows_added ys ≡ rows_added xs + rows_added_by s
rows_added-one xs ys s e = let same = ap rows_added e in let sum = rows_added-append xs (s ∷ []) in omega (arith, same, sum)
