-- The steps of a merge, by what stands on both sides.
use Rattle.std.proofs.Common.{◌≡◌, ℕ, suc, ◌+◌, true, true≢false, List, [], ◌∷◌, ◌++◌, refl, sym, ap, ◌∙◌, append-nil, arith}
use Rattle.std.specs.declared.cmp.Ordering.{Ordering}
use Rattle.std.specs.declared.cmp.Ordering.TheVariants.{Less, Equal, Greater}
use Rattle.std.specs.Ordering.{is_eq}
use Rattle.rank_set.specs.Ranks.{none}
use Rattle.call_path.specs.Path.{Path}
use Rattle.prefix_tree.specs.Tree.{Marks}
use Rattle.prefix_tree.specs.Owned.{by_order}
use Rattle.arena_tree.specs.declared.node.Link.{Link}
use Rattle.arena_tree.specs.declared.node.Link.TheVariants.{FirstOf, NextOf}
use Rattle.arena_tree.specs.declared.node.ChangeStep.{ChangeStep}
use Rattle.arena_tree.specs.declared.node.ChangeStep.TheVariants.{New}
use Rattle.arena_tree.specs.RowForest.{frame_cmp}
use Rattle.arena_tree.specs.ChainForest.{ChainForest, no_chains, chain_node, count_nodes, FrameSplit, split_frames, cut_count}
use Rattle.arena_tree.specs.ChainMerge.{added_marks, new_nodes}
use Rattle.arena_tree.specs.Steps.{new_view, shared_step, rest_over, copy_steps, side_steps, merge_steps}
use Rattle.arena_tree.proofs.MergingChains.{IsParted, parted}

pub side_steps-none : (l : Link) (n : ℕ) (k : ChainForest) → merge_steps l n k no_chains ≡ []
side_steps-none l n no_chains = refl
side_steps-none l n (chain_node a f fs m b s) = refl

by_three : (r : Ordering) (s1 s2 s3 t1 t2 t3 : List ChangeStep) → s1 ≡ t1 → (is_eq r ≡ true → s2 ≡ t2) → s3 ≡ t3 → by_order r s1 s2 s3 ≡ by_order r t1 t2 t3
by_three Less s1 s2 s3 t1 t2 t3 a b c = a
by_three Equal s1 s2 s3 t1 t2 t3 a b c = b refl
by_three Greater s1 s2 s3 t1 t2 t3 a b c = c

one_more : (s : ChangeStep) (ss : List ChangeStep) → s ∷ ss ≡ s ∷ ss ++ []
one_more s ss = ap (λ ts. s ∷ ts) (sym (append-nil ss))

-- only what stands on both sides matters
pub steps_of_the_same_frame : (l : Link) (n p y : ℕ) (fs : Path) (m : Marks) (b : ChainForest) (gs : Path) (w : Marks) (c : ChainForest) → IsParted fs gs
    → side_steps l n p fs m b gs w c ≡ merge_steps l n (rest_over p fs m b) (rest_over y gs w c)
steps_of_the_same_frame l n p y [] m no_chains [] w c off = refl
steps_of_the_same_frame l n p y [] m no_chains (g ∷ gs) w c off = one_more (New l (new_view g gs w 4294967295)) (copy_steps (FirstOf n) (suc n) c)
steps_of_the_same_frame l n p y [] m0 (chain_node a f fs m b s) [] w no_chains off = refl
steps_of_the_same_frame l n p y [] m0 (chain_node a f fs m b s) [] w0 (chain_node x g gs w c t) off = refl
steps_of_the_same_frame l n p y [] m0 (chain_node a f fs m b s) (g ∷ gs) w c off =
    let z : FrameSplit = split_frames fs gs in
    by_three (frame_cmp g f) _ _ _ _ _ _
    (one_more (New l (new_view g gs w a)) (copy_steps (FirstOf n) (suc n) c))
    (λ e. one_more (shared_step a z.own z.common (added_marks z w) m b) (side_steps (FirstOf a) (cut_count z.own + n) n z.own m b z.other w c)
    ∙ ap (λ ss. shared_step a z.own z.common (added_marks z w) m b ∷ side_steps (FirstOf a) (cut_count z.own + n) n z.own m b z.other w c ++ ss) (sym (side_steps-none (NextOf a) (cut_count z.own + n + new_nodes z.own b z.other c) s)))
    (steps_of_the_same_frame (NextOf a) n 0 y [] (none, none) s (g ∷ gs) w c tt)
steps_of_the_same_frame l n p y (f ∷ fs) m b [] w0 no_chains off = refl
steps_of_the_same_frame l n p y (f ∷ fs) m b [] w0 (chain_node x g gs w c t) off =
    let z : FrameSplit = split_frames fs gs in
    by_three (frame_cmp g f) _ _ _ _ _ _
    (ap (λ ss. New l (new_view g gs w p) ∷ copy_steps (FirstOf n) (suc n) c ++ ss) (steps_of_the_same_frame (NextOf n) (suc n + count_nodes c) p y (f ∷ fs) m b [] (none, none) t tt))
    (λ e. refl)
    refl
steps_of_the_same_frame l n p y (f ∷ fs) m b (g ∷ gs) w c off =
    by_three (frame_cmp g f) _ _ _ _ _ _
    (one_more (New l (new_view g gs w p)) (copy_steps (FirstOf n) (suc n) c))
    (λ e. absurd (true≢false (sym e ∙ off)))
    (one_more (New (NextOf p) (new_view g gs w 4294967295)) (copy_steps (FirstOf n) (suc n) c))

-- the three cases of a node that is to be merged
module _ (l : Link) (n a x : ℕ) (f g : List ℕ) (fs gs : Path) (m w : Marks) (b s c t : ChainForest) where
  pub steps_new : frame_cmp g f ≡ Less → merge_steps l n (chain_node a f fs m b s) (chain_node x g gs w c t) ≡ New l (new_view g gs w a) ∷ copy_steps (FirstOf n) (suc n) c ++ merge_steps (NextOf n) (suc n + count_nodes c) (chain_node a f fs m b s) t
  steps_new e = rw e refl

  pub steps_pass : frame_cmp g f ≡ Greater → merge_steps l n (chain_node a f fs m b s) (chain_node x g gs w c t) ≡ merge_steps (NextOf a) n s (chain_node x g gs w c t)
  steps_pass e = rw e refl

  abbrev z : FrameSplit
  z = split_frames fs gs

  pub steps_same : frame_cmp g f ≡ Equal → merge_steps l n (chain_node a f fs m b s) (chain_node x g gs w c t)
      ≡ shared_step a z.own z.common (added_marks z w) m b ∷ merge_steps (FirstOf a) (cut_count z.own + n) (rest_over n z.own m b) (rest_over 0 z.other w c) ++ merge_steps (NextOf a) (cut_count z.own + n + new_nodes z.own b z.other c) s t
  steps_same e = whole e ∙ ap (λ ss. shared_step a z.own z.common (added_marks z w) m b ∷ ss ++ merge_steps (NextOf a) (cut_count z.own + n + new_nodes z.own b z.other c) s t) (steps_of_the_same_frame (FirstOf a) (cut_count z.own + n) n 0 z.own m b z.other w c (parted fs gs))
    where
      whole : frame_cmp g f ≡ Equal → merge_steps l n (chain_node a f fs m b s) (chain_node x g gs w c t)
          ≡ shared_step a z.own z.common (added_marks z w) m b ∷ side_steps (FirstOf a) (cut_count z.own + n) n z.own m b z.other w c ++ merge_steps (NextOf a) (cut_count z.own + n + new_nodes z.own b z.other c) s t
      whole e = rw e refl

-- so it is of how many nodes are new
by_three_counts : (r : Ordering) (s1 s2 s3 t1 t2 t3 : ℕ) → s1 ≡ t1 → (is_eq r ≡ true → s2 ≡ t2) → s3 ≡ t3 → by_order r s1 s2 s3 ≡ by_order r t1 t2 t3
by_three_counts Less s1 s2 s3 t1 t2 t3 a b c = a
by_three_counts Equal s1 s2 s3 t1 t2 t3 a b c = b refl
by_three_counts Greater s1 s2 s3 t1 t2 t3 a b c = c

pub new_nodes-none : (k : ChainForest) → new_nodes [] k [] no_chains ≡ 0
new_nodes-none no_chains = refl
new_nodes-none (chain_node a f fs m b s) = refl

pub new_nodes_rest : (p y : ℕ) (fs : Path) (m : Marks) (b : ChainForest) (gs : Path) (w : Marks) (c : ChainForest) → IsParted fs gs → new_nodes fs b gs c ≡ new_nodes [] (rest_over p fs m b) [] (rest_over y gs w c)
new_nodes_rest p y [] m no_chains [] w c off = refl
new_nodes_rest p y [] m no_chains (g ∷ gs) w c off = omega arith
new_nodes_rest p y [] m0 (chain_node a f fs m b s) [] w no_chains off = refl
new_nodes_rest p y [] m0 (chain_node a f fs m b s) [] w0 (chain_node x g gs w c t) off = refl
new_nodes_rest p y [] m0 (chain_node a f fs m b s) (g ∷ gs) w c off =
    by_three_counts (frame_cmp g f) _ _ _ _ _ _ (omega arith) (λ e. let none = new_nodes-none s in omega (arith, none)) (new_nodes_rest p y [] m0 s (g ∷ gs) w c tt)
new_nodes_rest p y (f ∷ fs) m b [] w0 no_chains off = refl
new_nodes_rest p y (f ∷ fs) m b [] w0 (chain_node x g gs w c t) off =
    by_three_counts (frame_cmp g f) _ _ _ _ _ _ (let rest = new_nodes_rest p y (f ∷ fs) m b [] w0 t tt in omega (arith, rest)) (λ e. refl) refl
new_nodes_rest p y (f ∷ fs) m b (g ∷ gs) w c off =
    by_three_counts (frame_cmp g f) _ _ _ _ _ _ (omega arith) (λ e. absurd (true≢false (sym e ∙ off))) (omega arith)
