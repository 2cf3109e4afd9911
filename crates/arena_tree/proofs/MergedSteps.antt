-- The steps of a merge make the merged forest.
use Rattle.std.proofs.Common.{◌≡◌, ℕ, suc, ◌+◌, true, true≢false, List, [], ◌∷◌, ◌++◌, length, refl, sym, ap, ◌∙◌, subst, arith, append-nil}
use Rattle.std.specs.declared.cmp.Ordering.{Ordering}
use Rattle.std.specs.declared.cmp.Ordering.TheVariants.{Less, Equal, Greater}
use Rattle.std.specs.Ordering.{is_eq}
use Rattle.rank_set.specs.Ranks.{none}
use Rattle.call_path.specs.Path.{Path}
use Rattle.prefix_tree.specs.Tree.{Marks}
use Rattle.prefix_tree.specs.Owned.{by_order}
use Rattle.arena_tree.specs.declared.node.Link.{Link}
use Rattle.arena_tree.specs.declared.node.Link.TheVariants.{Top, FirstOf, NextOf}
use Rattle.arena_tree.specs.declared.node.ChangeStep.{ChangeStep}
use Rattle.arena_tree.specs.declared.node.ChangeStep.TheVariants.{New}
use Rattle.arena_tree.specs.RowForest.{frame_cmp}
use Rattle.arena_tree.specs.ChainForest.{ChainForest, no_chains, chain_node, count_nodes, FrameSplit, no_common, with_common, split_frames, cut_count, renumbered}
use Rattle.arena_tree.specs.ChainMerge.{added_marks, shared_marks, new_nodes, merge_sides, merge_chains}
use Rattle.arena_tree.specs.Placement.{first_place, HasDistinctPlaces, AreNodesOf}
use Rattle.arena_tree.specs.Links.{LinkedNodes, LeadsTo, IsOutside}
use Rattle.arena_tree.specs.Steps.{new_view, apply_step, apply_steps, shared_step, rest_over, copy_steps, side_steps, Becomes}
use Rattle.arena_tree.proofs.MergingChains.{IsParted, parted}
use Rattle.arena_tree.proofs.Cases.{Premises, nothing_new, new_case, node_shared, same_case, pass_case}

-- steps in a row
pub apply_steps-append : (h : LinkedNodes) (ss ts : List ChangeStep) → apply_steps h (ss ++ ts) ≡ apply_steps (apply_steps h ss) ts
apply_steps-append h [] ts = refl
apply_steps-append h (s ∷ ss) ts = apply_steps-append (apply_step h s) ss ts

outside_none : (l : Link) → IsOutside l no_chains
outside_none Top = tt
outside_none (FirstOf a) = refl
outside_none (NextOf a) = refl

-- new nodes
pub copies_made : (l : Link) (n : ℕ) (c : ChainForest) (h : LinkedNodes) → Premises l n no_chains h (Becomes l no_chains (renumbered n c) (count_nodes c) h (apply_steps h (copy_steps l n c)))
copies_made l n no_chains h len nodes_hold no_common off to = nothing_new l no_chains h nodes_hold to
copies_made l n (chain_node x g gs w c t) h len nodes_hold no_common off to =
    let h1 : LinkedNodes = apply_step h (New l (new_view g gs w 4294967295)) in
    let h2 : LinkedNodes = apply_steps h1 (copy_steps (FirstOf n) (suc n) c) in
    subst (Becomes l no_chains (renumbered n (chain_node x g gs w c t)) (suc (count_nodes c + count_nodes t)) h)
    (sym (apply_steps-append h1 (copy_steps (FirstOf n) (suc n) c) (copy_steps (NextOf n) (suc n + count_nodes c) t)))
    (new_case l n g gs w no_chains (renumbered (suc n) c) (renumbered (suc n + count_nodes c) t) (count_nodes c) (count_nodes t) h h2 (apply_steps h2 (copy_steps (NextOf n) (suc n + count_nodes c) t)) len nodes_hold no_common off
    (copies_made (FirstOf n) (suc n) c h1)
    (copies_made (NextOf n) (suc n + count_nodes c) t h2))

-- one new node with those below it, before others
one_new : (l : Link) (n : ℕ) (g : List ℕ) (gs : Path) (w : Marks) (c k : ChainForest) (h : LinkedNodes) → Premises l n k h (Becomes l k (chain_node n g gs w (renumbered (suc n) c) k) (suc (count_nodes c)) h (apply_steps h (New l (new_view g gs w (first_place k)) ∷ copy_steps (FirstOf n) (suc n) c)))
one_new l n g gs w c k h len nodes_hold no_common off to =
    let h1 : LinkedNodes = apply_step h (New l (new_view g gs w (first_place k))) in
    let h2 : LinkedNodes = apply_steps h1 (copy_steps (FirstOf n) (suc n) c) in
    let no_more : suc (count_nodes c + 0) ≡ suc (count_nodes c) = omega arith in
    subst (λ m. Becomes l k (chain_node n g gs w (renumbered (suc n) c) k) m h h2) no_more
    (new_case l n g gs w k (renumbered (suc n) c) k (count_nodes c) 0 h h2 h2 len nodes_hold no_common off
    (copies_made (FirstOf n) (suc n) c h1)
    (λ len2 lies2 apart2 off2 to2. nothing_new (NextOf n) k h2 lies2 to2))

-- the frames that both have, and those that one has behind them
pub split_own : (fs gs : Path) → fs ≡ (split_frames fs gs).common ++ (split_frames fs gs).own
split_own [] gs = refl
split_own (f ∷ fs) [] = refl
split_own (f ∷ fs) (g ∷ gs) =
    let inner = split_own fs gs in
    elim (frame_cmp g f) as (λ r. f ∷ fs ≡ (by_order r (no_common (f ∷ fs) (g ∷ gs)) (with_common f (split_frames fs gs)) (no_common (f ∷ fs) (g ∷ gs))).common
    ++ (by_order r (no_common (f ∷ fs) (g ∷ gs)) (with_common f (split_frames fs gs)) (no_common (f ∷ fs) (g ∷ gs))).own) [
      | Less ↦ refl
      | Equal ↦ ap (λ (p : Path). f ∷ p) inner
      | Greater ↦ refl
    ]

by_three : (l : Link) (k : ChainForest) (h : LinkedNodes) (r : Ordering) (t1 t2 t3 : ChainForest) (m1 m2 m3 : ℕ) (s1 s2 s3 : List ChangeStep)
    → Becomes l k t1 m1 h (apply_steps h s1) → (is_eq r ≡ true → Becomes l k t2 m2 h (apply_steps h s2)) → Becomes l k t3 m3 h (apply_steps h s3)
    → Becomes l k (by_order r t1 t2 t3) (by_order r m1 m2 m3) h (apply_steps h (by_order r s1 s2 s3))
by_three l k h Less t1 t2 t3 m1 m2 m3 s1 s2 s3 a b c = a
by_three l k h Equal t1 t2 t3 m1 m2 m3 s1 s2 s3 a b c = b refl
by_three l k h Greater t1 t2 t3 m1 m2 m3 s1 s2 s3 a b c = c

-- the steps of a node that begins with the same frame, of those below it, and of its later siblings
met : (l : Link) (n a : ℕ) (f : List ℕ) (fs gs : Path) (m w : Marks) (b c s s' : ChainForest) (ms : ℕ) (later : List ChangeStep) (h : LinkedNodes)
    → Premises (FirstOf a) (cut_count (split_frames fs gs).own + n) (rest_over n (split_frames fs gs).own m b) (apply_step h (shared_step a (split_frames fs gs).own (split_frames fs gs).common (added_marks (split_frames fs gs) w) m b))
    (Becomes (FirstOf a) (rest_over n (split_frames fs gs).own m b) (merge_sides (cut_count (split_frames fs gs).own + n) n (split_frames fs gs).own m b (split_frames fs gs).other w c) (new_nodes (split_frames fs gs).own b (split_frames fs gs).other c)
    (apply_step h (shared_step a (split_frames fs gs).own (split_frames fs gs).common (added_marks (split_frames fs gs) w) m b))
    (apply_steps (apply_step h (shared_step a (split_frames fs gs).own (split_frames fs gs).common (added_marks (split_frames fs gs) w) m b)) (side_steps (FirstOf a) (cut_count (split_frames fs gs).own + n) n (split_frames fs gs).own m b (split_frames fs gs).other w c)))
    → ((h2 : LinkedNodes) → Premises (NextOf a) (cut_count (split_frames fs gs).own + n + new_nodes (split_frames fs gs).own b (split_frames fs gs).other c) s h2 (Becomes (NextOf a) s s' ms h2 (apply_steps h2 later)))
    → length h.nodes ≡ n → AreNodesOf h.nodes (chain_node a f fs m b s) → HasDistinctPlaces (chain_node a f fs m b s) → LeadsTo l h a
    → Becomes l (chain_node a f fs m b s) (chain_node a f (split_frames fs gs).common (shared_marks (split_frames fs gs) m w) (merge_sides (cut_count (split_frames fs gs).own + n) n (split_frames fs gs).own m b (split_frames fs gs).other w c) s')
    (cut_count (split_frames fs gs).own + new_nodes (split_frames fs gs).own b (split_frames fs gs).other c + ms) h
    (apply_steps h (shared_step a (split_frames fs gs).own (split_frames fs gs).common (added_marks (split_frames fs gs) w) m b ∷ side_steps (FirstOf a) (cut_count (split_frames fs gs).own + n) n (split_frames fs gs).own m b (split_frames fs gs).other w c ++ later))
met l n a f fs gs m w b c s s' ms later h ih_b ih_s len nodes_hold no_common to =
    let z : FrameSplit = split_frames fs gs in
    let h1 : LinkedNodes = apply_step h (shared_step a z.own z.common (added_marks z w) m b) in
    let below : List ChangeStep = side_steps (FirstOf a) (cut_count z.own + n) n z.own m b z.other w c in
    let h2 : LinkedNodes = apply_steps h1 below in
    subst (Becomes l (chain_node a f fs m b s) (chain_node a f z.common (shared_marks z m w) (merge_sides (cut_count z.own + n) n z.own m b z.other w c) s') (cut_count z.own + new_nodes z.own b z.other c + ms) h)
    (sym (apply_steps-append h1 below later))
    (same_case l n a f fs z.common m (shared_marks z m w) b s (rest_over n z.own m b) (merge_sides (cut_count z.own + n) n z.own m b z.other w c) s' (cut_count z.own) (new_nodes z.own b z.other c) ms h h1 h2 (apply_steps h2 later) len nodes_hold no_common
    (node_shared n a f fs z.common (added_marks z w) m b s h len nodes_hold no_common z.own (split_own fs gs))
    ih_b
    to
    (ih_s h2))

pub sides_merged : (l : Link) (n p : ℕ) (fs : Path) (m : Marks) (b : ChainForest) (gs : Path) (w : Marks) (c : ChainForest) (h : LinkedNodes) → IsParted fs gs
    → Premises l n (rest_over p fs m b) h (Becomes l (rest_over p fs m b) (merge_sides n p fs m b gs w c) (new_nodes fs b gs c) h (apply_steps h (side_steps l n p fs m b gs w c)))
sides_merged l n p [] m no_chains [] w c h parting len nodes_hold no_common off to = copies_made l n c h len nodes_hold no_common off to
sides_merged l n p [] m no_chains (g ∷ gs) w c h parting len nodes_hold no_common off to = one_new l n g gs w c no_chains h len nodes_hold no_common off to
sides_merged l n p [] m0 (chain_node a f fs m b s) [] w no_chains h parting len nodes_hold no_common off to = nothing_new l (chain_node a f fs m b s) h nodes_hold to
sides_merged l n p [] m0 (chain_node a f fs m b s) [] w0 (chain_node x g gs w c t) h parting len nodes_hold no_common off to =
    let h1 : LinkedNodes = apply_step h (New l (new_view g gs w a)) in
    let h2 : LinkedNodes = apply_steps h1 (copy_steps (FirstOf n) (suc n) c) in
    let z : FrameSplit = split_frames fs gs in
    let g1 : LinkedNodes = apply_step h (shared_step a z.own z.common (added_marks z w) m b) in
    by_three l (chain_node a f fs m b s) h (frame_cmp g f) _ _ _ _ _ _ _ _ _
    (subst (Becomes l (chain_node a f fs m b s) (chain_node n g gs w (renumbered (suc n) c) (merge_sides (suc n + count_nodes c) 0 [] (none, none) (chain_node a f fs m b s) [] (none, none) t)) (suc (count_nodes c + new_nodes [] (chain_node a f fs m b s) [] t)) h)
    (sym (apply_steps-append h1 (copy_steps (FirstOf n) (suc n) c) (side_steps (NextOf n) (suc n + count_nodes c) 0 [] (none, none) (chain_node a f fs m b s) [] (none, none) t)))
    (new_case l n g gs w (chain_node a f fs m b s) (renumbered (suc n) c) (merge_sides (suc n + count_nodes c) 0 [] (none, none) (chain_node a f fs m b s) [] (none, none) t) (count_nodes c) (new_nodes [] (chain_node a f fs m b s) [] t) h h2
    (apply_steps h2 (side_steps (NextOf n) (suc n + count_nodes c) 0 [] (none, none) (chain_node a f fs m b s) [] (none, none) t)) len nodes_hold no_common off
    (copies_made (FirstOf n) (suc n) c h1)
    (sides_merged (NextOf n) (suc n + count_nodes c) 0 [] (none, none) (chain_node a f fs m b s) [] (none, none) t h2 tt)))
    (λ e. met l n a f fs gs m w b c s (merge_sides (cut_count z.own + n + new_nodes z.own b z.other c) 0 [] (none, none) s [] (none, none) t) (new_nodes [] s [] t) (side_steps (NextOf a) (cut_count z.own + n + new_nodes z.own b z.other c) 0 [] (none, none) s [] (none, none) t) h
    (sides_merged (FirstOf a) (cut_count z.own + n) n z.own m b z.other w c g1 (parted fs gs))
    (λ h2. sides_merged (NextOf a) (cut_count z.own + n + new_nodes z.own b z.other c) 0 [] (none, none) s [] (none, none) t h2 tt)
    len nodes_hold no_common to)
    (pass_case l n a f fs m b s (merge_sides n 0 [] (none, none) s [] (none, none) (chain_node x g gs w c t)) (new_nodes [] s [] (chain_node x g gs w c t)) h (apply_steps h (side_steps (NextOf a) n 0 [] (none, none) s [] (none, none) (chain_node x g gs w c t))) len nodes_hold no_common to
    (sides_merged (NextOf a) n 0 [] (none, none) s [] (none, none) (chain_node x g gs w c t) h tt))
sides_merged l n p [] m0 (chain_node a f fs m b s) (g ∷ gs) w c h parting len nodes_hold no_common off to =
    let z : FrameSplit = split_frames fs gs in
    let g1 : LinkedNodes = apply_step h (shared_step a z.own z.common (added_marks z w) m b) in
    let below : List ChangeStep = side_steps (FirstOf a) (cut_count z.own + n) n z.own m b z.other w c in
    let no_more : cut_count z.own + new_nodes z.own b z.other c + 0 ≡ cut_count z.own + new_nodes z.own b z.other c = omega arith in
    by_three l (chain_node a f fs m b s) h (frame_cmp g f) _ _ _ _ _ _ _ _ _
    (one_new l n g gs w c (chain_node a f fs m b s) h len nodes_hold no_common off to)
    (λ e. subst (λ k. Becomes l (chain_node a f fs m b s) (chain_node a f z.common (shared_marks z m w) (merge_sides (cut_count z.own + n) n z.own m b z.other w c) s) k h (apply_steps g1 below)) no_more
    (subst (λ (ss : List ChangeStep). Becomes l (chain_node a f fs m b s) (chain_node a f z.common (shared_marks z m w) (merge_sides (cut_count z.own + n) n z.own m b z.other w c) s) (cut_count z.own + new_nodes z.own b z.other c + 0) h (apply_steps g1 ss)) (append-nil below)
    (met l n a f fs gs m w b c s s 0 [] h
    (sides_merged (FirstOf a) (cut_count z.own + n) n z.own m b z.other w c g1 (parted fs gs))
    (λ h2 len2 lies2 apart2 off2 to2. nothing_new (NextOf a) s h2 lies2 to2)
    len nodes_hold no_common to)))
    (pass_case l n a f fs m b s (merge_sides n 0 [] (none, none) s (g ∷ gs) w c) (new_nodes [] s (g ∷ gs) c) h (apply_steps h (side_steps (NextOf a) n 0 [] (none, none) s (g ∷ gs) w c)) len nodes_hold no_common to
    (sides_merged (NextOf a) n 0 [] (none, none) s (g ∷ gs) w c h tt))
sides_merged l n p (f ∷ fs) m b [] w0 no_chains h parting len nodes_hold no_common off to = nothing_new l (chain_node p f fs m b no_chains) h nodes_hold to
sides_merged l n p (f ∷ fs) m b [] w0 (chain_node x g gs w c t) h parting len nodes_hold no_common off to =
    let h1 : LinkedNodes = apply_step h (New l (new_view g gs w p)) in
    let h2 : LinkedNodes = apply_steps h1 (copy_steps (FirstOf n) (suc n) c) in
    let z : FrameSplit = split_frames fs gs in
    let g1 : LinkedNodes = apply_step h (shared_step p z.own z.common (added_marks z w) m b) in
    by_three l (chain_node p f fs m b no_chains) h (frame_cmp g f) _ _ _ _ _ _ _ _ _
    (subst (Becomes l (chain_node p f fs m b no_chains) (chain_node n g gs w (renumbered (suc n) c) (merge_sides (suc n + count_nodes c) p (f ∷ fs) m b [] (none, none) t)) (suc (count_nodes c + new_nodes (f ∷ fs) b [] t)) h)
    (sym (apply_steps-append h1 (copy_steps (FirstOf n) (suc n) c) (side_steps (NextOf n) (suc n + count_nodes c) p (f ∷ fs) m b [] (none, none) t)))
    (new_case l n g gs w (chain_node p f fs m b no_chains) (renumbered (suc n) c) (merge_sides (suc n + count_nodes c) p (f ∷ fs) m b [] (none, none) t) (count_nodes c) (new_nodes (f ∷ fs) b [] t) h h2
    (apply_steps h2 (side_steps (NextOf n) (suc n + count_nodes c) p (f ∷ fs) m b [] (none, none) t)) len nodes_hold no_common off
    (copies_made (FirstOf n) (suc n) c h1)
    (sides_merged (NextOf n) (suc n + count_nodes c) p (f ∷ fs) m b [] (none, none) t h2 tt)))
    (λ e. met l n p f fs gs m w b c no_chains (renumbered (cut_count z.own + n + new_nodes z.own b z.other c) t) (count_nodes t) (copy_steps (NextOf p) (cut_count z.own + n + new_nodes z.own b z.other c) t) h
    (sides_merged (FirstOf p) (cut_count z.own + n) n z.own m b z.other w c g1 (parted fs gs))
    (λ h2. copies_made (NextOf p) (cut_count z.own + n + new_nodes z.own b z.other c) t h2)
    len nodes_hold no_common to)
    (pass_case l n p f fs m b no_chains (renumbered n (chain_node x g gs w c t)) (count_nodes (chain_node x g gs w c t)) h (apply_steps h (copy_steps (NextOf p) n (chain_node x g gs w c t))) len nodes_hold no_common to
    (copies_made (NextOf p) n (chain_node x g gs w c t) h))
sides_merged l n p (f ∷ fs) m b (g ∷ gs) w c h parting len nodes_hold no_common off to =
    by_three l (chain_node p f fs m b no_chains) h (frame_cmp g f) _ _ _ _ _ _ _ _ _
    (one_new l n g gs w c (chain_node p f fs m b no_chains) h len nodes_hold no_common off to)
    (λ e. absurd (true≢false (sym e ∙ parting)))
    (pass_case l n p f fs m b no_chains (chain_node n g gs w (renumbered (suc n) c) no_chains) (suc (count_nodes c)) h (apply_steps h (New (NextOf p) (new_view g gs w 4294967295) ∷ copy_steps (FirstOf n) (suc n) c)) len nodes_hold no_common to
    (one_new (NextOf p) n g gs w c no_chains h))

pub merge_done : (l : Link) (n : ℕ) (t o : ChainForest) (h : LinkedNodes) → length h.nodes ≡ n → AreNodesOf h.nodes t → HasDistinctPlaces t → IsOutside l t → LeadsTo l h (first_place t) → Becomes l t (merge_chains n t o) (new_nodes [] t [] o) h (apply_steps h (side_steps l n 0 [] (none, none) t [] (none, none) o))
merge_done l n t o h len nodes_hold no_common off to = sides_merged l n 0 [] (none, none) t [] (none, none) o h tt len nodes_hold no_common off to
