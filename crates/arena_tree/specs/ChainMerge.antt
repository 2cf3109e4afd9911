-- Two forests of chains merged: the nodes of the first stay where they are, cut where they must be, and new ones get the places from n on.
use Rattle.std.specs.Prelude.{ℕ, suc, ◌+◌, [], ◌∷◌, length}
use Rattle.rank_set.specs.Ranks.{none}
use Rattle.call_path.specs.Path.{Path}
use Rattle.prefix_tree.specs.Tree.{Marks}
use Rattle.prefix_tree.specs.Owned.{by_order}
use Rattle.arena_tree.specs.RowForest.{frame_cmp}
use Rattle.arena_tree.specs.RowMerge.{united_marks}
use Rattle.arena_tree.specs.ChainForest.{ChainForest, no_chains, chain_node, row_marks, count_nodes, count_rows, FrameSplit, split_frames, cut_count, renumbered}

-- the marks that the last row that two chains share gets from the second
abbrev pub added_marks : FrameSplit → Marks → Marks
added_marks s w = row_marks s.other w

-- the marks that it has then
abbrev pub shared_marks : FrameSplit → Marks → Marks → Marks
shared_marks s m w = united_marks (row_marks s.own m) (added_marks s w)

-- how many nodes are new, among them those that are cut off. Each side is a forest, or, where it has frames, one chain over a forest.
abbrev pub new_nodes : Path → ChainForest → Path → ChainForest → ℕ
new_nodes [] no_chains [] c = count_nodes c
new_nodes [] no_chains (g ∷ gs) c = suc (count_nodes c)
new_nodes [] (chain_node a f fs m b s) [] no_chains = 0
new_nodes [] (chain_node a f fs m b s) [] (chain_node x g gs w c t) =
    by_order (frame_cmp g f)
    (suc (count_nodes c + new_nodes [] (chain_node a f fs m b s) [] t))
    (cut_count (split_frames fs gs).own + new_nodes (split_frames fs gs).own b (split_frames fs gs).other c + new_nodes [] s [] t)
    (new_nodes [] s [] (chain_node x g gs w c t))
new_nodes [] (chain_node a f fs m b s) (g ∷ gs) c =
    by_order (frame_cmp g f)
    (suc (count_nodes c))
    (cut_count (split_frames fs gs).own + new_nodes (split_frames fs gs).own b (split_frames fs gs).other c)
    (new_nodes [] s (g ∷ gs) c)
new_nodes (f ∷ fs) b [] no_chains = 0
new_nodes (f ∷ fs) b [] (chain_node x g gs w c t) =
    by_order (frame_cmp g f)
    (suc (count_nodes c + new_nodes (f ∷ fs) b [] t))
    (cut_count (split_frames fs gs).own + new_nodes (split_frames fs gs).own b (split_frames fs gs).other c + count_nodes t)
    (suc (count_nodes c + count_nodes t))
new_nodes (f ∷ fs) b (g ∷ gs) c = by_order (frame_cmp g f) (suc (count_nodes c)) 0 (suc (count_nodes c))

-- how many rows are new
abbrev pub new_rows : Path → ChainForest → Path → ChainForest → ℕ
new_rows [] no_chains [] c = count_rows c
new_rows [] no_chains (g ∷ gs) c = suc (length gs + count_rows c)
new_rows [] (chain_node a f fs m b s) [] no_chains = 0
new_rows [] (chain_node a f fs m b s) [] (chain_node x g gs w c t) =
    by_order (frame_cmp g f)
    (suc (length gs + count_rows c + new_rows [] (chain_node a f fs m b s) [] t))
    (new_rows (split_frames fs gs).own b (split_frames fs gs).other c + new_rows [] s [] t)
    (new_rows [] s [] (chain_node x g gs w c t))
new_rows [] (chain_node a f fs m b s) (g ∷ gs) c =
    by_order (frame_cmp g f)
    (suc (length gs + count_rows c))
    (new_rows (split_frames fs gs).own b (split_frames fs gs).other c)
    (new_rows [] s (g ∷ gs) c)
new_rows (f ∷ fs) b [] no_chains = 0
new_rows (f ∷ fs) b [] (chain_node x g gs w c t) =
    by_order (frame_cmp g f)
    (suc (length gs + count_rows c + new_rows (f ∷ fs) b [] t))
    (new_rows (split_frames fs gs).own b (split_frames fs gs).other c + count_rows t)
    (suc (length gs + (count_rows c + count_rows t)))
new_rows (f ∷ fs) b (g ∷ gs) c = by_order (frame_cmp g f) (suc (length gs + count_rows c)) 0 (suc (length gs + count_rows c))

-- both as one, where a chain of the first that has been cut off has the place p. Two chains are met only where their first frames differ.
abbrev pub merge_sides : ℕ → ℕ → Path → Marks → ChainForest → Path → Marks → ChainForest → ChainForest
merge_sides n p [] m no_chains [] w c = renumbered n c
merge_sides n p [] m no_chains (g ∷ gs) w c = chain_node n g gs w (renumbered (suc n) c) no_chains
merge_sides n p [] m0 (chain_node a f fs m b s) [] w no_chains = chain_node a f fs m b s
merge_sides n p [] m0 (chain_node a f fs m b s) [] w0 (chain_node x g gs w c t) =
    by_order (frame_cmp g f)
    (chain_node n g gs w (renumbered (suc n) c) (merge_sides (suc n + count_nodes c) 0 [] (none, none) (chain_node a f fs m b s) [] (none, none) t))
    (chain_node a f (split_frames fs gs).common (shared_marks (split_frames fs gs) m w)
    (merge_sides (cut_count (split_frames fs gs).own + n) n (split_frames fs gs).own m b (split_frames fs gs).other w c)
    (merge_sides (cut_count (split_frames fs gs).own + n + new_nodes (split_frames fs gs).own b (split_frames fs gs).other c) 0 [] (none, none) s [] (none, none) t))
    (chain_node a f fs m b (merge_sides n 0 [] (none, none) s [] (none, none) (chain_node x g gs w c t)))
merge_sides n p [] m0 (chain_node a f fs m b s) (g ∷ gs) w c =
    by_order (frame_cmp g f)
    (chain_node n g gs w (renumbered (suc n) c) (chain_node a f fs m b s))
    (chain_node a f (split_frames fs gs).common (shared_marks (split_frames fs gs) m w)
    (merge_sides (cut_count (split_frames fs gs).own + n) n (split_frames fs gs).own m b (split_frames fs gs).other w c)
    s)
    (chain_node a f fs m b (merge_sides n 0 [] (none, none) s (g ∷ gs) w c))
merge_sides n p (f ∷ fs) m b [] w0 no_chains = chain_node p f fs m b no_chains
merge_sides n p (f ∷ fs) m b [] w0 (chain_node x g gs w c t) =
    by_order (frame_cmp g f)
    (chain_node n g gs w (renumbered (suc n) c) (merge_sides (suc n + count_nodes c) p (f ∷ fs) m b [] (none, none) t))
    (chain_node p f (split_frames fs gs).common (shared_marks (split_frames fs gs) m w)
    (merge_sides (cut_count (split_frames fs gs).own + n) n (split_frames fs gs).own m b (split_frames fs gs).other w c)
    (renumbered (cut_count (split_frames fs gs).own + n + new_nodes (split_frames fs gs).own b (split_frames fs gs).other c) t))
    (chain_node p f fs m b (chain_node n g gs w (renumbered (suc n) c) (renumbered (suc n + count_nodes c) t)))
merge_sides n p (f ∷ fs) m b (g ∷ gs) w c =
    by_order (frame_cmp g f)
    (chain_node n g gs w (renumbered (suc n) c) (chain_node p f fs m b no_chains))
    no_chains
    (chain_node p f fs m b (chain_node n g gs w (renumbered (suc n) c) no_chains))

-- two forests of chains as one
abbrev pub merge_chains : ℕ → ChainForest → ChainForest → ChainForest
merge_chains n t o = merge_sides n 0 [] (none, none) t [] (none, none) o
