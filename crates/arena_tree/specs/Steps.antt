-- The steps of a merge, and what they make of the nodes.
-- No clause of a public call cites this file: it says how a change is planned and done.
use Rattle.std.specs.Prelude.{◌≡◌, ℕ, zero, suc, ◌+◌, ◌<◌, cond, nat_eq, length, List, [], ◌∷◌, ◌++◌, slice_get, take}
use Rattle.rank_set.specs.Ranks.{Ranks, none, union, is_empty}
use Rattle.call_path.specs.Path.{Path}
use Rattle.prefix_tree.specs.Tree.{Marks}
use Rattle.prefix_tree.specs.Owned.{by_order}
use Rattle.arena_tree.specs.declared.node.Link.{Link}
use Rattle.arena_tree.specs.declared.node.Link.TheVariants.{FirstOf, NextOf}
use Rattle.arena_tree.specs.declared.node.ChangeStep.{ChangeStep}
use Rattle.arena_tree.specs.declared.node.ChangeStep.TheVariants.{Old, Cut, New}
use Rattle.arena_tree.specs.NodeViews.{NodeView}
use Rattle.arena_tree.specs.RowForest.{frame_cmp}
use Rattle.arena_tree.specs.RowMerge.{united_marks}
use Rattle.arena_tree.specs.ChainForest.{ChainForest, no_chains, chain_node, row_marks, count_nodes, split_frames, cut_count}
use Rattle.arena_tree.specs.ChainMerge.{added_marks, new_nodes}
use Rattle.arena_tree.specs.Placement.{no_place, first_place, count_place, AreNodesOf}
use Rattle.arena_tree.specs.Links.{LinkedNodes, with_change, relink, first_after}

-- a node with no child, before the node at a place
abbrev pub new_view : List ℕ → Path → Marks → ℕ → NodeView
new_view g gs w n = record { frames = g ∷ gs; label = w.0; ends = w.1; first = no_place; next = n }

-- what a step has for a set that gets the ranks of another: their union, or the other where that has no ranks
abbrev pub more_for : Ranks → Ranks → Ranks
more_for s t = cond (is_empty t) t (union s t)

-- a set after that
abbrev pub with_more : Ranks → Ranks → Ranks
with_more s more = cond (is_empty more) s more

-- a node with more marks
abbrev pub with_more_marks : Ranks → Ranks → NodeView → NodeView
with_more_marks l e c = record { frames = c.frames; label = with_more c.label l; ends = with_more c.ends e; first = c.first; next = c.next }

-- a node with the marks w united into those of the node c
abbrev pub with_united : Marks → NodeView → NodeView → NodeView
with_united w c = with_more_marks (more_for c.label w.0) (more_for c.ends w.1)

-- a node with its first frame and so many more, with other marks, above the node at a place
abbrev pub with_frames : ℕ → Ranks → Ranks → ℕ → NodeView → NodeView
with_frames more l e n c = record { frames = take (more + 1) c.frames; label = l; ends = e; first = n; next = c.next }

-- what a step makes of the nodes: more marks at a place; a node cut in two, whose lower part is a node more; or a node more that a link leads to
abbrev pub apply_step : LinkedNodes → ChangeStep → LinkedNodes
apply_step h (Old a l e) = record { first = h.first; nodes = with_change a (with_more_marks l e) h.nodes }
apply_step h (Cut a more l e x) = record { first = h.first; nodes = with_change a (with_frames more l e (length h.nodes)) h.nodes ++ x ∷ [] }
apply_step h (New k x) = record { first = first_after k (length h.nodes) h.first; nodes = relink k (length h.nodes) h.nodes ++ x ∷ [] }

-- what steps make of them
abbrev pub apply_steps : LinkedNodes → List ChangeStep → LinkedNodes
apply_steps h [] = h
apply_steps h (s ∷ ss) = apply_steps (apply_step h s) ss

-- how many nodes a step adds
abbrev pub nodes_added_by : ChangeStep → ℕ
nodes_added_by (Old a l e) = 0
nodes_added_by (Cut a more l e x) = 1
nodes_added_by (New k x) = 1

-- how many nodes steps add
abbrev pub nodes_added : List ChangeStep → ℕ
nodes_added [] = 0
nodes_added (s ∷ ss) = nodes_added_by s + nodes_added ss

-- how many rows a step adds
abbrev pub rows_added_by : ChangeStep → ℕ
rows_added_by (Old a l e) = 0
rows_added_by (Cut a more l e x) = 0
rows_added_by (New k x) = length x.frames

-- how many rows steps add
abbrev pub rows_added : List ChangeStep → ℕ
rows_added [] = 0
rows_added (s ∷ ss) = rows_added_by s + rows_added ss

-- the step of a node that gets the marks w besides, which is cut where frames of its own are left behind its first and the common ones
abbrev pub shared_step : ℕ → Path → Path → Marks → Marks → ChainForest → ChangeStep
shared_step a [] common w m b = Old a (more_for m.0 w.0) (more_for m.1 w.1)
shared_step a (g ∷ gs) common w m b = Cut a (length common) (united_marks (row_marks (g ∷ gs) m) w).0 (united_marks (row_marks (g ∷ gs) m) w).1 (record { frames = g ∷ gs; label = m.0; ends = m.1; first = first_place b; next = no_place })

-- what stands below a node then
abbrev pub rest_over : ℕ → Path → Marks → ChainForest → ChainForest
rest_over p [] m b = b
rest_over p (f ∷ fs) m b = chain_node p f fs m b no_chains

-- the steps of new nodes
abbrev pub copy_steps : Link → ℕ → ChainForest → List ChangeStep
copy_steps l n no_chains = []
copy_steps l n (chain_node x g gs w c t) = New l (new_view g gs w no_place) ∷ copy_steps (FirstOf n) (suc n) c ++ copy_steps (NextOf n) (suc n + count_nodes c) t

-- the steps of a merge into the nodes that a link leads to, where new nodes get the places from n on
abbrev pub side_steps : Link → ℕ → ℕ → Path → Marks → ChainForest → Path → Marks → ChainForest → List ChangeStep
side_steps l n p [] m no_chains [] w c = copy_steps l n c
side_steps l n p [] m no_chains (g ∷ gs) w c = New l (new_view g gs w no_place) ∷ copy_steps (FirstOf n) (suc n) c
side_steps l n p [] m0 (chain_node a f fs m b s) [] w no_chains = []
side_steps l n p [] m0 (chain_node a f fs m b s) [] w0 (chain_node x g gs w c t) =
    by_order (frame_cmp g f)
    (New l (new_view g gs w a) ∷ copy_steps (FirstOf n) (suc n) c ++ side_steps (NextOf n) (suc n + count_nodes c) 0 [] (none, none) (chain_node a f fs m b s) [] (none, none) t)
    (shared_step a (split_frames fs gs).own (split_frames fs gs).common (added_marks (split_frames fs gs) w) m b ∷
    side_steps (FirstOf a) (cut_count (split_frames fs gs).own + n) n (split_frames fs gs).own m b (split_frames fs gs).other w c
    ++ side_steps (NextOf a) (cut_count (split_frames fs gs).own + n + new_nodes (split_frames fs gs).own b (split_frames fs gs).other c) 0 [] (none, none) s [] (none, none) t)
    (side_steps (NextOf a) n 0 [] (none, none) s [] (none, none) (chain_node x g gs w c t))
side_steps l n p [] m0 (chain_node a f fs m b s) (g ∷ gs) w c =
    by_order (frame_cmp g f)
    (New l (new_view g gs w a) ∷ copy_steps (FirstOf n) (suc n) c)
    (shared_step a (split_frames fs gs).own (split_frames fs gs).common (added_marks (split_frames fs gs) w) m b ∷
    side_steps (FirstOf a) (cut_count (split_frames fs gs).own + n) n (split_frames fs gs).own m b (split_frames fs gs).other w c)
    (side_steps (NextOf a) n 0 [] (none, none) s (g ∷ gs) w c)
side_steps l n p (f ∷ fs) m b [] w0 no_chains = []
side_steps l n p (f ∷ fs) m b [] w0 (chain_node x g gs w c t) =
    by_order (frame_cmp g f)
    (New l (new_view g gs w p) ∷ copy_steps (FirstOf n) (suc n) c ++ side_steps (NextOf n) (suc n + count_nodes c) p (f ∷ fs) m b [] (none, none) t)
    (shared_step p (split_frames fs gs).own (split_frames fs gs).common (added_marks (split_frames fs gs) w) m b ∷
    side_steps (FirstOf p) (cut_count (split_frames fs gs).own + n) n (split_frames fs gs).own m b (split_frames fs gs).other w c
    ++ copy_steps (NextOf p) (cut_count (split_frames fs gs).own + n + new_nodes (split_frames fs gs).own b (split_frames fs gs).other c) t)
    (copy_steps (NextOf p) n (chain_node x g gs w c t))
side_steps l n p (f ∷ fs) m b (g ∷ gs) w c =
    by_order (frame_cmp g f)
    (New l (new_view g gs w p) ∷ copy_steps (FirstOf n) (suc n) c)
    []
    (New (NextOf p) (new_view g gs w no_place) ∷ copy_steps (FirstOf n) (suc n) c)

-- the steps of a merge of two forests
abbrev pub merge_steps : Link → ℕ → ChainForest → ChainForest → List ChangeStep
merge_steps l n t o = side_steps l n 0 [] (none, none) t [] (none, none) o

-- whether a place is among m places from n on
abbrev pub count_among : ℕ → ℕ → ℕ → ℕ
count_among y n zero = 0
count_among y n (suc m) = cond (nat_eq y n) 1 0 + count_among y (suc n) m

-- the nodes hold another forest, with so many nodes more, and all others are as they were, but for the link
pub record Becomes (l : Link) (k new : ChainForest) (m : ℕ) (h after : LinkedNodes) : Type 0 where
  pub nodes_hold : AreNodesOf after.nodes new
  pub count : length after.nodes ≡ length h.nodes + m
  pub rest : (y : ℕ) → y < length h.nodes → count_place y k ≡ 0 → slice_get after.nodes y ≡ slice_get (relink l (first_place new) h.nodes) y
  pub first : after.first ≡ first_after l (first_place new) h.first
  pub places : (y : ℕ) → count_place y new ≡ count_place y k + count_among y (length h.nodes) m
  pub size : count_nodes new ≡ count_nodes k + m
