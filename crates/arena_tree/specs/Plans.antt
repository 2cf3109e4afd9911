-- Steps that are planned, and what it means that they plan a chain.
-- No clause of a public call cites this file: it says how a change is planned and done.
use Rattle.std.specs.Prelude.{◌≡◌, ℕ, ◌+◌, ◌-◌, ◌≤◌, List, [], ◌∷◌, ◌++◌, length, drop, Some, slice_get}
use Rattle.std.specs.declared.cmp.Ordering.TheVariants.{Equal}
use Rattle.rank_set.specs.Ranks.{union}
use Rattle.call_path.specs.Path.{Path}
use Rattle.prefix_tree.specs.Tree.{Marks}
use Rattle.arena_tree.specs.declared.node.Link.TheVariants.{FirstOf}
use Rattle.arena_tree.specs.declared.node.ChangeStep.{ChangeStep}
use Rattle.arena_tree.specs.declared.node.ChangeStep.TheVariants.{Old, Cut}
use Rattle.arena_tree.specs.declared.target.MergeTarget.{MergeTarget}
use Rattle.arena_tree.specs.NodeViews.{NodeView, view_of, view_behind}
use Rattle.arena_tree.specs.Placement.{no_place}
use Rattle.arena_tree.specs.RowMerge.{united_marks}
use Rattle.arena_tree.specs.ChainForest.{ChainForest, row_marks}
use Rattle.arena_tree.specs.ChainMerge.{new_nodes}
use Rattle.arena_tree.specs.Steps.{more_for, nodes_added_by, nodes_added, rows_added_by, rows_added, rest_over, merge_steps}
use Rattle.arena_tree.specs.Reading.{chain_of, frame_side}
use Rattle.arena_tree.specs.Targets.{target_forest, IsTarget}

-- how many nodes there are before the steps, and the steps
pub record PlanView : Type 0 where
  pub base : ℕ
  pub steps : List ChangeStep

-- with more steps
abbrev pub plan_with : PlanView → List ChangeStep → PlanView
plan_with p ss = record { base = p.base; steps = p.steps ++ ss }

-- the place that the next new node gets
abbrev pub next_place : PlanView → ℕ
next_place p = p.base + nodes_added p.steps

-- so many nodes and rows more can be counted
pub record HasRoom (p : PlanView) (k : ℕ) : Type 0 where
  pub places : next_place p + k ≤ 8192
  pub rows : rows_added p.steps + k ≤ 8192

-- the step of a node that keeps its first frame and so many more and gets the marks w besides, where its lower frames, if it has any, go to a new node with the old marks
abbrev pub step_at : ℕ → ℕ → Path → Marks → Marks → ℕ → ChangeStep
step_at a more [] w m first = Old a (more_for m.0 w.0) (more_for m.1 w.1)
step_at a more (g ∷ gs) w m first = Cut a more (united_marks (row_marks (g ∷ gs) m) w).0 (united_marks (row_marks (g ∷ gs) m) w).1 (view_of (g ∷ gs) m first no_place)

-- the step of the node c of a target, which keeps so many of the target's frames and gets the marks w besides
abbrev pub share_step : MergeTarget → ℕ → Marks → NodeView → ChangeStep
share_step into shared w c =
    step_at into.place (shared - 1) (drop (into.skip + shared) c.frames) w (c.label, c.ends) c.first

-- the same where it has more frames
abbrev pub cut_step : MergeTarget → ℕ → Marks → NodeView → ChangeStep
cut_step into shared w c =
    Cut into.place (shared - 1) (union c.label w.0) w.1 (view_behind (into.skip + shared) c.first no_place c)

-- the target below a node then
abbrev pub target_below : MergeTarget → Path → ℕ → ℕ → ℕ → MergeTarget
target_below into [] kept place first = record { link = FirstOf into.place; node = first; skip = 0; place = first }
target_below into (g ∷ gs) kept place first = record { link = FirstOf into.place; node = into.node; skip = kept; place = place }

-- the target begins with that frame of a path
pub record BeginsAt (cs : List NodeView) (into : MergeTarget) (p : Path) (skip : ℕ) : Type 0 where
  pub frame : List ℕ
  pub is : slice_get p skip ≡ Some frame
  pub side : frame_side frame (target_forest cs into) ≡ Equal

-- one step plans the first frames of a chain; then come those of the frames behind them, in the target below, and then those of the chain's siblings
pub record SharesChain (cs : List NodeView) (into rest below : MergeTarget) (fs gs : Path) (w : Marks) (old new : PlanView) : Type 0 where
  pub step : ChangeStep
  pub plan : new ≡ plan_with old (step ∷ [])
  pub rest_leads : IsTarget cs rest
  pub below_leads : IsTarget cs below
  pub places : nodes_added_by step ≤ 1
  pub rows : rows_added_by step ≡ 0
  pub steps_split : (x : ℕ) (c t : ChainForest) → merge_steps into.link (next_place old) (target_forest cs into) (chain_of x fs w c t)
      ≡ step ∷ merge_steps below.link (next_place old + nodes_added_by step) (target_forest cs below) (rest_over 0 gs w c)
      ++ merge_steps rest.link (next_place old + nodes_added_by step + new_nodes [] (target_forest cs below) [] (rest_over 0 gs w c)) (target_forest cs rest) t

-- steps plan a chain; then come those of the nodes below it, and then those of its siblings
pub record PlansChain (cs : List NodeView) (into rest below : MergeTarget) (fs : Path) (w : Marks) (old new : PlanView) : Type 0 where
  pub steps : List ChangeStep
  pub plan : new ≡ plan_with old steps
  pub rest_leads : IsTarget cs rest
  pub below_leads : IsTarget cs below
  pub places : nodes_added steps ≤ length fs
  pub rows : rows_added steps ≤ length fs
  pub steps_split : (x : ℕ) (c t : ChainForest) → merge_steps into.link (next_place old) (target_forest cs into) (chain_of x fs w c t)
      ≡ steps ++ merge_steps below.link (next_place old + nodes_added steps) (target_forest cs below) c
      ++ merge_steps rest.link (next_place old + nodes_added steps + new_nodes [] (target_forest cs below) [] c) (target_forest cs rest) t
