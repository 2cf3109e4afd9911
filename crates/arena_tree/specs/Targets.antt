-- Where a chain of frames is merged.
-- No clause of a public call cites this file: it says how a change is planned and done.
use Rattle.std.specs.Prelude.{◌≡◌, ℕ, zero, suc, ◌<◌, ◌≤◌, List, length, drop, Option, Some, None, slice_get}
use Rattle.call_path.specs.Path.{Path}
use Rattle.prefix_tree.specs.Tree.{Marks}
use Rattle.arena_tree.specs.declared.node.Link.TheVariants.{NextOf}
use Rattle.arena_tree.specs.declared.target.MergeTarget.{MergeTarget}
use Rattle.arena_tree.specs.NodeViews.{NodeView}
use Rattle.arena_tree.specs.Placement.{no_place}
use Rattle.arena_tree.specs.ChainForest.{ChainForest, no_chains, chain_node}
use Rattle.arena_tree.specs.Steps.{merge_steps}
use Rattle.arena_tree.specs.Reading.{chain_of, forest_at, LeadsToForest}

-- what a node has behind its first frames, as one node at a place
abbrev pub rest_of : List NodeView → ℕ → ℕ → Option NodeView → ChainForest
rest_of cs place skip None = no_chains
rest_of cs place skip (Some c) = chain_of place (drop skip c.frames) (c.label, c.ends) (forest_at cs c.first) no_chains

-- the nodes from a node on, or what that node has behind its first frames
abbrev pub forest_behind : List NodeView → ℕ → ℕ → ℕ → ChainForest
forest_behind cs node place zero = forest_at cs node
forest_behind cs node place (suc i) = rest_of cs place (suc i) (slice_get cs node)

-- the forest of a target
abbrev pub target_forest : List NodeView → MergeTarget → ChainForest
target_forest cs t = forest_behind cs t.node t.place t.skip

-- the node begins a forest; or it is there, and has frames behind the first ones
abbrev pub LeadsBehind : List NodeView → ℕ → ℕ → ℕ → Type 0
LeadsBehind cs node place zero = LeadsToForest cs node × (place ≡ node)
LeadsBehind cs node place (suc i) =
    (c : NodeView) × (slice_get cs node ≡ Some c) × (suc i < length c.frames) × LeadsToForest cs c.first × (length cs ≤ 4096)

-- a target that can be read
abbrev pub IsTarget : List NodeView → MergeTarget → Type 0
IsTarget cs t = LeadsBehind cs t.node t.place t.skip

-- the next sibling, which a part of a node has not
abbrev pub next_of : ℕ → ℕ → ℕ
next_of zero next = next
next_of (suc i) next = no_place

-- what follows the first node of a target, whose next sibling is given
pub record IsAfter (t : MergeTarget) (next : ℕ) (after : MergeTarget) : Type 0 where
  pub link : after.link ≡ NextOf t.place
  pub node : after.node ≡ next_of t.skip next
  pub skip : after.skip ≡ 0
  pub place : after.place ≡ next_of t.skip next

-- merging a chain that begins with the frame into the new target takes the same steps as merging it into the old one
abbrev pub SkipsSiblings : List NodeView → List ℕ → MergeTarget → MergeTarget → Type 0
SkipsSiblings cs frame old new = (n x : ℕ) (gs : Path) (w : Marks) (c t : ChainForest)
    → merge_steps old.link n (target_forest cs old) (chain_node x frame gs w c t)
    ≡ merge_steps new.link n (target_forest cs new) (chain_node x frame gs w c t)
