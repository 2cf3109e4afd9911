-- Hints of where a frame may be looked for among siblings.
-- No clause of a public call cites this file: it says how a change is planned and done.
use Rattle.std.specs.Prelude.{◌≡◌, ◌≢◌, ◌⊎◌, ℕ, All, List, Some, slice_get}
use Rattle.std.specs.declared.cmp.Ordering.TheVariants.{Less, Equal}
use Rattle.arena_tree.specs.declared.target.MergeTarget.{MergeTarget}
use Rattle.arena_tree.specs.declared.trail.Hint.{Hint}
use Rattle.arena_tree.specs.declared.trail.Search.{Search}
use Rattle.arena_tree.specs.NodeViews.{NodeView}
use Rattle.arena_tree.specs.Placement.{no_place}
use Rattle.arena_tree.specs.ChainForest.{ChainForest, no_chains, chain_node, HasIncreasingChains}
use Rattle.arena_tree.specs.Reading.{forest_at, LeadsToForest, frame_side}
use Rattle.arena_tree.specs.Targets.{target_forest}

-- a place is that of the first node of a forest or of one of its siblings
abbrev pub IsAmong : ℕ → ChainForest → Type 0
IsAmong t no_chains = ⊥
IsAmong t (chain_node a f fs m b s) = (t ≡ a) ⊎ IsAmong t s

-- somewhere in a forest there are a node and a later sibling of it, or that node itself
abbrev pub IsLaterSibling : ChainForest → ℕ → ℕ → Type 0
IsLaterSibling no_chains x t = ⊥
IsLaterSibling (chain_node a f fs m b s) x t = ((x ≡ a) × IsAmong t (chain_node a f fs m b s)) ⊎ (IsLaterSibling b x t ⊎ IsLaterSibling s x t)

-- each hint is right
abbrev pub AreHints : ChainForest → List Hint → Type 0
AreHints k hs = All (λ h. IsLaterSibling k h.first h.later) hs

-- each hint for siblings of a forest is right
abbrev pub AreOwnHints : ChainForest → List Hint → Type 0
AreOwnHints k hs = All (λ h. IsLaterSibling k h.first h.first → IsLaterSibling k h.first h.later) hs

-- the siblings of the second forest are siblings in the first
abbrev pub HasSiblings : ChainForest → ChainForest → Type 0
HasSiblings k j = (x t : ℕ) → IsLaterSibling j x t → IsLaterSibling k x t

-- what is below the first node of a forest
abbrev pub below_first : ChainForest → ChainForest
below_first no_chains = no_chains
below_first (chain_node a f fs m b s) = b

-- the forest in which frames are looked for
abbrev pub searched : Search → ChainForest
searched s = forest_at s.nodes.now.items s.root

-- a place leads to a forest in which siblings rise
pub record LeadsToOrdered (cs : List NodeView) (at : ℕ) : Type 0 where
  pub leads : LeadsToForest cs at
  pub ordered : HasIncreasingChains (forest_at cs at)

-- the node of a target is one of the tree's, where the target begins with a whole node
abbrev pub IsInTree : List NodeView → ℕ → MergeTarget → Type 0
IsInTree cs root into = into.skip ≡ 0 → into.node ≢ no_place → IsLaterSibling (forest_at cs root) into.node into.node

-- a frame may be looked for from a place on, among the siblings from another place on
pub record IsStart (cs : List NodeView) (root first : ℕ) (frame : List ℕ) (at : ℕ) : Type 0 where
  pub later : IsLaterSibling (forest_at cs root) first at
  pub side : frame_side frame (forest_at cs at) ≢ Less

-- a target begins with a frame, at a whole node of the tree
pub record IsFound (cs : List NodeView) (root : ℕ) (frame : List ℕ) (into : MergeTarget) : Type 0 where
  pub side : frame_side frame (target_forest cs into) ≡ Equal
  pub whole_node : into.skip ≡ 0
  pub node : IsLaterSibling (forest_at cs root) into.node into.node

-- where a target below a node begins with a whole node, that one is the node's first child
abbrev pub IsBelow : List NodeView → ℕ → MergeTarget → Type 0
IsBelow cs node below = (c : NodeView) → slice_get cs node ≡ Some c → below.skip ≡ 0 → below.node ≡ c.first
