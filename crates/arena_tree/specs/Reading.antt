-- What a place leads to.
use Rattle.std.specs.Prelude.{◌≡◌, ℕ, zero, suc, ◌≤◌, List, [], ◌∷◌, Option, Some, None, length, slice_get}
use Rattle.call_path.specs.Path.{Path}
use Rattle.prefix_tree.specs.Tree.{Marks}
use Rattle.arena_tree.specs.NodeViews.{NodeView}
use Rattle.arena_tree.specs.ChainForest.{ChainForest, no_chains, chain_node, count_nodes}
use Rattle.arena_tree.specs.Placement.{first_place, AreNodesOf}
use Rattle.arena_tree.specs.RowForest.{frame_cmp}
use Rattle.std.specs.declared.cmp.Ordering.{Ordering}
use Rattle.std.specs.declared.cmp.Ordering.TheVariants.{Less}

-- one node with what is found from it on
abbrev pub chain_of : ℕ → Path → Marks → ChainForest → ChainForest → ChainForest
chain_of at [] m b s = no_chains
chain_of at (f ∷ fs) m b s = chain_node at f fs m b s

abbrev pub forest_with : (ℕ → ChainForest) → ℕ → Option NodeView → ChainForest
forest_with go at None = no_chains
forest_with go at (Some c) = chain_of at c.frames (c.label, c.ends) (go c.first) (go c.next)

-- the forest from a link on, as far as n
abbrev pub forest_within : ℕ → List NodeView → ℕ → ChainForest
forest_within zero cs at = no_chains
forest_within (suc n) cs at = forest_with (forest_within n cs) at (slice_get cs at)

-- the forest from a place on
abbrev pub forest_at : List NodeView → ℕ → ChainForest
forest_at cs at = forest_within (length cs) cs at

-- a place leads to a forest, or is none
pub record LeadsToForest (cs : List NodeView) (at : ℕ) : Type 0 where
  pub begins : first_place (forest_at cs at) ≡ at
  pub nodes_hold : AreNodesOf cs (forest_at cs at)
  pub no_more_nodes : count_nodes (forest_at cs at) ≤ length cs
  pub within_limit : length cs ≤ 4096

-- where a frame is, seen from the first node of a forest
abbrev pub frame_side : List ℕ → ChainForest → Ordering
frame_side g no_chains = Less
frame_side g (chain_node a f fs m b s) = frame_cmp g f
