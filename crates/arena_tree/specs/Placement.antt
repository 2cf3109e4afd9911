-- Nodes that hold a forest of chains.
use Rattle.std.specs.Prelude.{◌≡◌, ℕ, ◌+◌, ◌≤◌, cond, nat_eq, List, ◌∷◌, Some, slice_get}
use Rattle.call_path.specs.Path.{Path}
use Rattle.prefix_tree.specs.Tree.{Marks}
use Rattle.arena_tree.specs.NodeViews.{NodeView}
use Rattle.arena_tree.specs.ChainForest.{ChainForest, no_chains, chain_node}

-- a link that leads nowhere
abbrev pub no_place : ℕ
no_place = 4294967295

-- the place of the first
abbrev pub first_place : ChainForest → ℕ
first_place no_chains = no_place
first_place (chain_node a f fs m b s) = a

-- how often a place occurs
abbrev pub count_place : ℕ → ChainForest → ℕ
count_place x no_chains = 0
count_place x (chain_node a f fs m b s) = cond (nat_eq x a) 1 0 + (count_place x b + count_place x s)

-- each place once
abbrev pub HasDistinctPlaces : ChainForest → Type 0
HasDistinctPlaces k = (x : ℕ) → count_place x k ≤ 1

-- a node as it is held
abbrev pub node_view : List ℕ → Path → Marks → ChainForest → ChainForest → NodeView
node_view f fs m b s = record { frames = f ∷ fs; label = m.0; ends = m.1; first = first_place b; next = first_place s }

-- the nodes hold the forest
abbrev pub AreNodesOf : List NodeView → ChainForest → Type 0
AreNodesOf cs no_chains = Unit {0}
AreNodesOf cs (chain_node a f fs m b s) = (slice_get cs a ≡ Some (node_view f fs m b s)) × AreNodesOf cs b × AreNodesOf cs s
