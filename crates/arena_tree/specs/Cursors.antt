-- Where a cursor stands, and how it moves on.
use Rattle.std.specs.Prelude.{◌≡◌, ◌≢◌, ℕ, suc, ◌+◌, ◌-◌, ◌<◌, ◌≤◌, cond, nat_eq, nat_lt, List, [], ◌∷◌, length, reverse, drop}
use Rattle.std.specs.Vec.{vec_capacity}
use Rattle.prefix_tree.specs.declared.Cursor.{Cursor}
use Rattle.prefix_tree.specs.declared.WaitingNode.{WaitingNode}
use Rattle.arena_tree.specs.NodeViews.{NodeView}
use Rattle.arena_tree.specs.ChainForest.{ChainForest, no_chains, chain_node, rows_of_chains, count_nodes, count_rows}
use Rattle.arena_tree.specs.Placement.{no_place}
use Rattle.arena_tree.specs.Reading.{forest_at, LeadsToForest}
use Rattle.arena_tree.specs.ReadingOrder.{shows, waiting_rows}

-- the node that a link leads to, if it leads to one, and then others that wait
abbrev pub with_link : ℕ → ℕ → List WaitingNode → List WaitingNode
with_link place depth ws = cond (nat_eq place no_place) ws (record { place = place; depth = depth } ∷ ws)

-- what waits behind the last row of a node: the nodes below it, then its later siblings, then the others
abbrev pub waiting_behind : NodeView → WaitingNode → List WaitingNode → List WaitingNode
waiting_behind c w ws = with_link c.first (w.depth + length c.frames) (with_link c.next w.depth ws)

-- what waits behind row i of a node
abbrev pub waiting_next : NodeView → WaitingNode → ℕ → List WaitingNode → List WaitingNode
waiting_next c w i ws = cond (nat_lt (i + 1) (length c.frames)) (w ∷ ws) (waiting_behind c w ws)

-- the number of the next row within its node
abbrev pub frame_next : NodeView → ℕ → ℕ
frame_next c i = cond (nat_lt (i + 1) (length c.frames)) (i + 1) 0

-- the forests that the nodes lead to, each with the depth of its first nodes
abbrev pub waiting_forests : List NodeView → List WaitingNode → List (ℕ × ChainForest)
waiting_forests cs [] = []
waiting_forests cs (w ∷ ws) = (w.depth, forest_at cs w.place) ∷ waiting_forests cs ws

-- how many nodes they have
abbrev pub waiting_count : List NodeView → List WaitingNode → ℕ
waiting_count cs [] = 0
waiting_count cs (w ∷ ws) = count_nodes (forest_at cs w.place) + waiting_count cs ws

-- a place and a depth where a node waits; the depths of its rows are bounded
pub record IsWaiting (cs : List NodeView) (w : WaitingNode) : Type 0 where
  pub leads : LeadsToForest cs w.place
  pub node : w.place ≢ no_place
  pub depth : w.depth + count_rows (forest_at cs w.place) ≤ 8192

abbrev pub AreWaiting : List NodeView → List WaitingNode → Type 0
AreWaiting cs [] = Unit {0}
AreWaiting cs (w ∷ ws) = IsWaiting cs w × AreWaiting cs ws

-- how many rows the first node of a forest has
abbrev pub chain_length : ChainForest → ℕ
chain_length no_chains = 0
chain_length (chain_node a f fs m b s) = suc (length fs)

-- row i of the first node that waits exists, if one waits
abbrev pub IsRowOfFirst : List NodeView → List WaitingNode → ℕ → Type 0
IsRowOfFirst cs [] i = Unit {0}
IsRowOfFirst cs (w ∷ ws) i = i < chain_length (forest_at cs w.place)

-- what waits, past the first i rows, are the rows of the forest from a place on, past those before the given one (the root is row 0)
pub record WalksOn (cs : List NodeView) (first row i : ℕ) (ws : List WaitingNode) : Type 0 where
  pub below_root : 1 ≤ row
  pub waiting : AreWaiting cs ws
  pub frame : IsRowOfFirst cs ws i
  pub rows : drop i (waiting_rows (waiting_forests cs ws)) ≡ drop (row - 1) (shows 1 (rows_of_chains (forest_at cs first)))

-- a cursor stands before its row; the next node is its last, and there is room for each node that may wait later
pub record IsCursor (cs : List NodeView) (first : ℕ) (at : Cursor) : Type 0 where
  pub walk : WalksOn cs first at.row at.frame (reverse at.waiting.items)
  pub room : waiting_count cs (reverse at.waiting.items) ≤ vec_capacity at.waiting
