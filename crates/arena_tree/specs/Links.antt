-- Links between nodes, and changes of them.
-- No clause of a public call cites this file: it says how a change is planned and done.
use Rattle.std.specs.Prelude.{◌≡◌, ◌≢◌, ℕ, zero, suc, List, [], ◌∷◌, Some, slice_get}
use Rattle.arena_tree.specs.declared.node.Link.{Link}
use Rattle.arena_tree.specs.declared.node.Link.TheVariants.{Top, FirstOf, NextOf}
use Rattle.arena_tree.specs.NodeViews.{NodeView}
use Rattle.arena_tree.specs.Placement.{count_place}
use Rattle.arena_tree.specs.ChainForest.{ChainForest}

-- where the forest begins, and its nodes
pub record LinkedNodes : Type 0 where
  pub first : ℕ
  pub nodes : List NodeView

-- both, put together
abbrev pub linked : ℕ → List NodeView → LinkedNodes
linked first nodes = record { first = first; nodes = nodes }

-- the node at a place, changed
abbrev pub with_change : ℕ → (NodeView → NodeView) → List NodeView → List NodeView
with_change i f [] = []
with_change zero f (x ∷ xs) = f x ∷ xs
with_change (suc i) f (x ∷ xs) = x ∷ with_change i f xs

-- with another first child
abbrev pub with_first : ℕ → NodeView → NodeView
with_first n c = record { frames = c.frames; label = c.label; ends = c.ends; first = n; next = c.next }

-- with another next sibling
abbrev pub with_next : ℕ → NodeView → NodeView
with_next n c = record { frames = c.frames; label = c.label; ends = c.ends; first = c.first; next = n }

-- the nodes with a link led elsewhere
abbrev pub relink : Link → ℕ → List NodeView → List NodeView
relink Top n cs = cs
relink (FirstOf a) n cs = with_change a (with_first n) cs
relink (NextOf a) n cs = with_change a (with_next n) cs

-- where the forest begins then
abbrev pub first_after : Link → ℕ → ℕ → ℕ
first_after Top n at = n
first_after (FirstOf a) n at = at
first_after (NextOf a) n at = at

-- a link leads to a place
abbrev pub LeadsTo : Link → LinkedNodes → ℕ → Type 0
LeadsTo Top h v = h.first ≡ v
LeadsTo (FirstOf a) h v = (x : NodeView) × (slice_get h.nodes a ≡ Some x) × (x.first ≡ v)
LeadsTo (NextOf a) h v = (x : NodeView) × (slice_get h.nodes a ≡ Some x) × (x.next ≡ v)

-- a link is of none of these nodes
abbrev pub IsOutside : Link → ChainForest → Type 0
IsOutside Top k = Unit {0}
IsOutside (FirstOf a) k = count_place a k ≡ 0
IsOutside (NextOf a) k = count_place a k ≡ 0

-- a link is not of the node at a place
abbrev pub IsNotAt : Link → ℕ → Type 0
IsNotAt Top y = Unit {0}
IsNotAt (FirstOf a) y = y ≢ a
IsNotAt (NextOf a) y = y ≢ a
