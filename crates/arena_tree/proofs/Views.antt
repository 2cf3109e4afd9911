-- What the view of a tree of chains has.
use Rattle.std.proofs.Common.{◌≡◌, List, ℕ, ap}
use Rattle.rank_set.specs.Ranks.{Ranks}
use Rattle.arena_tree.specs.NodeViews.{NodeView}
use Rattle.arena_tree.specs.TreeView.{ArenaView, tree_view, arena_view}

module _ {C : Ranks} {cs : List NodeView} {first : ℕ} {v : ArenaView} (is : arena_view C cs first ≡ v) where
  pub tree_is : tree_view C cs first ≡ v.tree
  tree_is = ap (λ (v : ArenaView). v.tree) is

  pub nodes_are : cs ≡ v.nodes
  nodes_are = ap (λ (v : ArenaView). v.nodes) is

  pub first_is : first ≡ v.first
  first_is = ap (λ (v : ArenaView). v.first) is
