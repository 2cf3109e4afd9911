-- What a tree of chains stands for.
use Rattle.std.specs.Prelude.{◌≡◌, refl, ℕ, ◌≤◌, All, List, [], ◌∷◌, length}
use Rattle.std.specs.Coded.{Coded, code_by, coded×, coded_ℕ, coded_list}
use Rattle.std.specs.FinMap as finmap
use Rattle.rank_set.specs.Ranks.{Ranks, coded_ranks}
use Rattle.call_path.specs.Path.{Path, path_cmp}
use Rattle.call_path.specs.Good.{IsGoodPath}
use Rattle.prefix_tree.specs.Tree.{Tree, IsTree}
use Rattle.prefix_tree.specs.Code.{coded_tree}
use Rattle.arena_tree.specs.NodeViews.{NodeView}
use Rattle.arena_tree.specs.RowForest.{forest_rows}
use Rattle.arena_tree.specs.ChainForest.{ChainForest, no_chains, chain_node, rows_of_chains, HasIncreasingChains, count_nodes, count_rows}
use Rattle.arena_tree.specs.Placement.{first_place, HasDistinctPlaces, AreNodesOf}
use Rattle.arena_tree.specs.Reading.{forest_at}

-- the nodes from a place on as a tree over a coverage
abbrev pub tree_view : Ranks → List NodeView → ℕ → Tree
tree_view C cs first = record { coverage = C; below = finmap.from_sorted {R = path_cmp} (forest_rows (rows_of_chains (forest_at cs first))) }

-- a tree, the nodes that it is made of, and where it begins
pub record ArenaView : Type 0 where
  pub tree : Tree
  pub nodes : List NodeView
  pub first : ℕ

-- the nodes from a place on, over a coverage
abbrev pub arena_view : Ranks → List NodeView → ℕ → ArenaView
arena_view C cs first = record { tree = tree_view C cs first; nodes = cs; first = first }

-- such a tree is stored as the tuple of its parts
abbrev pub coded_node : Coded NodeView
coded_node = code_by (Path × (Ranks × (Ranks × (ℕ × ℕ)))) (coded× (coded_list (coded_list coded_ℕ)) (coded× coded_ranks (coded× coded_ranks (coded× coded_ℕ coded_ℕ)))) (λ c. (c.frames, (c.label, (c.ends, (c.first, c.next))))) (λ p. record { frames = p.0; label = p.1.0; ends = p.1.1.0; first = p.1.1.1.0; next = p.1.1.1.1 }) (λ _. refl)

abbrev pub coded_arena : Coded ArenaView
coded_arena = code_by (Tree × (List NodeView × ℕ)) (coded× coded_tree (coded× (coded_list coded_node) coded_ℕ)) (λ v. (v.tree, (v.nodes, v.first))) (λ p. record { tree = p.0; nodes = p.1.0; first = p.1.1 }) (λ _. refl)

-- the links make one tree, in order, of all nodes, with few rows, and of good paths
pub record IsArenaTree (C : Ranks) (cs : List NodeView) (first : ℕ) : Type 0 where
  pub begins : first_place (forest_at cs first) ≡ first
  pub nodes_hold : AreNodesOf cs (forest_at cs first)
  pub distinct : HasDistinctPlaces (forest_at cs first)
  pub count : count_nodes (forest_at cs first) ≡ length cs
  pub within_limit : count_rows (forest_at cs first) ≤ 2048
  pub ordered : HasIncreasingChains (forest_at cs first)
  pub tree : IsTree (tree_view C cs first)
  pub good_paths : All (λ e. IsGoodPath e.0) (forest_rows (rows_of_chains (forest_at cs first)))

-- a forest of one path, whose places are of no account
abbrev pub path_forest : Ranks → Path → ChainForest
path_forest C [] = no_chains
path_forest C (f ∷ p) = chain_node 0 f p (C, C) no_chains no_chains
