-- Laws of forests.
use Rattle.std.specs.Prelude.{◌≡◌, ℕ, length, List, [], ◌∷◌, ◌++◌}
use Rattle.rank_set.specs.Ranks.{none}
use Rattle.prefix_tree.specs.Tree.{Marks}
use Rattle.std.specs.FinMap as finmap
use Rattle.call_path.specs.Path.{Path, path_cmp}
use Rattle.prefix_tree.specs.Joined.{insert_rows}
use Rattle.arena_tree.specs.declared.node.Link.{Link}
use Rattle.arena_tree.specs.RowForest.{forest_rows}
use Rattle.arena_tree.specs.Placement.{first_place, HasDistinctPlaces, AreNodesOf}
use Rattle.arena_tree.specs.ChainForest.{ChainForest, no_chains, chain_node, rows_of_chains, HasIncreasingChains}
use Rattle.arena_tree.specs.ChainMerge.{new_nodes, merge_chains}
use Rattle.arena_tree.specs.Links.{LinkedNodes, LeadsTo, IsOutside}
use Rattle.arena_tree.specs.Steps.{merge_steps, apply_steps, Becomes}

-- a node that is cut shows the same rows
abbrev pub CutShowsSameRows : Type 0
CutShowsSameRows = (a n : ℕ) (f g : List ℕ) (fs gs : Path) (m : Marks) (b s : ChainForest) → forest_rows (rows_of_chains (chain_node a f (fs ++ g ∷ gs) m b s)) ≡ forest_rows (rows_of_chains (chain_node a f fs (m.0, none) (chain_node n g gs m b no_chains) s))

-- the rows of a merged forest of chains are the rows of both, united
abbrev pub MergeUnitesRows : Type 0
MergeUnitesRows = (n : ℕ) (t o : ChainForest) → HasIncreasingChains t → HasIncreasingChains o → finmap.from_sorted {R = path_cmp} (forest_rows (rows_of_chains (merge_chains n t o))) ≡ insert_rows (finmap.from_sorted (forest_rows (rows_of_chains t))) (forest_rows (rows_of_chains o))

-- the steps of a merge make the merged forest
abbrev pub StepsMakeMerge : Type 0
StepsMakeMerge = (l : Link) (n : ℕ) (t o : ChainForest) (h : LinkedNodes) → length h.nodes ≡ n → AreNodesOf h.nodes t → HasDistinctPlaces t → IsOutside l t → LeadsTo l h (first_place t) → Becomes l t (merge_chains n t o) (new_nodes [] t [] o) h (apply_steps h (merge_steps l n t o))
