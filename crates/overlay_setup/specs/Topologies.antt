-- The nodes of a job, and what every job's nodes are.
use Rattle.std.specs.Prelude.{◌≡◌, refl, ◌≤◌, ℕ, List, length, Option}
use Rattle.std.specs.List.{AllByRecursion, IsDistinct}
use Rattle.std.specs.Str.{bytes_eq}
use Rattle.std.specs.Coded.{Coded, code_by, coded×, coded_list, coded_option, coded_ℕ}
use Rattle.overlay_setup.specs.declared.topology.TheConstants.{NODE_LIMIT}
use Rattle.overlay_setup.specs.Names.{IsName}
use Rattle.overlay_setup.specs.Trees.{IsTree}

-- names and parents of nodes, each in order of number; the front end's parent is none
pub record Nodes : Type 0 where
  pub names : List (List ℕ)
  pub parents : List (Option ℕ)

-- nodes are stored as the pair of their lists
abbrev pub nodes_code : Coded Nodes
nodes_code =
    code_by (List (List ℕ) × List (Option ℕ)) (coded× (coded_list (coded_list coded_ℕ)) (coded_list (coded_option coded_ℕ))) (λ t. (t.names, t.parents)) (λ p. record { names = p.0; parents = p.1 }) (λ _. refl)

-- nodes with these names and parents
abbrev pub topology : List (List ℕ) → List (Option ℕ) → Nodes
topology names parents = record { names = names; parents = parents }

-- a tree of 2 to 512 nodes, each with a name of its own
pub record IsTopology (t : Nodes) : Type 0 where
  pub paired : length t.names ≡ length t.parents
  pub some : 2 ≤ length t.parents
  pub within_limit : length t.parents ≤ NODE_LIMIT
  pub tree : IsTree t.parents
  pub named : AllByRecursion IsName t.names
  pub distinct : IsDistinct bytes_eq t.names
