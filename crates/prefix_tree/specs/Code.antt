-- How a tree is stored as a value.
use Rattle.std.specs.Prelude.{refl}
use Rattle.std.specs.Coded.{Coded, code_by, coded×, coded_ℕ, coded_list}
use Rattle.std.specs.FinMap as finmap
use Rattle.rank_set.specs.Ranks.{Ranks, coded_ranks}
use Rattle.prefix_tree.specs.Tree.{Tree}
use Rattle.prefix_tree.specs.Joined.{Below}

-- the rows below the root, by their entries
abbrev pub coded_below : Coded Below
coded_below = finmap.code (coded_list (coded_list coded_ℕ)) (coded× coded_ranks coded_ranks)

-- a tree, by its coverage and its rows
abbrev pub coded_tree : Coded Tree
coded_tree = code_by (Ranks × Below) (coded× coded_ranks coded_below) (λ t. (t.coverage, t.below)) (λ p. record { coverage = p.0; below = p.1 }) (λ _. refl)
