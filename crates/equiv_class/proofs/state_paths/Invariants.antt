use Rattle.std.proofs.Common.{◌≡◌, ◌<◌, ◌++◌, List, length, map, reverse}
use Rattle.std.specs.List.{AllByRecursion}
use Rattle.rank_set.specs.Ranks.{Ranks}
use Rattle.call_path.specs.Path.{Path}
use Rattle.equiv_class.specs.ClassList.{path_of}
use Rattle.equiv_class.specs.Origins.{paths_before}
use Rattle.equiv_class.proofs.state_paths.Given as goal

abbrev pub invariant-loop-at : goal.invariant-loop-at
invariant-loop-at l = record {
  known : l.at < length l.origins;
  paths : (es : List (Path × Ranks)) → length es ≡ l.count → paths_before es l.origins l.at ++ reverse (map (path_of es) l.paths.items) ≡ paths_before es l.origins l.state;
  indices : AllByRecursion (λ i. i < l.count) l.paths.items;
}

abbrev pub decreases-loop-at : goal.decreases-loop-at
decreases-loop-at l = l.at
