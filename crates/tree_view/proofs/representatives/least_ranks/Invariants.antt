use Rattle.std.proofs.Common.{◌≡◌, ℕ, List, take}
use Rattle.rank_set.specs.Ranks.{Ranks, has}
use Rattle.call_path.specs.Path.{Path}
use Rattle.equiv_class.specs.ClassList.{class_views}
use Rattle.tree_view.specs.Views.{least_ranks}
use Rattle.tree_view.proofs.representatives.least_ranks.Given as goal

abbrev pub invariant-loop-class : goal.invariant-loop-class
invariant-loop-class l = (es : List (Path × Ranks)) (r : ℕ) → has l.ranks r ≡ has (least_ranks l.count (class_views es (take l.class-index l.classes))) r
