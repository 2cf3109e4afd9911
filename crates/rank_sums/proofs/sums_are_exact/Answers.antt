use Rattle.std.proofs.Common.{◌≡◌, ◌∙◌, ap, Bool, true, false, ◌||◌, refl}
use Rattle.rank_set.specs.Ranks.{Ranks, has, has-union, same_ranks, union}
use Rattle.prefix_tree.specs.Tree.{tree_of}
use Rattle.prefix_tree.proofs.TreeLaws.{merged-tree_of}
use Rattle.rank_sums.proofs.Exact.{release_sums}
use Rattle.rank_sums.proofs.sums_are_exact.Goals as goal

or_same : (a : Bool) → (a || a) ≡ a
or_same true = refl
or_same false = refl

union_same : (C : Ranks) → union C C ≡ C
union_same C = same_ranks (union C C) C (λ r. has-union C C r ∙ or_same (has C r))

pub returns : goal.returns
returns c = record { exact = release_sums; twice = λ P C. merged-tree_of P C C ∙ ap (tree_of P) (union_same C) }
