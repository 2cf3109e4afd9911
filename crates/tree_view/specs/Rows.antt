-- Worked rows: what views keep of a few pairs.
use Rattle.std.specs.Prelude.{◌≡◌, refl, ℕ, List, [], ◌∷◌, codes, Some, None}
use Rattle.rank_set.specs.Ranks.{has, set_of, those, with_rank}
use Rattle.call_path.specs.Path.{Path}
use Rattle.call_path.specs.Pairs.{Pairs}
use Rattle.equiv_class.specs.Classes.{classes_of}
use Rattle.tree_view.specs.Reading.{count_of, view_by}
use Rattle.tree_view.specs.Views.{TreeView, FoldedAt, OfEachClass, OfRanks, WithFrame, cut_at, viewed_pairs, viewed_ranks}
use Rattle.tree_view.specs.declared.reading.ViewBy.TheVariants as by

-- ranks 0 and 1 poll inside a barrier, and rank 2 computes
abbrev waiting : Path
waiting = codes "main" ∷ codes "barrier" ∷ codes "poll" ∷ []

abbrev computing : Path
computing = codes "main" ∷ codes "compute" ∷ []

abbrev stuck : Pairs
stuck = (0, waiting) ∷ (1, waiting) ∷ (2, computing) ∷ []

-- a fold keeps the frame, and drops what is below its first place
cut_behind : cut_at (codes "barrier") waiting ≡ codes "main" ∷ codes "barrier" ∷ []
cut_behind = refl

not_cut : cut_at (codes "barrier") computing ≡ computing
not_cut = refl

fold_keeps_ranks : viewed_ranks (FoldedAt (codes "barrier")) stuck (set_of (0 ∷ 1 ∷ 2 ∷ [])) ≡ set_of (0 ∷ 1 ∷ 2 ∷ [])
fold_keeps_ranks = refl

only_such_pairs : viewed_pairs (WithFrame (codes "barrier")) stuck ≡ (0, waiting) ∷ (1, waiting) ∷ []
only_such_pairs = refl

only_such_ranks : viewed_ranks (WithFrame (codes "barrier")) stuck (set_of (0 ∷ 1 ∷ 2 ∷ [])) ≡ set_of (0 ∷ 1 ∷ [])
unfolding those has with_rank
only_such_ranks = refl

one_of_each_class : viewed_ranks (OfEachClass 1) stuck (set_of (0 ∷ 1 ∷ 2 ∷ [])) ≡ set_of (0 ∷ 2 ∷ [])
unfolding classes_of those has with_rank
one_of_each_class = refl

none_of_these : viewed_ranks (OfRanks (set_of (7 ∷ []))) stuck (set_of (0 ∷ 1 ∷ 2 ∷ [])) ≡ set_of []
unfolding those has with_rank
none_of_these = refl

too_few : count_of (codes "0") ≡ None
too_few = refl

most : count_of (codes "1000") ≡ Some 1000
most = refl

too_many : count_of (codes "1001") ≡ None
too_many = refl

by_fold : view_by (codes "fold") ≡ Some by.Fold
by_fold = refl
