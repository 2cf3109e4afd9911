use Rattle.std.proofs.Common.{[], ◌∷◌}
use Rattle.std.specs.List.{IsDistinct}
use Rattle.overlay_core.specs.TreeReleases.{TreeRelease}
use Rattle.front_end.specs.Report.{AreDistinct}
use Rattle.text_tests.proofs.front_end_tests.writes_a_tree_and_its_classes.Goals as goal

one_is_distinct : (r : TreeRelease) → AreDistinct (r ∷ [])
unfolding IsDistinct
one_is_distinct r = (tt, tt)

pub direct_text-requires-clause-distinct : goal.direct_text-requires-clause-distinct
direct_text-requires-clause-distinct g c κs = one_is_distinct _
