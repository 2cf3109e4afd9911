-- A sort puts releases in order.
use Rattle.std.proofs.Common.{List}
use Rattle.std.specs.List.Sorted.{IsPermutation, IsSortedBy}
use Rattle.std.specs.Ordering.{eq_by_cmp, is_lt}
use Rattle.std.proofs.lemmas.Cmp.{eq_by_cmp_equiv}
use Rattle.std.proofs.lemmas.List.Sorted.{IsPermutation-map}
use Rattle.std.proofs.lemmas.Map.Keys.{IsDistinct-IsPermutation}
use Rattle.prefix_tree.specs.Tree.{Tree}
use Rattle.stat_plan.proofs.InOrder.{sorted_map}
use Rattle.overlay_core.specs.TreeReleases.{release_view, releases_view}
use Rattle.overlay_core.specs.declared.release.Release.{Release}
use Rattle.front_end.specs.Report.{AreDistinct, IsSortedCopy, release_cmp}
use Rattle.front_end.proofs.Orders.{increasing_where_distinct, release_cmp_total}

-- releases that are distinct are in order where a sort by stream, wave and number moved them
pub in_order_from_sort : {X : Type 0} (tree : X → Tree) (given sorted : List (Release X)) → AreDistinct (releases_view tree given) → IsPermutation given sorted
    → IsSortedBy (λ (a b : Release X). is_lt (release_cmp (release_view tree a) (release_view tree b))) sorted → IsSortedCopy (releases_view tree given) (releases_view tree sorted)
in_order_from_sort {X} tree given sorted distinct moved up =
    let same : IsPermutation (releases_view tree given) (releases_view tree sorted) = IsPermutation-map (release_view tree) given sorted moved in
    record {
      same = same;
      increasing = increasing_where_distinct release_cmp release_cmp_total (releases_view tree sorted) (sorted_map (release_view tree) (λ a b. is_lt (release_cmp a b)) sorted up)
          (IsDistinct-IsPermutation (eq_by_cmp release_cmp) (eq_by_cmp_equiv release_cmp_total).symm (releases_view tree given) (releases_view tree sorted) same distinct);
    }
