-- The report of a view: its releases in order, each with the tree and the classes of what the view keeps.
use Rattle.std.specs.Prelude.{◌≡◌, ℕ, List, [], ◌∷◌, ◌++◌, codes}
use Rattle.std.specs.List.{AllByRecursion, flat_map}
use Rattle.call_path.specs.Pairs.{HasNoEmptyPath, Pairs}
use Rattle.prefix_tree.specs.Tree.{pairs_of, tree_of}
use Rattle.stat_plan.specs.Plans.{Plan, samples}
use Rattle.overlay_core.specs.TreeReleases.{TreeRelease}
use Rattle.tree_view.specs.Reading.{by_of, by_word}
use Rattle.tree_view.specs.Views.{TreeView, viewed_classes, viewed_ranks, viewed_tree}
use Rattle.front_end.specs.ReleaseText.{heading, ranks_line, tree_and_classes}
use Rattle.front_end.specs.Report.{IsSortedCopy}

-- the pairs that a release's own tree gives back
abbrev pub own_pairs : TreeRelease → Pairs
own_pairs r = pairs_of r.tree

-- the samples of a release's wave
abbrev pub wave_samples : Plan → TreeRelease → Pairs
wave_samples p r = samples p r.stream r.wave

-- the tree of each release is that of these pairs, which have no empty path
abbrev pub HavePairs : (TreeRelease → Pairs) → List TreeRelease → Type 0
HavePairs pairs releases = AllByRecursion (λ r. HasNoEmptyPath (pairs r) × (r.tree ≡ tree_of (pairs r) r.tree.coverage)) releases

-- the line that says by what a release is viewed, and the argument as it was given
abbrev pub view_line : TreeView → List ℕ → List ℕ
view_line v argument = codes "view " ++ by_word (by_of v) ++ 32 ∷ argument ++ 10 ∷ []

-- All that is said of a release that has these pairs: the ranks that it covers, the view, the ranks that the view keeps, and
-- the tree and the classes of the kept pairs over the kept ranks.
unfoldable pub viewed_text : TreeView → List ℕ → Pairs → TreeRelease → List ℕ
viewed_text v argument P r =
    heading r ++ ranks_line (codes "covered ") r.tree.coverage ++ view_line v argument ++ ranks_line (codes "kept ") (viewed_ranks v P r.tree.coverage)
    ++ tree_and_classes (viewed_tree v P r.tree.coverage) (viewed_classes v P r.tree.coverage)

-- the whole text of releases in order
unfoldable pub view_report_text : TreeView → List ℕ → (TreeRelease → Pairs) → List TreeRelease → List ℕ
view_report_text v argument pairs ordered = flat_map (λ r. viewed_text v argument (pairs r) r) ordered ++ codes "end\n"

-- the text is the report of exactly these releases in a view, with this argument, where each release has these pairs
pub record IsViewReport (v : TreeView) (argument : List ℕ) (pairs : TreeRelease → Pairs) (given : List TreeRelease) (text : List ℕ) : Type 0 where
  pub ordered : List TreeRelease
  pub in_order : IsSortedCopy given ordered
  pub is : text ≡ view_report_text v argument pairs ordered

-- the text is that report, of whatever pairs the trees of the releases are
abbrev pub IsViewReportOfAny : TreeView → List ℕ → List TreeRelease → List ℕ → Type 0
IsViewReportOfAny v argument given text = (pairs : TreeRelease → Pairs) → HavePairs pairs given → IsViewReport v argument pairs given text
