-- The report of a view as JSON: the compact text of a value, and a line feed. The keys of an object stand in byte order.
use Rattle.std.specs.Prelude.{◌≡◌, ℕ, List, [], ◌∷◌, ◌++◌, codes, map}
use Rattle.serde_json.specs.Data.{Data, string}
use Rattle.serde_json.specs.Written.{compact_text}
use Rattle.call_path.specs.Pairs.{Pairs}
use Rattle.overlay_core.specs.TreeReleases.{TreeRelease}
use Rattle.tree_view.specs.Reading.{by_of, by_word}
use Rattle.tree_view.specs.Views.{TreeView, viewed_classes, viewed_ranks, viewed_tree}
use Rattle.front_end.specs.ReleaseText.{kind_text}
use Rattle.front_end.specs.Report.{IsSortedCopy}
use Rattle.front_end.specs.ViewReport.{HavePairs}
use Rattle.front_end.specs.JsonValues.{classes_data, tree_data}
use Rattle.json_text.specs.Values.{count, list_of, object_of, ranks_data}

-- by what a release is viewed, and the argument as it was given
abbrev pub view_data : TreeView → List ℕ → Data
view_data v argument = object_of ((codes "argument", string argument) ∷ (codes "by", string (by_word (by_of v))) ∷ [])

-- all that is said of a release that has these pairs
unfoldable pub viewed_data : TreeView → List ℕ → Pairs → TreeRelease → Data
viewed_data v argument P r = object_of (
    (codes "classes", classes_data (viewed_classes v P r.tree.coverage))
    ∷ (codes "covered", ranks_data r.tree.coverage)
    ∷ (codes "kept", ranks_data (viewed_ranks v P r.tree.coverage))
    ∷ (codes "kind", string (kind_text r.kind))
    ∷ (codes "number", count r.number)
    ∷ (codes "stream", count r.stream)
    ∷ (codes "tree", tree_data (viewed_tree v P r.tree.coverage))
    ∷ (codes "view", view_data v argument)
    ∷ (codes "wave", count r.wave) ∷ [])

-- the releases in order
unfoldable pub view_report_data : TreeView → List ℕ → (TreeRelease → Pairs) → List TreeRelease → Data
view_report_data v argument pairs ordered =
    object_of ((codes "releases", list_of (map (λ r. viewed_data v argument (pairs r) r) ordered)) ∷ [])

-- the text is the JSON report of exactly these releases in a view, with this argument, where each release has these pairs
pub record IsJsonViewReport (v : TreeView) (argument : List ℕ) (pairs : TreeRelease → Pairs) (given : List TreeRelease) (text : List ℕ) : Type 0 where
  pub ordered : List TreeRelease
  pub in_order : IsSortedCopy given ordered
  pub is : text ≡ compact_text (view_report_data v argument pairs ordered) ++ 10 ∷ []

-- the text is that report, of whatever pairs the trees of the releases are
abbrev pub IsJsonViewReportOfAny : TreeView → List ℕ → List TreeRelease → List ℕ → Type 0
IsJsonViewReportOfAny v argument given text = (pairs : TreeRelease → Pairs) → HavePairs pairs given → IsJsonViewReport v argument pairs given text
