-- The report of sums as JSON: the compact text of a value, and a line feed. The keys of an object stand in byte order.
use Rattle.std.specs.Prelude.{◌≡◌, ℕ, List, [], ◌∷◌, ◌++◌, Option, codes, map}
use Rattle.std.proofs.Math.IntN.{ℤ}
use Rattle.serde_json.specs.Data.{Data, string}
use Rattle.serde_json.specs.Written.{compact_text}
use Rattle.overlay_core.specs.TreeReleases.{TreeRelease}
use Rattle.rank_sums.specs.Words.{fold_word}
use Rattle.rank_sums.specs.declared.fold.Fold.{Fold}
use Rattle.front_end.specs.ReleaseText.{kind_text}
use Rattle.front_end.specs.Report.{IsSortedCopy}
use Rattle.json_text.specs.Values.{count, list_of, object_of, ranks_data, value_data}

-- all that is said of a release
unfoldable pub sum_data : Fold → (TreeRelease → Option ℤ) → TreeRelease → Data
sum_data f value r = object_of (
    (codes "covered", ranks_data r.tree.coverage)
    ∷ (codes "fold", string (fold_word f))
    ∷ (codes "kind", string (kind_text r.kind))
    ∷ (codes "number", count r.number)
    ∷ (codes "stream", count r.stream)
    ∷ (codes "value", value_data (value r))
    ∷ (codes "wave", count r.wave) ∷ [])

-- the releases in order
unfoldable pub sums_report_data : Fold → (TreeRelease → Option ℤ) → List TreeRelease → Data
sums_report_data f value ordered = object_of ((codes "releases", list_of (map (sum_data f value) ordered)) ∷ [])

-- the text is the JSON report of exactly these releases, where each has this value
pub record IsJsonSumsReport (f : Fold) (value : TreeRelease → Option ℤ) (given : List TreeRelease) (text : List ℕ) : Type 0 where
  pub ordered : List TreeRelease
  pub in_order : IsSortedCopy given ordered
  pub is : text ≡ compact_text (sums_report_data f value ordered) ++ 10 ∷ []
