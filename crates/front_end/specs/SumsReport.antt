-- The report of sums: its releases in order, each with what the numbers of the ranks that it covers come to.
use Rattle.std.specs.Prelude.{◌≡◌, ℕ, List, [], ◌∷◌, ◌++◌, Option, Some, None, codes}
use Rattle.std.specs.Fmt.{signed_decimal}
use Rattle.std.specs.List.{AllByRecursion, flat_map}
use Rattle.std.proofs.Math.IntN.{ℤ}
use Rattle.rank_set.specs.Text.{text_of}
use Rattle.overlay_core.specs.TreeReleases.{TreeRelease}
use Rattle.rank_sums.specs.Folds.{result_of}
use Rattle.rank_sums.specs.PartTrees.{SaysNumbersWithin, tree_total}
use Rattle.rank_sums.specs.Words.{fold_word}
use Rattle.rank_sums.specs.declared.fold.Fold.{Fold}
use Rattle.front_end.specs.ReleaseText.{release_words}
use Rattle.front_end.specs.Report.{IsSortedCopy}

-- what the tree of a release comes to, where its frames are numbers
abbrev pub tree_value : Fold → TreeRelease → Option ℤ
tree_value f r = result_of f (tree_total f r.tree)

-- the trees of the releases say numbers, if what each covers are no more ranks than there can be
abbrev pub SayNumbers : Fold → List TreeRelease → Type 0
SayNumbers f releases = AllByRecursion (λ r. SaysNumbersWithin f r.tree) releases

-- a value; `-` where there is none
abbrev pub value_text : Option ℤ → List ℕ
value_text None = codes "-"
value_text (Some z) = signed_decimal z

-- the line of a release: its stream, its wave, its number and its kind, the ranks that it covers, and its value
unfoldable pub sum_line : Fold → (TreeRelease → Option ℤ) → TreeRelease → List ℕ
sum_line f value r =
    release_words r ++ codes " covered " ++ text_of r.tree.coverage ++ 32 ∷ fold_word f ++ 32 ∷ value_text (value r) ++ 10 ∷ []

-- the whole text of releases in order
unfoldable pub sums_report_text : Fold → (TreeRelease → Option ℤ) → List TreeRelease → List ℕ
sums_report_text f value ordered = flat_map (sum_line f value) ordered ++ codes "end\n"

-- the text is the report of exactly these releases, where each has this value
pub record IsSumsReport (f : Fold) (value : TreeRelease → Option ℤ) (given : List TreeRelease) (text : List ℕ) : Type 0 where
  pub ordered : List TreeRelease
  pub in_order : IsSortedCopy given ordered
  pub is : text ≡ sums_report_text f value ordered
