-- Sums over ranks: what a run of the plan of parts releases.
use Rattle.std.specs.Prelude.{◌≡◌, List}
use Rattle.std.specs.List.{AllByRecursion}
use Rattle.overlay_setup.specs.NodeSets.{In}
use Rattle.stat_plan.specs.Plans.{Plan}
use Rattle.stat_plan.specs.Invariants.{IsPlan}
use Rattle.overlay_event.specs.declared.event.Event.{Event}
use Rattle.overlay_core.specs.Runs.{IsLegal, after}
use Rattle.overlay_core.specs.TreeReleases.{TreeRelease, bare_releases}
use Rattle.merge_filter.specs.Contributions.{IsPartialMerge, contrib}
use Rattle.value_text.specs.Numbers.{AreSmall, Numbers}
use Rattle.rank_sums.specs.declared.fold.Fold.{Fold}
use Rattle.rank_sums.specs.Folds.{fold_of, result_of}
use Rattle.rank_sums.specs.Parts.{PartsFit}
use Rattle.rank_sums.specs.PartPlans.{part_plan}
use Rattle.rank_sums.specs.PartTrees.{SaysNumbersWithin, tree_total}

-- a plan whose samples are the parts of another's daemons
pub record IsPartPlan (p : Plan) (v : Numbers) (f : Fold) (parts : Plan) : Type 0 where
  pub plan : IsPlan p
  pub numbers : AreSmall v
  pub fits : PartsFit p v f
  pub equal : parts ≡ part_plan p v f

-- a release has the direct merge of its wave's samples over the ranks that it covers
abbrev pub IsMerged : Plan → TreeRelease → Type 0
IsMerged p r = IsPartialMerge p (contrib r.stream r.wave r.tree)

-- Releases after a journal of a plan: the journal is legal, the releases are those of the state to which it leads, and each has the
-- direct merge of its wave's samples over the ranks that it covers.
pub record AreMergedReleases (p : Plan) (journal : List Event) (rs : List TreeRelease) : Type 0 where
  pub legal : IsLegal p journal
  pub released : bare_releases rs ≡ (after p journal).releases
  pub merged : AllByRecursion (IsMerged p) rs

-- the tree of a release counts for the fold over exactly the ranks that it covers
abbrev pub HasValue : Numbers → Fold → TreeRelease → Type 0
HasValue v f r = result_of f (tree_total f r.tree) ≡ fold_of f v r.tree.coverage

-- Releases after a journal, where the parts of a plan's daemons were sampled in place of the plan's own samples. The journal is legal in
-- the plan, the releases are those of the state to which it leads there, and each has the fold over exactly the ranks that it covers.
pub record AreSums (p : Plan) (v : Numbers) (f : Fold) (journal : List Event) (rs : List TreeRelease) : Type 0 where
  pub legal : IsLegal p journal
  pub released : bare_releases rs ≡ (after p journal).releases
  pub readable : (r : TreeRelease) → In r rs → SaysNumbersWithin f r.tree
  pub values : (r : TreeRelease) → In r rs → HasValue v f r
