-- The releases of a plan of parts have the folds over the ranks that they cover.
use Rattle.std.proofs.Common.{◌≡◌, ℕ, ◌≤◌, List, ap, sym, ◌∙◌, subst}
use Rattle.std.specs.FinMap as finmap
use Rattle.rank_set.specs.Ranks.{size}
use Rattle.rank_set.specs.declared.TheConstants.{RANK_LIMIT}
use Rattle.prefix_tree.specs.Tree.{Tree}
use Rattle.overlay_setup.specs.NodeSets.{In}
use Rattle.stat_plan.specs.Plans.{Plan, front, samples}
use Rattle.stat_plan.specs.Invariants.{IsPlan}
use Rattle.stat_plan.proofs.FirstOver.{all_in}
use Rattle.stat_plan.proofs.InLists.{in_map}
use Rattle.stat_plan.proofs.PlanFacts.{plan_facts}
use Rattle.overlay_event.specs.declared.event.Event.{Event}
use Rattle.overlay_core.specs.Machine.{State}
use Rattle.overlay_core.specs.LinkInvariant.{IsUnion}
use Rattle.overlay_core.specs.Releases.{ReleasesAreSound}
use Rattle.overlay_core.specs.Runs.{IsLegal, after}
use Rattle.overlay_core.specs.TreeReleases.{TreeRelease, bare_release, bare_releases}
use Rattle.overlay_core.proofs.Releases.{legal_log}
use Rattle.overlay_core.proofs.SampleFree.{after_same, legal_same}
use Rattle.merge_filter.specs.Contributions.{IsPartialMerge, contrib}
use Rattle.value_text.specs.Numbers.{AreSmall, Numbers}
use Rattle.rank_sums.specs.declared.fold.Fold.{Fold}
use Rattle.rank_sums.specs.Folds.{fold_of, result_of}
use Rattle.rank_sums.specs.Parts.{PartsFit}
use Rattle.rank_sums.specs.PartTrees.{SaysNumbers, tree_total}
use Rattle.rank_sums.specs.PartPlans.{part_lines, part_plan}
use Rattle.rank_sums.specs.Sums.{AreMergedReleases, AreSums, IsMerged, IsPartPlan}
use Rattle.rank_sums.proofs.Carried.{part_rows, tree_is_fold}
use Rattle.rank_sums.proofs.Small.{fold_small}
use Rattle.rank_sums.proofs.PartSamples.{samples_carry}

-- a partial merge of the plan of parts has the fold over the ranks that it covers
tree_value : (p : Plan) (v : Numbers) (f : Fold) (n s w : ℕ) (t : Tree) → IsPlan p → PartsFit p v f → IsPartialMerge (part_plan p v f) (contrib s w t) → IsUnion p s n t.coverage → result_of f (tree_total f t) ≡ fold_of f v t.coverage
tree_value p v f n s w t plan fit merge whole =
    ap (result_of f) (ap (tree_total f) merge.tree ∙ tree_is_fold p v f s n (samples (part_plan p v f) s w) t.coverage plan (samples_carry p v f s w plan fit merge.wave) whole fit)

-- its rows are of numbers, and what it counts for is one that an `i64` has
tree_numbers : (p : Plan) (v : Numbers) (f : Fold) (n s w : ℕ) (t : Tree) → IsPlan p → AreSmall v → PartsFit p v f → size t.coverage ≤ RANK_LIMIT → IsPartialMerge (part_plan p v f) (contrib s w t) → IsUnion p s n t.coverage → SaysNumbers f t
tree_numbers p v f n s w t plan values fit covers merge whole =
    let carries = samples_carry p v f s w plan fit merge.wave in
    record {
      rows = λ e i. part_rows p v f s (samples (part_plan p v f) s w) t.coverage carries fit e (subst (λ (x : Tree). In e (finmap.entries x.below)) merge.tree i);
      fits = λ z e. fold_small v f t.coverage values covers z (sym (ap (tree_total f) merge.tree ∙ tree_is_fold p v f s n (samples (part_plan p v f) s w) t.coverage plan carries whole fit) ∙ e);
    }

-- releases of a plan of parts that are partial merges
pub release_sums : (p parts : Plan) (v : Numbers) (f : Fold) (journal : List Event) (rs : List TreeRelease) → IsPartPlan p v f parts → AreMergedReleases parts journal rs → AreSums p v f journal rs
release_sums p parts v f journal rs of rel =
    let legal : IsLegal p journal = legal_same p (part_lines p v f) journal (subst (λ x. IsLegal x journal) of.equal rel.legal) in
    let released : bare_releases rs ≡ (after p journal).releases = rel.released ∙ ap (λ x. (after x journal).releases) of.equal ∙ ap (λ (x : State). x.releases) (after_same p (part_lines p v f) journal) in
    let sound : ReleasesAreSound p (after p journal) = legal_log p journal (plan_facts p of.plan) legal in
    let whole : (r : TreeRelease) → In r rs → IsUnion p r.stream (front p) r.tree.coverage =
    λ r i. (sound (bare_release r) (subst (In (bare_release r)) released (in_map bare_release r rs i))).whole in
    let merges : (r : TreeRelease) → In r rs → IsMerged (part_plan p v f) r =
    λ r i. subst (λ x. IsMerged x r) of.equal (all_in (IsMerged parts) rs r rel.merged i) in
    record {
      legal = legal;
      released = released;
      readable = λ r i covers. tree_numbers p v f (front p) r.stream r.wave r.tree of.plan of.numbers of.fits covers (merges r i) (whole r i);
      values = λ r i. tree_value p v f (front p) r.stream r.wave r.tree of.plan of.fits (merges r i) (whole r i);
    }
