-- The direct releases of a plan, and the waves that several threads may merge.
use Rattle.std.specs.Prelude.{◌≡◌, ◌≤◌, ℕ, List, [], map}
use Rattle.overlay_setup.specs.NodeSets.{In}
use Rattle.stat_plan.specs.Plans.{Plan, samples, stream_ranks, waves_of}
use Rattle.merge_filter.specs.Contributions.{HasWave}
use Rattle.prefix_tree.specs.Tree.{Tree, tree_of}
use Rattle.overlay_core.specs.TreeReleases.{TreeRelease, releases_view}
use Rattle.overlay_core.specs.declared.release.Kind.TheVariants.{Final}
use Rattle.overlay_core.specs.declared.release.Release.{Release}

-- a wave's first and final release, with the direct merge of its samples over all ranks of its stream, and no node lost
abbrev pub direct_release : Plan → ℕ × ℕ → TreeRelease
direct_release p v = record {
  stream = v.0;
  wave = v.1;
  number = 1;
  kind = Final;
  tree = tree_of (samples p v.0 v.1) (stream_ranks p v.0);
  lost = [];
}

-- one such release for each wave of the plan, by stream and wave
abbrev pub direct_releases : Plan → List TreeRelease
direct_releases p = map (direct_release p) (waves_of p.streams)

-- the plan has these waves, and there are one to 32 workers
pub record MayMergeWaves (p : Plan) (waves : List (ℕ × ℕ)) (workers : ℕ) : Type 0 where
  pub has : (v : ℕ × ℕ) → In v waves → HasWave p v.0 v.1
  pub some : 1 ≤ workers
  pub few : workers ≤ 32

-- these are the direct releases of some waves, in their order, where `tree` says what the tree of each is
abbrev pub AreDirect : {X : Type 0} → (X → Tree) → Plan → List (ℕ × ℕ) → List (Release X) → Type 0
AreDirect tree p waves releases = releases_view tree releases ≡ map (direct_release p) waves
