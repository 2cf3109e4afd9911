-- What each release is of.
use Rattle.std.specs.Prelude.{ℕ, suc, ◌≡◌, ◌≢◌, List, length}
use Rattle.rank_set.specs.Ranks.{Ranks}
use Rattle.overlay_setup.specs.NodeSets.{In}
use Rattle.stat_plan.specs.Plans.{Plan, front, mode, stream_ranks, waves_of}
use Rattle.overlay_setup.specs.declared.script.Mode.TheVariants.{WaitForAll}
use Rattle.overlay_core.specs.declared.release.Kind.TheVariants.{Partial as PartialRelease}
use Rattle.overlay_core.specs.Nodes.{Release}
use Rattle.overlay_core.specs.Machine.{State}
use Rattle.overlay_core.specs.LinkInvariant.{IsUnion}
use Rattle.overlay_core.specs.History.{of_wave}

-- a release is of a wave of the plan, covers all ranks of some daemons of the stream, and is final where the stream waits for all
pub record ReleaseIsSound (p : Plan) (r : Release) : Type 0 where
  pub named : In (r.stream, r.wave) (waves_of p.streams)
  pub whole : IsUnion p r.stream (front p) r.covered
  pub waits : r.kind ≡ PartialRelease → mode p r.stream ≢ WaitForAll

-- each release of the state is sound
abbrev pub ReleasesAreSound : Plan → State → Type 0
ReleasesAreSound p st = (r : Release) → In r st.releases → ReleaseIsSound p r

-- what is covered are all ranks of the stream
abbrev pub CoversAll : Plan → ℕ → Ranks → Type 0
CoversAll p s covered = covered ≡ stream_ranks p s

-- the number of a wave's release that comes after these releases: how many of them are of the wave, and one
abbrev pub next_release : ℕ → ℕ → List Release → ℕ
next_release s w earlier = suc (length (of_wave s w earlier))
