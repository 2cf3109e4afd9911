-- The form of the laws of runs of a generated job.
use Rattle.std.specs.Prelude.{◌≡◌, ℕ, List}
use Rattle.overlay_event.specs.declared.event.Event.{Event}
use Rattle.overlay_core.specs.Runs.{after}
use Rattle.overlay_core.specs.TreeReleases.{TreeRelease, bare_releases}
use Rattle.generated_job.specs.Job.{job_plan}

-- it holds of each journal and the releases after it, of the job of a seed and a size
abbrev pub OfReleases : ℕ → ℕ → (List Event → List TreeRelease → Type 0) → Type 0
OfReleases seed n law = (journal : List Event) (releases : List TreeRelease) → bare_releases releases ≡ (after (job_plan seed n) journal).releases → law journal releases
