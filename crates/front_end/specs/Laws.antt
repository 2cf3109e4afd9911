-- The forms of the laws of reports, for any relation between releases and a text: that of texts, or that of JSON.
use Rattle.std.specs.Prelude.{◌≡◌, ℕ, List}
use Rattle.overlay_setup.specs.declared.script.Fault.{Fault}
use Rattle.stat_plan.specs.Invariants.{IsPlan}
use Rattle.stat_plan.specs.Plans.{Plan}
use Rattle.overlay_event.specs.declared.event.Event.{Event}
use Rattle.overlay_core.specs.Whole.{LosesNoDaemon}
use Rattle.overlay_core.specs.TreeReleases.{TreeRelease}
use Rattle.front_end.specs.Report.{AllStreamsWait, AreReleasesOf}
use Rattle.wide_merge.specs.Waves.{direct_releases}

-- a text is a report of some faults, some releases and the nodes that were lost
abbrev pub Reporting : Type 1
Reporting = Plan → List Fault → List TreeRelease → List ℕ → List ℕ → Type 0

-- there is one such text
abbrev pub HasOneText : Reporting → Type 0
HasOneText is = (p : Plan) (faults : List Fault) (given : List TreeRelease) (lost text other : List ℕ)
    → is p faults given lost text → is p faults given lost other → text ≡ other

-- where every stream waits for all its daemons and loses none of them, a report of a journal's releases is one of the direct releases
abbrev pub WaitingIsDirect : Reporting → Type 0
WaitingIsDirect is = (p : Plan) (faults : List Fault) (journal : List Event) (releases : List TreeRelease) (lost text : List ℕ)
    → IsPlan p → AllStreamsWait p → ((s : ℕ) → LosesNoDaemon p journal s) → AreReleasesOf p journal releases
    → is p faults releases lost text → is p faults (direct_releases p) lost text
