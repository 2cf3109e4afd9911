-- What is written of one release, and what stands around the releases of a report.
use Rattle.std.specs.Prelude.{ℕ, Bool, true, false, List, [], ◌∷◌, ◌++◌, codes, map}
use Rattle.std.specs.List.{flat_map}
use Rattle.json.specs.Print.{quoted}
use Rattle.serde_json.specs.Written.{compact_text}
use Rattle.overlay_setup.specs.declared.script.Fault.{Fault}
use Rattle.stat_plan.specs.Plans.{Plan}
use Rattle.prefix_tree.specs.Tree.{Tree}
use Rattle.overlay_core.specs.TreeReleases.{TreeRelease, releases_view}
use Rattle.overlay_core.specs.declared.release.Release.{Release}
use Rattle.front_end.specs.JsonReport.{IsJsonReport, fault_data, release_data}
use Rattle.json_text.specs.Values.{list_of}
use Rattle.front_end.specs.ReleaseText.{release_text}
use Rattle.front_end.specs.Report.{IsReport}
use Rattle.wide_report.specs.declared.parts.Form.{Form}
use Rattle.wide_report.specs.declared.parts.Form.TheVariants.{Text, Json}
use Rattle.wide_report.specs.declared.report.WideReport.{WideReport}

-- of which faults a report has a line: all of the script, or none
abbrev pub shown_faults : Bool → Plan → List Fault
shown_faults true p = p.faults
shown_faults false p = []

-- the lost nodes that these lines name
abbrev pub shown_losses : Bool → List ℕ → List ℕ
shown_losses true lost = lost
shown_losses false lost = []

-- those of a report
abbrev pub faults_in : WideReport → List Fault
faults_in report = shown_faults report.shows_faults report.plan.now

abbrev pub losses_in : WideReport → List ℕ
losses_in report = shown_losses report.shows_faults report.lost.now

-- the text is the whole report of these releases
abbrev pub IsTextOf : WideReport → List TreeRelease → List ℕ → Type 0
IsTextOf report releases text = IsReport report.plan.now (faults_in report) releases (losses_in report) text

-- and the same as JSON
abbrev pub IsJsonOf : WideReport → List TreeRelease → List ℕ → Type 0
IsJsonOf report releases text = IsJsonReport report.plan.now (faults_in report) releases (losses_in report) text

-- what is written of a release: its text, or its JSON behind a comma
abbrev pub piece : Form → Plan → TreeRelease → List ℕ
piece Text p r = release_text p r
piece Json p r = 44 ∷ compact_text (release_data p r)

-- what is written of these releases, one after another, where `tree` says what the tree of each is
abbrev pub pieces : {X : Type 0} → (X → Tree) → Form → Plan → List (Release X) → List ℕ
pieces tree form p releases = flat_map (piece form p) (releases_view tree releases)

-- the JSON of a report up to its first release
abbrev pub json_front : Plan → List Fault → List ℕ → List ℕ
json_front p faults lost =
    123 ∷ (quoted (codes "faults") ++ 58 ∷ (compact_text (list_of (map (fault_data p lost) faults)) ++ 44 ∷ (quoted (codes "releases") ++ 58 ∷ 91 ∷ [])))

-- the JSON of a report with this text of its releases
abbrev pub json_text : Plan → List Fault → List ℕ → List ℕ → List ℕ
json_text p faults lost releases = json_front p faults lost ++ (releases ++ codes "]}\n")
