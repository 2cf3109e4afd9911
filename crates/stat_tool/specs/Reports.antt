-- What a report says: the releases of a journal, and how each wave ends.
use Rattle.std.specs.Prelude.{◌≡◌, ◌≢◌, ⊤, ℕ, List, [], ◌∷◌, ◌++◌, Option, Some}
use Rattle.std.specs.List.{AllByRecursion}
use Rattle.std.proofs.Math.IntN.{ℤ}
use Rattle.rank_set.specs.Ranks.{Ranks, none, IsSubset}
use Rattle.overlay_setup.specs.NodeSets.{In}
use Rattle.overlay_setup.specs.declared.script.Fault.{Fault}
use Rattle.overlay_setup.specs.declared.script.Mode.TheVariants.{WaitForAll}
use Rattle.stat_plan.specs.Invariants.{IsPlan}
use Rattle.stat_plan.specs.Plans.{Plan, mode, waves_of}
use Rattle.overlay_event.specs.declared.event.Event.{Event}
use Rattle.overlay_event.specs.declared.event.Event.TheVariants.{Sample, Recv, Tick, Lose}
use Rattle.overlay_core.specs.declared.release.Kind.TheVariants.{Partial, Final}
use Rattle.overlay_core.specs.Nodes.{Release}
use Rattle.overlay_core.specs.History.{of_wave}
use Rattle.overlay_core.specs.Releases.{CoversAll, ReleaseIsSound}
use Rattle.overlay_core.specs.Runs.{IsLegal, IsWhole, after}
use Rattle.overlay_core.specs.TreeReleases.{AreNumberedInOrder, TreeRelease, bare_releases}
use Rattle.overlay_core.specs.Whole.{EndsFinally, HasOneRelease, LosesNoDaemon}
use Rattle.call_path.specs.Pairs.{Pairs}
use Rattle.value_text.specs.Numbers.{Numbers}
use Rattle.rank_sums.specs.Folds.{fold_of}
use Rattle.rank_sums.specs.declared.fold.Fold.{Fold}
use Rattle.tree_view.specs.Reading.{view_of}
use Rattle.tree_view.specs.Views.{TreeView}
use Rattle.front_end.specs.JsonReport.{IsJsonReport}
use Rattle.front_end.specs.JsonSumsReport.{IsJsonSumsReport}
use Rattle.front_end.specs.JsonViewReport.{IsJsonViewReport}
use Rattle.front_end.specs.Report.{IsDirect, IsReport}
use Rattle.wide_merge.specs.Waves.{direct_releases}
use Rattle.front_end.specs.SumsReport.{IsSumsReport}
use Rattle.front_end.specs.ViewReport.{IsViewReport, wave_samples}
use Rattle.frame_log.specs.FrameLog.{frame_log}
use Rattle.stat_words.specs.Words.{AskedView}
use Rattle.stat_words.specs.declared.words.ReportForm.{ReportForm}
use Rattle.stat_words.specs.declared.words.RunReport.{RunReport}
use Rattle.stat_words.specs.declared.words.RunReport.TheVariants.{Releases, Frames}
use Rattle.stat_words.specs.declared.words.ReportForm.TheVariants.{Text, Json}

-- the nodes that the events lose, in order
abbrev pub losses_of : List Event → List ℕ
losses_of [] = []
losses_of (Sample n s w ∷ es) = losses_of es
losses_of (Recv n m ∷ es) = losses_of es
losses_of (Tick n ∷ es) = losses_of es
losses_of (Lose n ∷ es) = n ∷ losses_of es

-- of a wave's releases the last one is final and covers all ranks of the stream, and no other is final
pub record EndsWithAll (p : Plan) (s : ℕ) (rs : List Release) : Type 0 where
  pub before : List Release
  pub last : Release
  pub all : rs ≡ before ++ last ∷ []
  pub partial : (r : Release) → In r before → r.kind ≡ Partial
  pub final : last.kind ≡ Final
  pub covers : CoversAll p s last.covered

-- from a coverage on, each release of a wave covers what the one before covers, and a partial one more than that
abbrev pub CoveragesGrow : Ranks → List Release → Type 0
CoveragesGrow last [] = ⊤
CoveragesGrow last (r ∷ rs) = IsSubset last r.covered × (r.kind ≡ Partial → last ≢ r.covered) × CoveragesGrow r.covered rs

-- the text, in this form, is the report of these releases of a plan, and of what came of these faults
abbrev pub IsReportIn : ReportForm → Plan → List Fault → List TreeRelease → List ℕ → List ℕ → Type 0
IsReportIn Text = IsReport
IsReportIn Json = IsJsonReport

-- These are the releases after a journal, whatever their trees are.
pub record AreAfter (p : Plan) (journal : List Event) (releases : List TreeRelease) : Type 0 where
  -- they are those of the machine after this journal, with their numbers within their waves: 1, 2, 3 and so on
  pub legal : IsLegal p journal
  pub reached : bare_releases releases ≡ (after p journal).releases
  pub numbered : AreNumberedInOrder [] releases
  -- each is of a wave of the plan, and covers all ranks of some daemons of its stream and no others
  pub sound : (r : Release) → In r (bare_releases releases) → ReleaseIsSound p r
  -- the coverages of a wave grow, and a partial release covers more than the one before, or something if it is the first
  pub grow : (s w : ℕ) → CoveragesGrow none (of_wave s w (bare_releases releases))

-- These are the releases after a journal, each with the tree of what its ranks were seen in.
pub record AreReleased (p : Plan) (journal : List Event) (releases : List TreeRelease) : Type 0 where
  pub bare : AreAfter p journal releases
  -- each tree and its classes are the direct merge of the wave's samples over exactly the ranks that it covers
  pub direct : AllByRecursion (IsDirect p) releases

-- The text, in this form, is the report of a journal: of exactly the releases after it, and of what came of each fault.
pub record IsReportOf (p : Plan) (form : ReportForm) (journal : List Event) (report : List ℕ) : Type 0 where
  pub releases : List TreeRelease
  pub released : AreReleased p journal releases
  pub text : IsReportIn form p p.faults releases (losses_of journal) report

-- the text, in this form, is the report of exactly these releases in a view, with this argument, where each release has
-- these pairs
abbrev pub IsViewReportIn : ReportForm → TreeView → List ℕ → (TreeRelease → Pairs) → List TreeRelease → List ℕ → Type 0
IsViewReportIn Text = IsViewReport
IsViewReportIn Json = IsJsonViewReport

-- Where each of these releases is the direct merge of its wave's samples, the text is their report in a view of these
-- samples, in the form and with the argument that were asked for.
abbrev pub ViewsSamples : AskedView → TreeView → List TreeRelease → List ℕ → Type 0
ViewsSamples wanted v releases text = (p : Plan) → IsPlan p → AllByRecursion (IsDirect p) releases
    → IsViewReportIn wanted.form v wanted.argument (wave_samples p) releases text

-- The text is a view of what a journal released: of exactly the releases after it. The tree and the classes of each are those
-- of what the view keeps of its wave's samples and of the ranks that it covers.
pub record IsViewOf (p : Plan) (wanted : AskedView) (journal : List Event) (report : List ℕ) : Type 0 where
  pub view : TreeView
  pub asked : view_of wanted.by wanted.argument ≡ Some view
  pub releases : List TreeRelease
  pub released : AreReleased p journal releases
  pub text : IsViewReportIn wanted.form view wanted.argument (wave_samples p) releases report

-- the text, in this form, is the report of sums of exactly these releases, where each has this value
abbrev pub IsSumsReportIn : ReportForm → Fold → (TreeRelease → Option ℤ) → List TreeRelease → List ℕ → Type 0
IsSumsReportIn Text = IsSumsReport
IsSumsReportIn Json = IsJsonSumsReport

-- The text, in this form, is the report of sums after a journal: of exactly the releases after it, and the value of each is the
-- fold of the numbers of exactly those ranks that it covers and that have one.
pub record IsSumsOf (p : Plan) (v : Numbers) (f : Fold) (form : ReportForm) (journal : List Event) (report : List ℕ) : Type 0 where
  pub releases : List TreeRelease
  pub released : AreAfter p journal releases
  pub text : IsSumsReportIn form f (λ r. fold_of f v r.tree.coverage) releases report

-- The frames that the events of a journal receive, one after another.
pub record IsLogOf (p : Plan) (journal : List Event) (log : List ℕ) : Type 0 where
  pub legal : IsLegal p journal
  pub frames : log ≡ frame_log p journal

-- What is wanted of a journal: the report of its releases in a form, or its frames.
abbrev pub IsWrittenOf : Plan → RunReport → List Event → List ℕ → Type 0
IsWrittenOf p (Releases form) journal text = IsReportOf p form journal text
IsWrittenOf p Frames journal text = IsLogOf p journal text

-- what is wanted of a journal with these releases
abbrev pub IsWrittenIn : RunReport → Plan → List TreeRelease → List Event → List ℕ → Type 0
IsWrittenIn (Releases form) p releases journal text = IsReportIn form p p.faults releases (losses_of journal) text
IsWrittenIn Frames p releases journal text = text ≡ frame_log p journal

-- if it is a report of releases, it is that of the direct merge of each wave, with the journal's losses
abbrev pub IsDirectIn : RunReport → Plan → List Event → List ℕ → Type 0
IsDirectIn (Releases form) p journal text = IsReportIn form p p.faults (direct_releases p) (losses_of journal) text
IsDirectIn Frames p journal text = ⊤

-- The journal is whole, and ends each wave.
pub record EndsWaves (p : Plan) (journal : List Event) : Type 0 where
  -- the journal is legal and leaves nothing enabled
  pub whole : IsWhole p journal
  -- each wave ends with one final release, its last. It covers all ranks of each daemon of its stream that the journal
  -- doesn't lose; of each rank that it misses it names the daemon, which the journal loses; and it names no node that the
  -- journal doesn't lose
  pub waves : (s w : ℕ) → In (s, w) (waves_of p.streams) → EndsFinally p journal s (of_wave s w (after p journal).releases)
  -- where none of its daemons is lost, that release covers all ranks of the stream
  pub whole_waves : (s w : ℕ) → In (s, w) (waves_of p.streams) → LosesNoDaemon p journal s
      → EndsWithAll p s (of_wave s w (after p journal).releases)
  -- and it is the only one where the stream waits for all
  pub once : (s w : ℕ) → In (s, w) (waves_of p.streams) → mode p s ≡ WaitForAll → LosesNoDaemon p journal s
      → HasOneRelease p s (of_wave s w (after p journal).releases)
