-- Reports in either form.
use Rattle.std.proofs.Common.{◌≡◌, ℕ, List, [], ◌∷◌, Option, sym, subst}
use Rattle.std.proofs.Math.IntN.{ℤ}
use Rattle.std.specs.List.{AllByRecursion}
use Rattle.overlay_core.specs.TreeReleases.{TreeRelease}
use Rattle.overlay_setup.specs.NodeSets.{In}
use Rattle.overlay_setup.specs.declared.script.Fault.{Fault}
use Rattle.stat_plan.specs.Invariants.{IsPlan}
use Rattle.stat_plan.specs.Plans.{Plan}
use Rattle.merge_filter.proofs.WaveSamples.{samples_have_paths}
use Rattle.front_end.specs.JsonReport.{IsJsonReport}
use Rattle.front_end.specs.Report.{IsDirect, IsReport}
use Rattle.stat_words.specs.declared.words.ReportForm.{ReportForm}
use Rattle.stat_words.specs.declared.words.ReportForm.TheVariants.{Text, Json}
use Rattle.stat_words.specs.Words.{AskedView}
use Rattle.tree_view.specs.Views.{TreeView}
use Rattle.rank_sums.specs.declared.fold.Fold.{Fold}
use Rattle.front_end.specs.JsonSumsReport.{IsJsonSumsReport}
use Rattle.front_end.specs.JsonViewReport.{IsJsonViewReport}
use Rattle.front_end.specs.SumsReport.{IsSumsReport, tree_value}
use Rattle.front_end.proofs.SumsWritten.{json_of_values, sums_of_values}
use Rattle.front_end.specs.ViewReport.{HavePairs, IsViewReport, wave_samples}
use Rattle.stat_tool.specs.Reports.{IsReportIn, IsSumsReportIn, IsViewReportIn}

-- a text of some releases is that of equal ones, in this form
pub in_text : (form : ReportForm) (p : Plan) (faults : List Fault) (rs qs : List TreeRelease) (ls ms text : List ℕ) → form ≡ Text → rs ≡ qs → ls ≡ ms → IsReport p faults rs ls text → IsReportIn form p faults qs ms text
in_text form p faults rs qs ls ms text is releases losses report =
    subst (λ (f : ReportForm). IsReportIn f p faults qs ms text) (sym is)
    (subst (λ (r : List TreeRelease). IsReport p faults r ms text) releases (subst (λ (l : List ℕ). IsReport p faults rs l text) losses report))

pub in_json : (form : ReportForm) (p : Plan) (faults : List Fault) (rs qs : List TreeRelease) (ls ms text : List ℕ) → form ≡ Json → rs ≡ qs → ls ≡ ms → IsJsonReport p faults rs ls text → IsReportIn form p faults qs ms text
in_json form p faults rs qs ls ms text is releases losses report =
    subst (λ (f : ReportForm). IsReportIn f p faults qs ms text) (sym is)
    (subst (λ (r : List TreeRelease). IsJsonReport p faults r ms text) releases (subst (λ (l : List ℕ). IsJsonReport p faults rs l text) losses report))

-- a report of a view of some releases, in this form
pub in_view_text : (wanted : AskedView) (v : TreeView) (p : Plan) (rs : List TreeRelease) (text : List ℕ) → wanted.form ≡ Text → IsViewReport v wanted.argument (wave_samples p) rs text
    → IsViewReportIn wanted.form v wanted.argument (wave_samples p) rs text
in_view_text wanted v p rs text is report = subst (λ (f : ReportForm). IsViewReportIn f v wanted.argument (wave_samples p) rs text) (sym is) report

pub in_view_json : (wanted : AskedView) (v : TreeView) (p : Plan) (rs : List TreeRelease) (text : List ℕ) → wanted.form ≡ Json → IsJsonViewReport v wanted.argument (wave_samples p) rs text
    → IsViewReportIn wanted.form v wanted.argument (wave_samples p) rs text
in_view_json wanted v p rs text is report = subst (λ (f : ReportForm). IsViewReportIn f v wanted.argument (wave_samples p) rs text) (sym is) report

-- a report of sums of some releases, in this form
pub in_sums_text : (form : ReportForm) (f : Fold) (value : TreeRelease → Option ℤ) (rs : List TreeRelease) (text : List ℕ) → form ≡ Text → IsSumsReport f value rs text → IsSumsReportIn form f value rs text
in_sums_text form f value rs text is report = subst (λ (form : ReportForm). IsSumsReportIn form f value rs text) (sym is) report

pub in_sums_json : (form : ReportForm) (f : Fold) (value : TreeRelease → Option ℤ) (rs : List TreeRelease) (text : List ℕ) → form ≡ Json → IsJsonSumsReport f value rs text → IsSumsReportIn form f value rs text
in_sums_json form f value rs text is report = subst (λ (form : ReportForm). IsSumsReportIn form f value rs text) (sym is) report

-- whatever says the values
pub sums_say : (form : ReportForm) (f : Fold) (value : TreeRelease → Option ℤ) (rs : List TreeRelease) (text : List ℕ) → ((r : TreeRelease) → In r rs → tree_value f r ≡ value r)
    → IsSumsReportIn form f (tree_value f) rs text → IsSumsReportIn form f value rs text
sums_say Text f value rs text same report = sums_of_values f value rs text same report
sums_say Json f value rs text same report = json_of_values f value rs text same report

-- releases that are direct merges are of the samples of their waves
pub have_samples : (p : Plan) (rs : List TreeRelease) → IsPlan p → AllByRecursion (IsDirect p) rs → HavePairs (wave_samples p) rs
have_samples p [] plan direct = tt
have_samples p (r ∷ rs) plan direct = ((samples_have_paths p plan r.stream r.wave, direct.0.tree), have_samples p rs plan direct.1)
