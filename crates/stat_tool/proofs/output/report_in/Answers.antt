use Rattle.std.proofs.Common.{refl}
use Rattle.overlay_core.specs.TreeReleases.{releases_view}
use Rattle.wide_report.specs.Pieces.{faults_in, losses_in}
use Rattle.stat_tool.proofs.Forms.{in_json, in_text}
use Rattle.job_files.proofs.Stopping.{if_ok}
use Rattle.stat_tool.proofs.output.report_in.Goals as goal

pub returns-in-Text : goal.returns-in-Text
returns-in-Text g c =
    let p = c.args.wide.now.plan.now in
    let faults = faults_in c.args.wide.now in
    let lost = losses_in c.args.wide.now in
    let releases = releases_view g.T.PrefixTree.tree c.args.releases.items in
    if_ok c.wide_text.result _ _ (λ report is. in_text c.args.form p faults releases releases lost lost report.items c.in-Text.is refl refl is) c.wide_text.ensures

pub returns-in-Json : goal.returns-in-Json
returns-in-Json g c =
    let p = c.args.wide.now.plan.now in
    let faults = faults_in c.args.wide.now in
    let lost = losses_in c.args.wide.now in
    let releases = releases_view g.T.PrefixTree.tree c.args.releases.items in
    if_ok c.wide_json.result _ _ (λ report is. in_json c.args.form p faults releases releases lost lost report.items c.in-Json.is refl refl is) c.wide_json.ensures
