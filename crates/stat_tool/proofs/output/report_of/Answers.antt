use Rattle.std.proofs.Common.{refl, ◌∙◌}
use Rattle.overlay_core.specs.TreeReleases.{releases_view}
use Rattle.stat_tool.specs.Reports.{losses_of}
use Rattle.stat_tool.proofs.Forms.{in_json, in_text}
use Rattle.job_files.proofs.Stopping.{if_ok}
use Rattle.stat_tool.proofs.output.report_of.Goals as goal

pub report_text-requires-clause-distinct : goal.report_text-requires-clause-distinct
report_text-requires-clause-distinct g c κs within = c.numbered_releases_are_distinct.ensures (releases_view g.T.PrefixTree.tree c.args.releases.now) c.requires.numbered

pub returns-in-Text : goal.returns-in-Text
returns-in-Text g c =
    let releases = releases_view g.T.PrefixTree.tree c.args.releases.now in
    if_ok c.report_text.result _ _ (λ report is. in_text c.args.form c.args.plan.now c.args.plan.now.faults releases releases c.deref.result.now (losses_of c.args.journal.now) report.items
    c.in-Text.is refl (c.deref.ensures.value ∙ c.in_ok-lost.ensures) is) c.report_text.ensures

pub returns : goal.returns
returns g c =
    let releases = releases_view g.T.PrefixTree.tree c.args.releases.now in
    if_ok c.report_json.result _ _ (λ report is. in_json c.args.form c.args.plan.now c.args.plan.now.faults releases releases c.deref-in-Json.result.now (losses_of c.args.journal.now) report.items
    c.in-Json.is refl (c.deref-in-Json.ensures.value ∙ c.in_ok-lost.ensures) is) c.report_json.ensures
