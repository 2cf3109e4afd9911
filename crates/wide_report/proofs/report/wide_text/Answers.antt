use Rattle.std.proofs.Common.{◌∙◌, ◌++◌, [], ap}
use Rattle.std.proofs.lemmas.Result.{IfOk-weaker}
use Rattle.overlay_core.specs.TreeReleases.{releases_view}
use Rattle.front_end.specs.Report.{report_text}
use Rattle.wide_report.specs.Pieces.{faults_in, losses_in}
use Rattle.wide_report.proofs.Texts.{text_of_pieces}
use Rattle.wide_report.proofs.report.wide_text.Goals as goal

pub returns : goal.returns
returns g c =
    let p = c.args.report.now.plan.now in
    let faults = faults_in c.args.report.now in
    let lost = losses_in c.args.report.now in
    let ordered = releases_view g.T.PrefixTree.tree c.in_order-ordered.result.items in
    IfOk-weaker c.text_before_end.result _ _ (λ whole is. record {
      ordered = ordered;
      in_order = c.in_order-ordered.ensures;
      is = is ∙ ap (λ ys. ys ++ report_text p faults lost []) c.in_ok-text.ensures ∙ text_of_pieces p faults lost ordered;
    }) c.text_before_end.ensures
