use Rattle.std.proofs.Common.{◌∙◌, ap, drop}
use Rattle.std.proofs.lemmas.Result.{IfOk-weaker}
use Rattle.overlay_core.specs.TreeReleases.{releases_view}
use Rattle.wide_report.specs.Pieces.{faults_in, json_text, losses_in}
use Rattle.wide_report.proofs.Texts.{json_of_pieces}
use Rattle.wide_report.proofs.report.wide_json.Goals as goal

pub returns : goal.returns
returns g c =
    let p = c.args.report.now.plan.now in
    let faults = faults_in c.args.report.now in
    let lost = losses_in c.args.report.now in
    let ordered = releases_view g.T.PrefixTree.tree c.in_order-ordered.result.items in
    IfOk-weaker c.json_around.result _ _ (λ whole is. record {
      ordered = ordered;
      in_order = c.in_order-ordered.ensures;
      is = is ∙ ap (λ ys. json_text p faults lost (drop 1 ys)) (c.deref.ensures.value ∙ c.in_ok-pieces.ensures) ∙ json_of_pieces p faults lost ordered;
    }) c.json_around.ensures
