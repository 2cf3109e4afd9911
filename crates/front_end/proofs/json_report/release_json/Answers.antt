use Rattle.std.proofs.Common.{◌∙◌, ◌++◌, ap}
use Rattle.json.specs.Print.{print}
use Rattle.serde_json.proofs.Texts.{print-outline}
use Rattle.overlay_core.specs.TreeReleases.{release_view}
use Rattle.front_end.specs.JsonReport.{release_data}
use Rattle.json_text.specs.Tokens.{value_tokens}
use Rattle.front_end.proofs.json_report.release_json.Goals as goal

pub returns : goal.returns
returns g c =
    let said = release_data c.args.plan.now (release_view g.T.PrefixTree.tree c.args.release.now) in
    c.into_text.ensures ∙ ap print (c.in_ok-write_release.ensures ∙ ap (λ ts. ts ++ value_tokens said) c.new-out.ensures) ∙ print-outline said
