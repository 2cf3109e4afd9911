use Rattle.overlay_core.specs.TreeReleases.{releases_view}
use Rattle.front_end.specs.SumsReport.{tree_value}
use Rattle.stat_tool.proofs.Forms.{in_sums_json, in_sums_text}
use Rattle.job_files.proofs.Stopping.{if_ok}
use Rattle.stat_tool.proofs.sums.text_of_sums.Goals as goal

pub sums_text-requires-clause-distinct : goal.sums_text-requires-clause-distinct
sums_text-requires-clause-distinct g c κs within = c.numbered_releases_are_distinct.ensures (releases_view g.T.PrefixTree.tree c.args.releases.now) c.requires.numbered

pub sums_json-requires-clause-distinct : goal.sums_json-requires-clause-distinct
sums_json-requires-clause-distinct g c κs within = c.numbered_releases_are_distinct.ensures (releases_view g.T.PrefixTree.tree c.args.releases.now) c.requires.numbered

pub returns-in-Text : goal.returns-in-Text
returns-in-Text g c =
    let releases = releases_view g.T.PrefixTree.tree c.args.releases.now in
    if_ok c.sums_text.result _ _ (λ text is. in_sums_text c.args.form c.args.fold (tree_value c.args.fold) releases text.items c.in-Text.is is) c.sums_text.ensures

pub returns-in-Json : goal.returns-in-Json
returns-in-Json g c =
    let releases = releases_view g.T.PrefixTree.tree c.args.releases.now in
    if_ok c.sums_json.result _ _ (λ text is. in_sums_json c.args.form c.args.fold (tree_value c.args.fold) releases text.items c.in-Json.is is) c.sums_json.ensures
