use Rattle.overlay_core.specs.TreeReleases.{releases_view}
use Rattle.stat_words.specs.Words.{view_asked}
use Rattle.tree_view.specs.Reading.{tree_view}
use Rattle.front_end.specs.ViewReport.{wave_samples}
use Rattle.stat_tool.proofs.Forms.{have_samples, in_view_json, in_view_text}
use Rattle.job_files.proofs.Stopping.{if_ok}
use Rattle.stat_tool.proofs.view.text_of_view.Goals as goal

pub view_text-requires-clause-distinct : goal.view_text-requires-clause-distinct
view_text-requires-clause-distinct g c κs within = c.numbered_releases_are_distinct.ensures (releases_view g.T.PrefixTree.tree c.args.releases.now) c.requires.numbered

pub returns-in-Text : goal.returns-in-Text
returns-in-Text g c =
    let releases = releases_view g.T.PrefixTree.tree c.args.releases.now in
    if_ok c.view_text.result _ _ (λ text is p plan direct. in_view_text (view_asked c.args.wanted) (tree_view c.args.view.now) p releases text.items c.in-Text.is (is (wave_samples p) (have_samples p releases plan direct))) c.view_text.ensures.pairs

pub returns-in-Json : goal.returns-in-Json
returns-in-Json g c =
    let releases = releases_view g.T.PrefixTree.tree c.args.releases.now in
    if_ok c.view_json.result _ _ (λ text is p plan direct. in_view_json (view_asked c.args.wanted) (tree_view c.args.view.now) p releases text.items c.in-Json.is (is (wave_samples p) (have_samples p releases plan direct))) c.view_json.ensures.pairs
