use Rattle.std.proofs.lemmas.Result.{IfOk-weaker}
use Rattle.overlay_core.specs.TreeReleases.{releases_view}
use Rattle.tree_view.specs.Reading.{tree_view}
use Rattle.front_end.proofs.ViewWritten.{json_of_pairs}
use Rattle.front_end.proofs.json_view.view_json.Goals as goal

pub returns-clause-pairs : goal.returns-clause-pairs
returns-clause-pairs g c =
    IfOk-weaker c.own_json.result _ _ (λ text report. json_of_pairs (tree_view c.args.view.now) c.args.argument.now (releases_view g.T.PrefixTree.tree c.args.releases.now) text.items report) c.own_json.ensures
