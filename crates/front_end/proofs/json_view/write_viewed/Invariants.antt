use Rattle.std.proofs.Common.{◌≡◌, ◌++◌, drop, map}
use Rattle.tree_view.specs.Reading.{tree_view}
use Rattle.front_end.specs.Shown.{shown_releases}
use Rattle.json_text.specs.Values.{list_of}
use Rattle.json_text.specs.Tokens.{rest_tokens, value_tokens}
use Rattle.front_end.specs.JsonViewReport.{viewed_data}
use Rattle.front_end.specs.ViewReport.{own_pairs}
use Rattle.front_end.proofs.json_view.write_viewed.Given as goal

abbrev pub invariant-loop-release : goal.invariant-loop-release
invariant-loop-release g l =
    l.out ++ rest_tokens (map (λ r. viewed_data (tree_view l.view) l.argument (own_pairs r) r) (shown_releases g.T.PrefixTree.tree (drop l.release-index l.releases)))
    ≡ l.fn.out ++ value_tokens (list_of (map (λ r. viewed_data (tree_view l.view) l.argument (own_pairs r) r) (shown_releases g.T.PrefixTree.tree l.releases)))
