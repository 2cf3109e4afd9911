use Rattle.std.proofs.Common.{◌≡◌, ◌++◌, drop, map}
use Rattle.front_end.specs.Shown.{shown_releases}
use Rattle.json_text.specs.Values.{list_of}
use Rattle.json_text.specs.Tokens.{rest_tokens, value_tokens}
use Rattle.front_end.specs.JsonSumsReport.{sum_data}
use Rattle.front_end.specs.SumsReport.{SayNumbers, tree_value}
use Rattle.front_end.proofs.json_sums.write_sums.Given as goal

abbrev pub invariant-loop-release : goal.invariant-loop-release
invariant-loop-release g l =
    (l.out ++ rest_tokens (map (sum_data l.fold (tree_value l.fold)) (shown_releases g.T.PrefixTree.tree (drop l.release-index l.releases)))
    ≡ l.fn.out ++ value_tokens (list_of (map (sum_data l.fold (tree_value l.fold)) (shown_releases g.T.PrefixTree.tree l.releases))))
    × SayNumbers l.fold (shown_releases g.T.PrefixTree.tree (drop l.release-index l.releases))
