use Rattle.std.proofs.Common.{◌≡◌, ◌++◌, drop, map}
use Rattle.front_end.specs.Shown.{shown_releases}
use Rattle.json_text.specs.Values.{list_of}
use Rattle.front_end.specs.JsonReport.{release_data}
use Rattle.json_text.specs.Tokens.{rest_tokens, value_tokens}
use Rattle.front_end.proofs.json_report.write_releases.Given as goal

abbrev pub invariant-loop-release : goal.invariant-loop-release
invariant-loop-release g l =
    l.out ++ rest_tokens (map (release_data l.plan) (shown_releases g.T.PrefixTree.tree (drop l.release-index l.releases)))
    ≡ l.fn.out ++ value_tokens (list_of (map (release_data l.plan) (shown_releases g.T.PrefixTree.tree l.releases)))
