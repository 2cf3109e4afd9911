use Rattle.std.proofs.Common.{◌≡◌, ◌++◌, drop}
use Rattle.std.specs.List.{flat_map}
use Rattle.front_end.specs.ReleaseText.{release_text}
use Rattle.front_end.specs.Shown.{shown_releases}
use Rattle.front_end.proofs.report.write_releases.Given as goal

abbrev pub invariant-loop-release : goal.invariant-loop-release
invariant-loop-release g l =
    l.out.items ++ flat_map (release_text l.plan) (shown_releases g.T.PrefixTree.tree (drop l.release-index l.releases)) ≡ l.fn.out.items ++ flat_map (release_text l.plan) (shown_releases g.T.PrefixTree.tree l.releases)
