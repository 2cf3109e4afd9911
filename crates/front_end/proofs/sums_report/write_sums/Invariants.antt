use Rattle.std.proofs.Common.{◌≡◌, ◌++◌, drop}
use Rattle.std.specs.List.{flat_map}
use Rattle.front_end.specs.Shown.{shown_releases}
use Rattle.front_end.specs.SumsReport.{SayNumbers, sum_line, tree_value}
use Rattle.front_end.proofs.sums_report.write_sums.Given as goal

abbrev pub invariant-loop-release : goal.invariant-loop-release
invariant-loop-release g l =
    (l.out.items ++ flat_map (sum_line l.fold (tree_value l.fold)) (shown_releases g.T.PrefixTree.tree (drop l.release-index l.releases))
    ≡ l.fn.out.items ++ flat_map (sum_line l.fold (tree_value l.fold)) (shown_releases g.T.PrefixTree.tree l.releases))
    × SayNumbers l.fold (shown_releases g.T.PrefixTree.tree (drop l.release-index l.releases))
