use Rattle.std.proofs.Common.{◌≡◌, ◌++◌, drop}
use Rattle.std.specs.List.{flat_map}
use Rattle.overlay_core.specs.TreeReleases.{releases_view}
use Rattle.wide_report.specs.Pieces.{piece}
use Rattle.wide_report.proofs.parts.one_part.Given as goal

abbrev pub invariant-loop-release : goal.invariant-loop-release
invariant-loop-release g l =
    l.text.items ++ flat_map (piece l.form l.report.plan.now) (releases_view g.T.PrefixTree.tree (drop l.release-index l.releases)) ≡ flat_map (piece l.form l.report.plan.now) (releases_view g.T.PrefixTree.tree l.releases)
