use Rattle.std.proofs.Common.{◌≡◌, ◌++◌, drop}
use Rattle.std.specs.List.{flat_map}
use Rattle.overlay_core.specs.TreeReleases.{releases_view}
use Rattle.generated_job.specs.Summary.{end_line}
use Rattle.generated_job.proofs.run_summary.write_waves.Given as goal

abbrev pub invariant-loop-release : goal.invariant-loop-release
invariant-loop-release g l = l.out.items ++ flat_map (end_line l.s) (releases_view g.T.PrefixTree.tree (drop l.release-index l.releases)) ≡ l.fn.out.items ++ flat_map (end_line l.s) (releases_view g.T.PrefixTree.tree l.releases)
