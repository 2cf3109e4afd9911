use Rattle.std.proofs.Common.{◌≡◌, ◌≤◌, ◌+◌, drop, length, filter}
use Rattle.overlay_core.specs.TreeReleases.{releases_view}
use Rattle.generated_job.specs.Summary.{is_final}
use Rattle.generated_job.proofs.run_summary.final_count.Given as goal

abbrev pub invariant-loop-release : goal.invariant-loop-release
invariant-loop-release g l = record {
  rest : l.count + length (filter (λ r. is_final r.kind) (releases_view g.T.PrefixTree.tree (drop l.release-index l.releases))) ≡ length (filter (λ r. is_final r.kind) (releases_view g.T.PrefixTree.tree l.releases));
  bounded : l.count ≤ l.release-index;
}
