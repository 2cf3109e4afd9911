use Rattle.std.proofs.Common.{◌∙◌}
use Rattle.overlay_core.specs.TreeReleases.{releases_view}
use Rattle.rank_sums.specs.declared.fold.Fold.TheVariants.{Sum}
use Rattle.stat_tool.proofs.Outputs.{net_sums, sums_read}
use Rattle.tool_tests.proofs.sums_tests.sums_after.Goals as goal

pub sums_text-requires-clause-numbers : goal.sums_text-requires-clause-numbers
sums_text-requires-clause-numbers g c κs within =
    let releases = releases_view g.T.PrefixTree.tree c.releases.result.now in
    let journal = c.in_ok-read.read.events in
    sums_read c.args.plan c.args.values.now Sum journal releases
    (net_sums c.redo.new.net c.args.plan c.in_ok-parts.parts c.args.values.now Sum journal releases c.in_ok-parts.ensures
    (c.redo.ensures.plan ∙ c.in_ok-net.ensures.plan) c.in-Ok.ensures.reached c.releases.ensures c.sums_are_exact.ensures.exact)
