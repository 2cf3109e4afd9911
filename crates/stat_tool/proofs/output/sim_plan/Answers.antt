use Rattle.std.proofs.Common.{◌∙◌}
use Rattle.overlay_core.specs.TreeReleases.{releases_view}
use Rattle.stat_tool.proofs.Outputs.{net_has_run, picked_is_quiet}
use Rattle.stat_tool.proofs.output.sim_plan.Goals as goal

pub finished-requires-clause-whole : goal.finished-requires-clause-whole
finished-requires-clause-whole g c κs within =
    let picks = c.in_ok-journal.ensures.start c.in_ok-net.ensures.start in
    net_has_run c.run_picked.new.self c.args.plan.now c.in_ok-journal.journal (releases_view g.T.PrefixTree.tree c.releases.result.now) (c.run_picked.ensures.plan ∙ c.in_ok-net.ensures.plan) picks.1
    (picked_is_quiet c.in_ok-net.net.plan c.args.plan.now c.args.seed c.in_ok-journal.journal c.invariant.ensures c.in_ok-net.ensures.plan picks.0) c.releases.ensures
