use Rattle.std.proofs.Common.{None, refl}
use Rattle.overlay_core.specs.TreeReleases.{releases_view}
use Rattle.job_files.specs.Tasks.{RunOutput}
use Rattle.stat_tool.proofs.Outputs.{has_summary}
use Rattle.stat_tool.proofs.generated.gen_job.Goals as goal

pub returns : goal.returns
returns g c =
    let output : RunOutput = record { unfinished = None; journal = c.in_ok-journal.journal; report = c.in_ok-report.report.items; journal_text = c.new-2.result.items } in
    let run = c.in_ok-journal.ensures.start c.in_ok-net.ensures.start in
    has_summary c.run_picked.new.self c.in_ok-net.net.plan c.in_ok-plan.plan c.args.size c.from-size.result c.args.seed (releases_view g.T.PrefixTree.tree c.releases.result.now) output
    c.from-size.ensures c.in_ok-plan.ensures c.invariant.ensures c.in_ok-net.ensures.plan c.run_picked.ensures.plan run.0 run.1 c.releases.ensures c.in_ok-report.ensures refl c.new-2.ensures.items
