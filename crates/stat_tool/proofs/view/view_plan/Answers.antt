use Rattle.std.proofs.Common.{None, refl}
use Rattle.overlay_core.specs.TreeReleases.{releases_view}
use Rattle.stat_words.specs.Words.{view_asked}
use Rattle.tree_view.specs.Reading.{tree_view}
use Rattle.job_files.specs.Tasks.{RunOutput}
use Rattle.stat_tool.proofs.Outputs.{has_view}
use Rattle.stat_tool.proofs.view.view_plan.Goals as goal

pub returns : goal.returns
returns g c =
    let output : RunOutput = record { unfinished = None; journal = c.in_ok-journal.journal; report = c.in_ok-report.report.items; journal_text = c.new-2.result.items } in
    let run = c.in_ok-journal.ensures.start c.in_ok-net.ensures.start in
    has_view c.run_picked.new.self c.in_ok-net.net.plan c.args.plan.now c.args.seed (view_asked c.args.wanted) (tree_view c.in-Ok.view) (releases_view g.T.PrefixTree.tree c.releases.result.now) output
    c.in-Ok.ensures.ok c.invariant.ensures c.in_ok-net.ensures.plan c.run_picked.ensures.plan run.0 run.1 c.releases.ensures c.in_ok-report.ensures refl c.new-2.ensures.items
