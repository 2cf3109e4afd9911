use Rattle.std.proofs.Common.{subst}
use Rattle.overlay_core.specs.Runs.{IsLegal}
use Rattle.overlay_core.specs.TreeReleases.{releases_view}
use Rattle.stat_plan.specs.Plans.{Plan}
use Rattle.job_files.specs.Tasks.{RunOutput}
use Rattle.stat_tool.proofs.Outputs.{has_replay}
use Rattle.stat_tool.proofs.output.replayed.Goals as goal

pub text_of-requires-clause-legal : goal.text_of-requires-clause-legal
text_of-requires-clause-legal g c κs within = subst (λ (p : Plan). IsLegal p c.args.journal) c.requires.same c.requires.reached.legal

pub returns-clause-replay : goal.returns-clause-replay
returns-clause-replay g c =
    let output : RunOutput = record { unfinished = c.enabled-unfinished.result; journal = c.args.journal; report = c.in_ok-report.report.items; journal_text = c.new.result.items } in
    has_replay c.args.net.now c.args.plan.now c.args.wanted (releases_view g.T.PrefixTree.tree c.releases.result.now) output c.invariant.ensures c.requires.same c.requires.reached c.enabled-unfinished.ensures c.releases.ensures c.in_ok-report.ensures c.new.ensures.items
