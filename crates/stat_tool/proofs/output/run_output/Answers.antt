use Rattle.std.proofs.Common.{None, refl}
use Rattle.overlay_core.specs.TreeReleases.{releases_view}
use Rattle.job_files.specs.Tasks.{RunOutput}
use Rattle.stat_tool.proofs.JournalTexts.{legal_are_of}
use Rattle.stat_tool.proofs.Outputs.{has_run}
use Rattle.stat_tool.proofs.output.run_output.Goals as goal

pub write_journal-requires : goal.write_journal-requires
write_journal-requires g c = legal_are_of c.args.plan.now c.args.ran.journal c.invariant.ensures c.requires.whole.0

pub returns : goal.returns
returns g c =
    let output : RunOutput = record { unfinished = None; journal = c.args.ran.journal; report = c.in_ok-report.report.items; journal_text = c.in_ok-journal_text.journal_text.items } in
    has_run c.args.plan.now c.args.wanted (releases_view g.T.PrefixTree.tree c.args.ran.releases.items) output c.invariant.ensures c.requires c.in_ok-report.ensures c.in_ok-journal_text.ensures refl
