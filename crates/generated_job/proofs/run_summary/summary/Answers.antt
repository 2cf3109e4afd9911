use Rattle.std.proofs.Common.{codes}
use Rattle.overlay_core.specs.TreeReleases.{releases_view}
use Rattle.generated_job.specs.Job.{job_plan}
use Rattle.generated_job.specs.Summary.{job_line, plan_line, run_line, wave_lines}
use Rattle.generated_job.proofs.Writing.{six_parts}
use Rattle.generated_job.proofs.run_summary.summary.Goals as goal

pub returns : goal.returns
returns g c =
    let releases = releases_view g.T.PrefixTree.tree c.args.releases.now in
    six_parts (job_line c.args.seed c.args.size) (plan_line (job_plan c.args.seed c.args.size)) (run_line c.args.journal.now releases) (wave_lines 0 releases) (wave_lines 1 releases) (codes "end\n")
    c.new-out.ensures.items c.in_ok-write_job.ensures (c.in_ok-write_plan.ensures c.args.seed) c.in_ok-write_run.ensures c.in_ok-write_waves.ensures c.in_ok-write_waves-2.ensures c.in_ok-extend_from_slice.ensures.items
