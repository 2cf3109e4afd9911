use Rattle.std.proofs.Common.{◌∙◌, ap}
use Rattle.topology_text.specs.Whole.{topology_of}
use Rattle.generated_job.specs.Job.{job_nodes}
use Rattle.generated_job.proofs.Readings.{only_memory, same_ok}
use Rattle.generated_job.proofs.Topology.{topology_is}
use Rattle.generated_job.proofs.plan.generated_topology.Goals as goal

pub returns-in-Ok : goal.returns-in-Ok
returns-in-Ok c = same_ok (topology_of c.as_slice.result.now) (job_nodes c.args.size) c.in-Ok.topology (ap topology_of (c.as_slice.ensures.value ∙ c.in_ok-text.ensures) ∙ topology_is c.args.size c.requires.not_zero c.requires.within_limit) c.in-Ok.ensures.ok

pub out_of_memory-requires : goal.out_of_memory-requires
out_of_memory-requires c = only_memory (topology_of c.as_slice.result.now) (job_nodes c.args.size) c.in-Err.error (ap topology_of (c.as_slice.ensures.value ∙ c.in_ok-text.ensures) ∙ topology_is c.args.size c.requires.not_zero c.requires.within_limit) c.in-Err.ensures.err
