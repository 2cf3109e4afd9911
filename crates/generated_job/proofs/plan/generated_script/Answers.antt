use Rattle.std.proofs.Common.{◌∙◌}
use Rattle.script_text.specs.Whole.{script_of}
use Rattle.generated_job.specs.Job.{job_script}
use Rattle.generated_job.proofs.Readings.{only_memory, same_ok}
use Rattle.generated_job.proofs.Script.{script_is}
use Rattle.generated_job.proofs.plan.generated_script.Goals as goal

pub returns-in-Ok-clause-value : goal.returns-in-Ok-clause-value
returns-in-Ok-clause-value c = same_ok (script_of c.args.topology.now c.as_slice.result.now) (job_script c.args.size) c.in-Ok.script ((λ i. script_of (c.requires.nodes i) ((c.as_slice.ensures.value ∙ c.in_ok-text.ensures) i)) ∙ script_is c.args.size c.requires.not_zero c.requires.within_limit) c.in-Ok.ensures.ok

pub out_of_memory-requires : goal.out_of_memory-requires
out_of_memory-requires c = only_memory (script_of c.args.topology.now c.as_slice.result.now) (job_script c.args.size) c.in-Err.error ((λ i. script_of (c.requires.nodes i) ((c.as_slice.ensures.value ∙ c.in_ok-text.ensures) i)) ∙ script_is c.args.size c.requires.not_zero c.requires.within_limit) c.in-Err.ensures.err
