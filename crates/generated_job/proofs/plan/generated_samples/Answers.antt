use Rattle.std.proofs.Common.{◌∙◌}
use Rattle.sample_text.specs.Whole.{samples_of_text}
use Rattle.generated_job.specs.Job.{job_samples}
use Rattle.generated_job.proofs.Readings.{only_memory, same_ok}
use Rattle.generated_job.proofs.Samples.{samples_is}
use Rattle.generated_job.proofs.plan.generated_samples.Goals as goal

pub returns-in-Ok-clause-value : goal.returns-in-Ok-clause-value
returns-in-Ok-clause-value c = same_ok (samples_of_text c.args.topology.now c.as_slice.result.now) (job_samples c.args.seed c.args.size) c.in-Ok.samples ((λ i. samples_of_text (c.requires.nodes i) ((c.as_slice.ensures.value ∙ c.in_ok-text.ensures) i)) ∙ samples_is c.args.seed c.args.size c.requires.not_zero c.requires.within_limit) c.in-Ok.ensures.ok

pub out_of_memory-requires : goal.out_of_memory-requires
out_of_memory-requires c = only_memory (samples_of_text c.args.topology.now c.as_slice.result.now) (job_samples c.args.seed c.args.size) c.in-Err.error ((λ i. samples_of_text (c.requires.nodes i) ((c.as_slice.ensures.value ∙ c.in_ok-text.ensures) i)) ∙ samples_is c.args.seed c.args.size c.requires.not_zero c.requires.within_limit) c.in-Err.ensures.err
