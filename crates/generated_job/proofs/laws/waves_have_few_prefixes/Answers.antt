use Rattle.generated_job.proofs.Prefixes.{waves_have_few, none_over}
use Rattle.generated_job.proofs.laws.waves_have_few_prefixes.Goals as goal

pub returns : goal.returns
returns c = record { prefixes = waves_have_few; within_limit = none_over }
