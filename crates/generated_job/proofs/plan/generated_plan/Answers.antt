use Rattle.generated_job.proofs.Prefixes.{not_refused}
use Rattle.generated_job.proofs.plan.generated_plan.Goals as goal

pub unreachable-requires : goal.unreachable-requires
unreachable-requires c = not_refused c.args.seed c.args.size c.in_ok-topology.topology c.in_ok-samples.samples c.in_ok-script.script c.in-Err-TooManyPrefixes.field-0 c.in-Err-TooManyPrefixes.field-0-0 c.in-Err-TooManyPrefixes.field-0-1 c.in_ok-topology.ensures c.in_ok-samples.ensures.value c.in_ok-script.ensures.value c.in-Err-TooManyPrefixes.ensures.err c.in-Err-TooManyPrefixes.field-0-is
