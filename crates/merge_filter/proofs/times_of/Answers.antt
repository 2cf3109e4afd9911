use Rattle.std.proofs.Common.{◌∙◌}
use Rattle.merge_filter.proofs.Daemons.{samples_at}
use Rattle.merge_filter.proofs.times_of.Goals as goal

pub returns-clause-samples : goal.returns-clause-samples
returns-clause-samples c = c.samples.ensures ∙ samples_at c.args.plan.now c.args.s _ c.known_stream.ensures
