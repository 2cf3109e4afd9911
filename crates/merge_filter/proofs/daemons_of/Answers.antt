use Rattle.std.proofs.Common.{◌∙◌}
use Rattle.stat_plan.proofs.LookupLemmas.{daemons_at}
use Rattle.merge_filter.proofs.daemons_of.Goals as goal

pub returns : goal.returns
returns c = c.daemons.ensures ∙ daemons_at c.args.plan.now c.args.s _ c.known_stream.ensures
