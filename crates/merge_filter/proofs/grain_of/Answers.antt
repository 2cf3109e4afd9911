use Rattle.std.proofs.Common.{◌∙◌}
use Rattle.merge_filter.proofs.Daemons.{grain_at}
use Rattle.merge_filter.proofs.grain_of.Goals as goal

pub returns : goal.returns
returns c = c.grain.ensures ∙ grain_at c.args.plan.now c.args.s _ c.known_stream.ensures
