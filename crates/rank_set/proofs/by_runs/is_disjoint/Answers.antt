use Rattle.std.proofs.Common.{◌∙◌}
use Rattle.rank_set.proofs.RunWalks.{met_either_way}
use Rattle.rank_set.proofs.by_runs.is_disjoint.Goals as goal

pub returns-in-Words : goal.returns-in-Words
returns-in-Words c = c.meets_no_run.ensures ∙ met_either_way c.args.set.now c.args.other.now
