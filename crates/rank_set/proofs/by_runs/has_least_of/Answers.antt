use Rattle.std.proofs.Common.{sym, ◌∙◌}
use Rattle.rank_set.proofs.RunWalks.{meet}
use Rattle.rank_set.proofs.SomeMember.{least_member}
use Rattle.rank_set.proofs.by_runs.has_least_of.Goals as goal

pub returns : goal.returns
returns c = λ found. meet c.args.set.now c.args.other.now c.in-Some.least (sym c.contains.ensures ∙ found) (least_member c.args.other.now c.in-Some.least c.in-Some.ensures.least)
