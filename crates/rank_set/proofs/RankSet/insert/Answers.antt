use Rattle.std.proofs.Common.{◌∙◌}
use Rattle.rank_set.proofs.RunSets.{union_one}
use Rattle.rank_set.proofs.RankSet.insert.Goals as goal

pub returns-clause-ok : goal.returns-clause-ok
returns-clause-ok c = c.in_ok-put_run.ensures.ok ∙ union_one c.args.self.now c.args.r
