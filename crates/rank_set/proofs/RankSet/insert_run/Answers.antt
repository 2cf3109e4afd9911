use Rattle.std.proofs.Common.{arith}
use Rattle.rank_set.proofs.RunSets.{union_no_run}
use Rattle.rank_set.proofs.RankSet.insert_run.Goals as goal

pub returns-else-first-last-clause-ok : goal.returns-else-first-last-clause-ok
returns-else-first-last-clause-ok c = union_no_run c.args.self.now c.args.first c.args.last (omega arith)
