use Rattle.std.proofs.Common.{refl}
use Rattle.rank_set.proofs.RunSearch.{cut_run}
use Rattle.rank_set.proofs.run_set.RunSet.run_within.Goals as goal

pub returns-clause-run : goal.returns-clause-run
returns-clause-run c = cut_run c.args.self.now c.args.self.now c.args.from c.args.to c.in_ok-run.run'.first c.in_ok-run.run'.last c.min.result (λ q _. refl) c.in_ok-run.ensures.run c.if-to-run.false c.min.ensures
