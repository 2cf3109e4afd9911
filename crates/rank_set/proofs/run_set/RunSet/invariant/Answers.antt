use Rattle.std.proofs.Common.{ap, ◌∙◌}
use Rattle.rank_set.specs.Ranks.{Ranks, has}
use Rattle.rank_set.specs.Runs.{run_pairs}
use Rattle.rank_set.proofs.RunLists.{runs_small}
use Rattle.rank_set.proofs.run_set.RunSet.invariant.Goals as goal

pub returns : goal.returns
returns c = λ r there. runs_small 0 (run_pairs c.self.inside.runs.items) c.self.invariant r (ap (λ (s : Ranks). has s r) c.self.view_is ∙ there)
