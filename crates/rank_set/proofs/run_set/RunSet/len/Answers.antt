use Rattle.std.proofs.Common.{arith}
use Rattle.std.proofs.lemmas.List.{length-map}
use Rattle.rank_set.specs.Runs.{run_pair, run_pairs}
use Rattle.rank_set.proofs.RunLists.{runs_count}
use Rattle.rank_set.proofs.run_set.RunSet.len.Goals as goal

pub overflow_cast-result : goal.overflow_cast-result
overflow_cast-result c = omega (arith, c.len.ensures.value, runs_count 0 (run_pairs c.self.inside.runs.items) c.self.invariant (omega arith), length-map c.self.inside.runs.items run_pair)
