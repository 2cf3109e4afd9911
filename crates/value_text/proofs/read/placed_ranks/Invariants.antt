use Rattle.std.proofs.Common.{◌≡◌, drop}
use Rattle.stat_plan.specs.Samples.{ranks_with, all_ranks}
use Rattle.value_text.proofs.read.placed_ranks.Given as goal

abbrev pub invariant-loop-n : goal.invariant-loop-n
invariant-loop-n l = ranks_with l.ranks (drop l.n l.plan.placed) ≡ all_ranks l.plan.placed
