use Rattle.std.proofs.Common.{◌∷◌, take}
use Rattle.stat_plan.specs.Tables.{GainRanks}
use Rattle.stat_plan.proofs.expected.add_upwards.Given as goal

abbrev pub invariant-loop-n : goal.invariant-loop-n
invariant-loop-n l = GainRanks l.fn.sets l.sets (l.node ∷ take l.n-index l.above) l.more
