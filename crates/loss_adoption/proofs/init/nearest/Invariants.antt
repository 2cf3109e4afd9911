use Rattle.std.proofs.Common.{◌≡◌, drop}
use Rattle.stat_plan.specs.Machine.Kin.{nearest}
use Rattle.loss_adoption.proofs.init.nearest.Given as goal

abbrev pub invariant-loop-a : goal.invariant-loop-a
invariant-loop-a l = nearest (drop l.a-index l.above) l.lost ≡ nearest l.above l.lost
