use Rattle.std.proofs.Common.{◌≡◌}
use Rattle.control_cast.specs.CastNets.{notices_below}
use Rattle.control_cast.proofs.loss.notices.Given as goal

abbrev pub invariant-loop-b : goal.invariant-loop-b
invariant-loop-b l = record {
  sent : l.sends.items ≡ notices_below l.plan l.n l.b;
}
