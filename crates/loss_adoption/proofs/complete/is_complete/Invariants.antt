use Rattle.std.proofs.Common.{◌≡◌, drop}
use Rattle.std.specs.List.{list_all}
use Rattle.loss_adoption.specs.Settled.{is_settled}
use Rattle.loss_adoption.proofs.complete.is_complete.Given as goal

abbrev pub invariant-loop-d : goal.invariant-loop-d
invariant-loop-d l = list_all (is_settled l.plan l.n l.lost l.covered) (drop l.d-index l.d-items) ≡ list_all (is_settled l.plan l.n l.lost l.covered) l.d-items
