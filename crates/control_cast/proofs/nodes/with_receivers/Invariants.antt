use Rattle.std.proofs.Common.{◌≡◌, ◌∷◌, map, take}
use Rattle.control_cast.proofs.nodes.with_receivers.Given as goal

abbrev pub invariant-loop-to : goal.invariant-loop-to
invariant-loop-to l = record {
  numbers : l.numbers.items ≡ l.n ∷ map (λ v. v.0) (take l.to-index l.sends);
}
