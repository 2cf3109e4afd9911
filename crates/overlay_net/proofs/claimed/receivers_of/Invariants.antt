use Rattle.std.proofs.Common.{◌≡◌, map, take}
use Rattle.overlay_net.proofs.claimed.receivers_of.Given as goal

abbrev pub invariant-loop-to : goal.invariant-loop-to
invariant-loop-to l = record {
  receivers : l.receivers.items ≡ map (λ v. v.0) (take l.to-index l.sends);
}
