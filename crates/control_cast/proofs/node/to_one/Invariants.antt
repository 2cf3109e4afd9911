use Rattle.std.proofs.Common.{◌-◌, ◌≡◌, ◌≤◌, map}
use Rattle.control_cast.specs.Machine.{Cmd, numbers_after}
use Rattle.control_cast.proofs.node.to_one.Given as goal

abbrev pub invariant-loop-i : goal.invariant-loop-i
invariant-loop-i l = record {
  above : l.k ≤ l.i;
  within : l.i - l.k ≤ l.seen - l.k;
  sends : l.sends.items ≡ map (λ i. (l.to, Cmd i)) (numbers_after l.k (l.i - l.k));
}

abbrev pub decreases-loop-i : goal.decreases-loop-i
decreases-loop-i l = l.seen - l.i
