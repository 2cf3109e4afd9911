use Rattle.std.proofs.Common.{◌≡◌}
use Rattle.control_cast.specs.Machine.{numbers_after}
use Rattle.control_cast.proofs.net.numbers.Given as goal

abbrev pub invariant-loop-i : goal.invariant-loop-i
invariant-loop-i l = record {
  numbers : l.numbers.items ≡ numbers_after 0 l.i;
}
