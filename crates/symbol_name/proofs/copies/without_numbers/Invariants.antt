use Rattle.std.proofs.Common.{◌≡◌, length}
use Rattle.symbol_name.specs.Copies.{without_number}
use Rattle.symbol_name.specs.Repeats.{settled}
use Rattle.symbol_name.proofs.copies.without_numbers.Given as goal

abbrev pub invariant-loop-shorter : goal.invariant-loop-shorter
invariant-loop-shorter l = settled without_number l.left ≡ settled without_number l.text

abbrev pub decreases-loop-shorter : goal.decreases-loop-shorter
decreases-loop-shorter l = length l.left
