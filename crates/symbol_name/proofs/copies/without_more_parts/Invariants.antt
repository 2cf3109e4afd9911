use Rattle.std.proofs.Common.{◌≡◌, length}
use Rattle.symbol_name.specs.Copies.{without_part}
use Rattle.symbol_name.specs.Repeats.{settled}
use Rattle.symbol_name.proofs.copies.without_more_parts.Given as goal

abbrev pub invariant-loop-shorter : goal.invariant-loop-shorter
invariant-loop-shorter l = settled without_part l.left ≡ settled without_part l.text

abbrev pub decreases-loop-shorter : goal.decreases-loop-shorter
decreases-loop-shorter l = length l.left
