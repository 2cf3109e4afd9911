use Rattle.std.proofs.Common.{length}
use Rattle.stat_plan.proofs.Gathering.{AreLinesFrom}
use Rattle.stat_plan.proofs.wave_lines.lines_of_sets.Given as goal

abbrev pub invariant-loop-ranks : goal.invariant-loop-ranks
invariant-loop-ranks l = AreLinesFrom l.fn.sets.items l.time l.left.items l.lines.items

abbrev pub decreases-loop-ranks : goal.decreases-loop-ranks
decreases-loop-ranks l = length l.left.items
