use Rattle.std.proofs.Common.{◌≡◌, map, take}
use Rattle.stat_plan.specs.PathOrder.{has_rank}
use Rattle.stat_plan.proofs.limit.wave_is_within.Given as goal

abbrev pub invariant-loop-ranks : goal.invariant-loop-ranks
invariant-loop-ranks l = l.seen.items ≡ map has_rank (take l.ranks-index l.ranks-items)
