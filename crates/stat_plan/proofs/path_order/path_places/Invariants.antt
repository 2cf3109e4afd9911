use Rattle.std.proofs.Common.{◌≡◌, length}
use Rattle.stat_plan.proofs.path_order.path_places.Given as goal

abbrev pub invariant-loop-place : goal.invariant-loop-place
invariant-loop-place l = length l.places.items ≡ length l.paths
