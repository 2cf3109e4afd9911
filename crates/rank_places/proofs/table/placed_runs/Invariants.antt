use Rattle.rank_places.proofs.Runs.{IsPlacedTo}
use Rattle.rank_places.proofs.table.placed_runs.Given as goal

abbrev pub invariant-loop-run : goal.invariant-loop-run
invariant-loop-run l = IsPlacedTo l.runs l.run-index l.place l.table.items
