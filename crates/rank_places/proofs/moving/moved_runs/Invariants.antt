use Rattle.std.proofs.Common.{◌≡◌, ◌≤◌, ◌-◌}
use Rattle.rank_set.specs.declared.TheConstants.{RANK_LIMIT}
use Rattle.rank_places.specs.Table.{cover_of, image, AreMoved}
use Rattle.rank_places.proofs.Images.{before}
use Rattle.rank_places.proofs.moving.moved_runs.Given as goal

abbrev pub invariant-loop-run : goal.invariant-loop-run
invariant-loop-run l = record {
  within : l.from ≤ RANK_LIMIT;
  moves : AreMoved l.way.back (cover_of l.way.runs.now) l.shift.first l.shift.last l.shift.target;
  numbers : l.out ≡ image l.way.back (cover_of l.way.runs.now) (before l.set l.from);
}

abbrev pub decreases-loop-run : goal.decreases-loop-run
decreases-loop-run l = RANK_LIMIT - l.from
