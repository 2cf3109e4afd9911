use Rattle.std.proofs.Common.{◌≡◌, ◌≤◌, ◌+◌, ◌-◌, length}
use Rattle.rank_set.specs.declared.TheConstants.{RANK_LIMIT}
use Rattle.equiv_class.specs.Origins.{AreOrigins}
use Rattle.equiv_class.specs.States.{AreTables}
use Rattle.equiv_class.proofs.LedPaths.{AreNoted}
use Rattle.equiv_class.proofs.Parting.{HaveMoved, member_below}
use Rattle.equiv_class.proofs.states.part.Given as goal

abbrev pub invariant-loop-from : goal.invariant-loop-from
invariant-loop-from l = record {
  begins : l.run.first ≤ l.from;
  within : l.from ≤ l.run.last + 1;
  long : length l.states ≡ length l.fn.states;
  tables : AreTables l.states l.next.items;
  origins : AreOrigins l.next.items l.origins.items;
  noted : AreNoted l.path l.base l.fn.origins.items l.next.items l.origins.items;
  moved : HaveMoved (member_below l.ranks l.from) l.base l.fn.states l.states l.next.items;
}

abbrev pub decreases-loop-from : goal.decreases-loop-from
decreases-loop-from l = l.run.last + 1 - l.from

abbrev pub invariant-loop-run : goal.invariant-loop-run
invariant-loop-run l = record {
  within : l.from ≤ RANK_LIMIT;
  long : length l.states ≡ length l.fn.states;
  tables : AreTables l.states l.next.items;
  origins : AreOrigins l.next.items l.origins.items;
  noted : AreNoted l.path l.base l.fn.origins.items l.next.items l.origins.items;
  moved : HaveMoved (member_below l.ranks l.from) l.base l.fn.states l.states l.next.items;
}

abbrev pub decreases-loop-run : goal.decreases-loop-run
decreases-loop-run l = RANK_LIMIT - l.from
