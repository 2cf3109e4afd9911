use Rattle.std.proofs.Common.{◌≡◌, ◌≤◌, ◌+◌, ◌-◌, length}
use Rattle.rank_set.specs.declared.TheConstants.{RANK_LIMIT}
use Rattle.equiv_class.proofs.BlockTable.{IsTable, ranks_at, states_of}
use Rattle.equiv_class.proofs.Filling.{AreFilled}
use Rattle.equiv_class.proofs.StateOrder.{order_below}
use Rattle.equiv_class.proofs.rank_blocks.ranks_by_state.Given as goal

abbrev pub invariant-loop-from : goal.invariant-loop-from
invariant-loop-from l = record {
  begins : l.run.first ≤ l.from;
  within : l.from ≤ l.run.last + 1;
  long : length l.numbers.items ≡ l.end;
  table : IsTable l.numbers.items l.blocks.items;
  filled : AreFilled l.covered l.states l.from (ranks_at l.numbers.items l.blocks.items);
  ordered : states_of l.blocks.items ≡ order_below l.states l.covered l.from;
}

abbrev pub decreases-loop-from : goal.decreases-loop-from
decreases-loop-from l = l.run.last + 1 - l.from

abbrev pub invariant-loop-run : goal.invariant-loop-run
invariant-loop-run l = record {
  within : l.from ≤ RANK_LIMIT;
  long : length l.numbers.items ≡ l.end;
  table : IsTable l.numbers.items l.blocks.items;
  filled : AreFilled l.covered l.states l.from (ranks_at l.numbers.items l.blocks.items);
  ordered : states_of l.blocks.items ≡ order_below l.states l.covered l.from;
}

abbrev pub decreases-loop-run : goal.decreases-loop-run
decreases-loop-run l = RANK_LIMIT - l.from
