use Rattle.std.proofs.Common.{◌≡◌}
use Rattle.loss_adoption.proofs.NumberLists.{IsPast}
use Rattle.loss_adoption.proofs.numbers.insert_number.Given as goal

abbrev pub invariant-loop-i : goal.invariant-loop-i
invariant-loop-i l = record {
  same : l.numbers.items ≡ l.fn.numbers.items;
  past : IsPast l.number l.fn.numbers.items l.i;
}
