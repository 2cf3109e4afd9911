use Rattle.std.proofs.Common.{◌-◌, ◌≡◌, ◌<◌, ◌≤◌, ℕ}
use Rattle.rank_table.specs.Numbers.{number_at}
use Rattle.rank_table.proofs.run_in.Given as goal

abbrev pub invariant-loop-at : goal.invariant-loop-at
invariant-loop-at l = record {
  passed : l.first < l.at;
  within : l.at ≤ l.end;
  same : (r : ℕ) → l.first ≤ r → r < l.at → number_at l.words r ≡ l.number;
}

abbrev pub decreases-loop-at : goal.decreases-loop-at
decreases-loop-at l = l.end - l.at
