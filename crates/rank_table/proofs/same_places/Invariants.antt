use Rattle.std.proofs.Common.{◌-◌, ◌≡◌, ◌<◌, ◌≤◌, ℕ, get_or}
use Rattle.rank_table.proofs.same_places.Given as goal

abbrev pub invariant-loop-at : goal.invariant-loop-at
invariant-loop-at l = record {
  from_first : l.first ≤ l.at;
  within : l.at ≤ l.end;
  same : (i : ℕ) → l.first ≤ i → i < l.at → get_or l.numbers i 0 ≡ l.number;
}

abbrev pub decreases-loop-at : goal.decreases-loop-at
decreases-loop-at l = l.end - l.at
