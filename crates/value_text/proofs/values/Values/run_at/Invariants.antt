use Rattle.std.proofs.Common.{◌≡◌, ◌<◌, ◌≤◌, ◌-◌, ℕ}
use Rattle.value_text.specs.Numbers.{number_of}
use Rattle.value_text.proofs.values.Values.run_at.Given as goal

abbrev pub invariant-loop-next : goal.invariant-loop-next
invariant-loop-next l = record {
  number : (r : ℕ) → l.first ≤ r → r < l.next → number_of l.self r ≡ l.number;
  passed : l.first < l.next;
  within : l.next ≤ l.end;
}

abbrev pub decreases-loop-next : goal.decreases-loop-next
decreases-loop-next l = l.end - l.next
