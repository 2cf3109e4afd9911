use Rattle.std.proofs.Common.{◌-◌, ◌≡◌, ◌<◌, ◌≤◌, ℕ, length}
use Rattle.rank_table.specs.Numbers.{number_at}
use Rattle.rank_table.proofs.set_in.Given as goal

abbrev pub invariant-loop-at : goal.invariant-loop-at
invariant-loop-at l = record {
  begins : l.first ≤ l.at;
  within : l.at ≤ l.end;
  long : length l.words ≡ length l.fn.words;
  given : (r : ℕ) → l.first ≤ r → r < l.at → number_at l.words r ≡ l.number;
  below : (r : ℕ) → r < l.first → number_at l.words r ≡ number_at l.fn.words r;
  above : (r : ℕ) → l.at ≤ r → number_at l.words r ≡ number_at l.fn.words r;
}

abbrev pub decreases-loop-at : goal.decreases-loop-at
decreases-loop-at l = l.end - l.at
