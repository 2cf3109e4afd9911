use Rattle.std.proofs.Common.{◌≡◌, ◌<◌, ◌≤◌, ◌-◌, ℕ, false, length, get_or}
use Rattle.rank_set.specs.declared.TheConstants.{RANK_LIMIT}
use Rattle.rank_set.specs.Ranks.{has, Has}
use Rattle.value_text.proofs.parser.set_entries.Given as goal

abbrev pub invariant-loop-run : goal.invariant-loop-run
invariant-loop-run l = record {
  all : length l.entries ≡ length l.fn.entries;
  within : l.from ≤ RANK_LIMIT;
  given : (q : ℕ) → q < l.from → Has q l.ranks → get_or l.entries q 0 ≡ l.entry;
  others : (q : ℕ) → has l.ranks q ≡ false → get_or l.entries q 0 ≡ get_or l.fn.entries q 0;
}

abbrev pub decreases-loop-run : goal.decreases-loop-run
decreases-loop-run l = RANK_LIMIT - l.from
