use Rattle.std.proofs.Common.{◌≡◌, ◌<◌, ◌≤◌, ◌-◌, ℕ, false, length, get_or}
use Rattle.rank_set.specs.declared.TheConstants.{RANK_LIMIT}
use Rattle.rank_set.specs.Ranks.{has, Has}
use Rattle.stat_plan.proofs.parted_lines.assign.Given as goal

abbrev pub invariant-loop-run : goal.invariant-loop-run
invariant-loop-run l = record {
  all : length l.rank_to_node ≡ length l.fn.rank_to_node;
  within : l.from ≤ RANK_LIMIT;
  settled : (q : ℕ) → q < l.from → Has q l.ranks → get_or l.rank_to_node q 0 ≡ l.node;
  others : (q : ℕ) → has l.ranks q ≡ false → get_or l.rank_to_node q 0 ≡ get_or l.fn.rank_to_node q 0;
}

abbrev pub decreases-loop-run : goal.decreases-loop-run
decreases-loop-run l = RANK_LIMIT - l.from
