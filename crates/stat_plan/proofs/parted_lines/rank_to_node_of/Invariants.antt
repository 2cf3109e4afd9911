use Rattle.std.proofs.Common.{◌≡◌, ◌<◌, ℕ, length, get_or}
use Rattle.rank_set.specs.Ranks.{none, Has}
use Rattle.stat_plan.proofs.parted_lines.rank_to_node_of.Given as goal

abbrev pub invariant-loop-ranks : goal.invariant-loop-ranks
invariant-loop-ranks l = (n r : ℕ) → n < l.ranks-index → Has r (get_or l.placed n none) → r < l.end

abbrev pub invariant-loop-n : goal.invariant-loop-n
invariant-loop-n l = record {
  all : length l.rank_to_node ≡ l.end;
  each : (n r : ℕ) → n < l.n → Has r (get_or l.placed n none) → get_or l.rank_to_node r 0 ≡ n;
}
