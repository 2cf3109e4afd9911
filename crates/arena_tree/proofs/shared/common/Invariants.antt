use Rattle.std.proofs.Common.{◌≤◌, ◌-◌}
use Rattle.arena_tree.proofs.SharedFrames.{Known}
use Rattle.arena_tree.proofs.shared.common.Given as goal

abbrev pub invariant-loop-n : goal.invariant-loop-n
invariant-loop-n l = record {
  within : l.n ≤ l.most;
  known : Known l.own l.other l.i l.j l.n;
}

abbrev pub decreases-loop-n : goal.decreases-loop-n
decreases-loop-n l = l.most - l.n
