use Rattle.std.proofs.Common.{◌≡◌, ◌-◌}
use Rattle.stack_path.specs.Recursion.{cycle_len, cycle_from}
use Rattle.stack_path.specs.StackViews.{stack_view}
use Rattle.stack_path.proofs.recursion.cycle_len.Given as goal

-- no shorter cycle was found
abbrev pub invariant-loop-n : goal.invariant-loop-n
invariant-loop-n l = cycle_len (stack_view l.stack) ≡ cycle_from (33 - l.n) l.n (stack_view l.stack)
