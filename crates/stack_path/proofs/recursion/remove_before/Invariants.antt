use Rattle.std.proofs.Common.{◌≡◌, ◌+◌, ◌++◌, take, drop}
use Rattle.stack_path.proofs.recursion.remove_before.Given as goal

-- so many frames are taken out
abbrev pub invariant-loop : goal.invariant-loop
invariant-loop l = l.stack.items ≡ take l.start l.fn.stack.items ++ drop (l.start + l.counter) l.fn.stack.items
