use Rattle.std.proofs.Common.{◌≡◌, ◌++◌, ◌≤◌, ◌+◌, ◌-◌}
use Rattle.tree_text.specs.TreeText.{indent}
use Rattle.tree_text.proofs.rows.write_indent.Given as goal

abbrev pub invariant-loop-left : goal.invariant-loop-left
invariant-loop-left l = record {
  within : l.left ≤ l.depth;
  text : l.out.items ≡ l.fn.out.items ++ indent (l.depth - l.left);
}

abbrev pub decreases-loop-left : goal.decreases-loop-left
decreases-loop-left l = l.left

abbrev pub invariant-loop : goal.invariant-loop
invariant-loop l = l.out.items ≡ l.fn.out.items ++ indent (l.depth - l.left + l.counter)
