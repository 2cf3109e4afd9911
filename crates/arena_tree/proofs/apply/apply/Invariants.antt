use Rattle.std.proofs.Common.{◌≡◌, ◌≤◌, length}
use Rattle.arena_tree.specs.Links.{linked}
use Rattle.arena_tree.specs.Steps.{apply_steps, nodes_added}
use Rattle.arena_tree.proofs.apply.apply.Given as goal

abbrev pub invariant-loop-one : goal.invariant-loop-one
invariant-loop-one l = record {
  spare : nodes_added l.left.items ≤ l.nodes.spare;
  same : apply_steps (linked l.first l.nodes.items) l.left.items ≡ apply_steps (linked l.fn.first l.fn.nodes.items) l.fn.steps.items;
}

abbrev pub decreases-loop-one : goal.decreases-loop-one
decreases-loop-one l = length l.left.items
