use Rattle.std.proofs.Common.{◌≡◌, ℕ}
use Rattle.call_path.specs.Path.{Path}
use Rattle.prefix_tree.specs.Tree.{Marks}
use Rattle.arena_tree.specs.ChainForest.{ChainForest, chain_node, count_nodes}
use Rattle.arena_tree.specs.Steps.{merge_steps}
use Rattle.arena_tree.specs.Targets.{IsTarget, target_forest}
use Rattle.arena_tree.specs.Growth.{CanGrow}
use Rattle.arena_tree.proofs.target.seek.Given as goal

abbrev pub invariant-loop-into : goal.invariant-loop-into
invariant-loop-into l = record {
  target : IsTarget l.nodes.items l.into;
  grows : CanGrow l.nodes.items l.fn.into → CanGrow l.nodes.items l.into;
  same : (n x : ℕ) (gs : Path) (w : Marks) (c t : ChainForest)
      → merge_steps l.fn.into.link n (target_forest l.nodes.items l.fn.into) (chain_node x l.frame gs w c t) ≡ merge_steps l.into.link n (target_forest l.nodes.items l.into) (chain_node x l.frame gs w c t);
}

abbrev pub decreases-loop-into : goal.decreases-loop-into
decreases-loop-into l = count_nodes (target_forest l.nodes.items l.into)
