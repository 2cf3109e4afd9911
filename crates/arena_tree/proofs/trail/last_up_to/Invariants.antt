use Rattle.std.proofs.Common.{◌≢◌, IfSome}
use Rattle.arena_tree.specs.ChainForest.{count_nodes}
use Rattle.arena_tree.specs.Reading.{forest_at}
use Rattle.arena_tree.specs.Trail.{IsLaterSibling, IsStart}
use Rattle.arena_tree.proofs.trail.last_up_to.Given as goal

abbrev pub invariant-loop-next : goal.invariant-loop-next
invariant-loop-next l = record {
  next : l.next ≢ 4294967295 → IsLaterSibling (forest_at l.nodes.items l.root) l.first l.next;
  last : IfSome l.last (λ at. IsStart l.nodes.items l.root l.first l.frame at);
}

abbrev pub decreases-loop-next : goal.decreases-loop-next
decreases-loop-next l = count_nodes (forest_at l.nodes.items l.next)
