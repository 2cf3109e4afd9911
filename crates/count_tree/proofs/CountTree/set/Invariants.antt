use Rattle.std.proofs.Common.{◌≡◌, ◌/◌, ◌*◌, ◌<◌, take, drop}
use Rattle.count_tree.specs.Sums.{IsTreeBut}
use Rattle.count_tree.proofs.CountTree.set.Given as goal

-- the parent of the node is stale, and the counts are as they are to be
abbrev pub invariant-loop-node : goal.invariant-loop-node
invariant-loop-node l =
    let t = l.self-inside in
    let before = l.initial.self-inside in
    record {
      some : 0 < l.node;
      inside : l.node < 2 * t.leaves;
      tree : IsTreeBut (l.node / 2) t.sums.items t.leaves t.places;
      counts : take t.places (drop t.leaves t.sums.items) ≡ take before.places (drop before.leaves before.sums.items);
    }

abbrev pub decreases-loop-node : goal.decreases-loop-node
decreases-loop-node l = l.node
