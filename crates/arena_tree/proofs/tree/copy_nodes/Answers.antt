use Rattle.std.proofs.Common.{◌≡◌, ◌∙◌, ◌++◌, sym, arith, [], ◌∷◌}
use Rattle.arena_tree.specs.NodeViews.{view_behind}
use Rattle.arena_tree.proofs.Changes.{take_one}
use Rattle.arena_tree.proofs.tree.copy_nodes.Goals as goal

pub loop-place-preserved : goal.loop-place-preserved
loop-place-preserved c =
    let node = c.get-node.result.now in
    let same : c.in_ok-copy.copy ≡ node = c.in_ok-copy.ensures ∙ (λ i. view_behind 0 (c.first.ensures i) (c.next.ensures i) node) in
    record {
      room = omega (arith, c.put.ensures.spare, c.loop-place.invariant.room);
      same = c.put.ensures.items ∙ (λ i. c.loop-place.invariant.same i ++ same i ∷ []) ∙ sym (take_one c.args.nodes.now.items c.loop-place.place node c.get-node.ensures);
    }
