use Rattle.std.proofs.Common.{◌<◌, refl, sym, subst, inl, inr, get_or}
use Rattle.stat_plan.proofs.InLists.{in_at}
use Rattle.stat_plan.proofs.Expecting.{gain_first, gain_next}
use Rattle.stat_plan.proofs.expected.add_upwards.Goals as goal

pub bounds-sets-node : goal.bounds-sets-node
bounds-sets-node c = c.requires c.args.node (inl refl)

pub bounds-sets-n : goal.bounds-sets-n
bounds-sets-n c =
    subst (λ k. get_or c.args.above.now c.loop-n.n-index 0 < k) (sym c.loop-n.invariant.paired)
    (c.requires (get_or c.args.above.now c.loop-n.n-index 0) (inr (in_at c.args.above.now c.loop-n.n-index 0 c.loop-n-test.true)))

pub loop-n-init : goal.loop-n-init
loop-n-init c = gain_first c.args.sets.now c.args.node c.args.more.now c.index-sets-node.result c.union_into.new.self (c.requires c.args.node (inl refl)) c.in_ok-union_into.ensures.ok

pub loop-n-preserved : goal.loop-n-preserved
loop-n-preserved c =
    gain_next c.args.sets.now c.loop-n.sets c.args.node c.args.above.now c.loop-n.n-index c.args.more.now c.index-sets-n.result c.union_into-in-loop-n.new.self c.loop-n.invariant c.loop-n-test.true
    (c.requires (get_or c.args.above.now c.loop-n.n-index 0) (inr (in_at c.args.above.now c.loop-n.n-index 0 c.loop-n-test.true)))
    c.in_ok-union_into-2.ensures.ok
