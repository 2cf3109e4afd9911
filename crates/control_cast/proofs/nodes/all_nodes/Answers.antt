use Rattle.std.proofs.Common.{◌≡◌, ◌∙◌, ap, arith}
use Rattle.overlay_setup.specs.NodeSets.{up_to}
use Rattle.stat_plan.specs.Plans.{nodes}
use Rattle.control_cast.proofs.nodes.all_nodes.Goals as goal

pub returns : goal.returns
returns c =
    let e : c.loop-n.n ≡ nodes c.args.plan.now = omega (arith, c.loop-n-test.false, c.loop-n.auto.n-end, c.nodes-n-end.ensures) in
    c.loop-n.invariant.numbers ∙ ap up_to e
