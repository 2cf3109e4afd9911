use Rattle.std.proofs.Common.{ap, refl, subst, ◌∙◌}
use Rattle.overlay_node.specs.Acting.{done_to}
use Rattle.overlay_node.specs.Outputs.{Sends}
use Rattle.overlay_node.proofs.Telling.{dones_are, dones_step, dones_to, left_more, left_none}
use Rattle.overlay_node.proofs.sending.send_dones.Goals as goal

pub loop-child-preserved : goal.loop-child-preserved
loop-child-preserved g c =
    let p = c.args.context.now.plan.now in
    left_more p (done_to p c.args.s c.args.w) (dones_to p c.args.s c.args.w) (dones_step p c.args.s c.args.w) refl
    c.args.sends.now.items c.loop-child.sends.items c.send_done.new.sends.items c.children-child-items.result.now c.loop-child.child-index 0 c.loop-child-test.true c.in_ok-send_done.ensures c.loop-child.invariant

pub returns : goal.returns
returns g c =
    let p = c.args.context.now.plan.now in
    subst (λ more. Sends p more c.args.sends.now.items c.loop-child.sends.items)
    (ap (dones_to p c.args.s c.args.w) c.children-child-items.ensures ∙ dones_are p c.args.context.now.kin.now.kin c.args.s c.args.w)
    (left_none p (done_to p c.args.s c.args.w) (dones_to p c.args.s c.args.w) (dones_step p c.args.s c.args.w) refl
    c.args.sends.now.items c.loop-child.sends.items c.children-child-items.result.now c.loop-child.child-index c.loop-child-test.false c.loop-child.invariant)
