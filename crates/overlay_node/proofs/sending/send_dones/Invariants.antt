use Rattle.std.proofs.Common.{refl, drop}
use Rattle.overlay_node.specs.Acting.{done_to}
use Rattle.overlay_node.proofs.Telling.{AreLeft, dones_step, dones_to}
use Rattle.overlay_node.proofs.sending.send_dones.Given as goal

abbrev pub invariant-loop-child : goal.invariant-loop-child
invariant-loop-child g l =
    AreLeft l.context.plan.now (done_to l.context.plan.now l.s l.w) (dones_to l.context.plan.now l.s l.w) (dones_step l.context.plan.now l.s l.w) refl
    l.fn.sends.items l.sends.items (drop l.child-index l.child-items) l.child-items
