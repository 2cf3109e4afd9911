use Rattle.std.proofs.Common.{take}
use Rattle.overlay_core.specs.Nodes.{act}
use Rattle.overlay_node.specs.NodeViews.{held_keys}
use Rattle.overlay_node.specs.Acting.{StepsHeld, each_by}
use Rattle.overlay_node.proofs.work.NodeWork.act_on_each.Given as goal

abbrev pub invariant-loop-i : goal.invariant-loop-i
invariant-loop-i g l =
    StepsHeld l.context.plan.now l.context.kin.now.node (each_by (act l.context.plan.now l.context.kin.now.node l.context.kin.now.kin) (take l.i (held_keys l.fn.self.held.items)))
    l.fn.self.held.items l.self.held.items l.fn.self.work.book l.self.work.book l.fn.self.work.effects l.self.work.effects
