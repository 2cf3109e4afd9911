use Rattle.std.proofs.Common.{subst, sym}
use Rattle.overlay_node.specs.Acting.{AreDistinct}
use Rattle.overlay_node.proofs.Distinct.{waves_at_distinct}
use Rattle.overlay_node.proofs.work.NodeWork.receive.Goals as goal

pub on_up-requires-clause-distinct : goal.on_up-requires-clause-distinct
on_up-requires-clause-distinct g c κs within = subst AreDistinct (sym c.requires.held_keys) (waves_at_distinct c.args.plan.now c.args.kin.now.node c.invariant.ensures)

pub on_done-requires-clause-distinct : goal.on_done-requires-clause-distinct
on_done-requires-clause-distinct g c κs within = subst AreDistinct (sym c.requires.held_keys) (waves_at_distinct c.args.plan.now c.args.kin.now.node c.invariant.ensures)

pub on_down-requires-clause-distinct : goal.on_down-requires-clause-distinct
on_down-requires-clause-distinct g c κs within = subst AreDistinct (sym c.requires.held_keys) (waves_at_distinct c.args.plan.now c.args.kin.now.node c.invariant.ensures)
