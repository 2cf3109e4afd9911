use Rattle.std.proofs.lemmas.Result.{on_ok_weaker}
use Rattle.stat_plan.specs.Machine.Waves.{ticked}
use Rattle.overlay_node.specs.NodeViews.{held_keys}
use Rattle.overlay_node.specs.Acting.{act_fired, each_by, tick_all}
use Rattle.overlay_node.proofs.Fitting.{held_ticked}
use Rattle.overlay_node.proofs.Stepping.{all_changed, steps_then}
use Rattle.overlay_node.proofs.Ticking.{steps_ticked}
use Rattle.overlay_node.proofs.work.NodeWork.on_tick.Goals as goal

pub act_on_fired-requires-clause-fits : goal.act_on_fired-requires-clause-fits
act_on_fired-requires-clause-fits g c κs within =
    let p = c.args.context.now.plan.now in
    let n = c.args.context.now.kin.now.node in
    all_changed p n ticked c.args.self.now.held.items c.args.self.now.work.book c.tick.new.self c.tick.ensures (held_ticked p n) c.requires.fits

pub returns : goal.returns
returns g c =
    let p = c.args.context.now.plan.now in
    let n = c.args.context.now.kin.now.node in
    let kin = c.args.context.now.kin.now.kin in
    on_ok_weaker c.act_on_fired.result
    (λ steps. steps_then p n tick_all (each_by (act_fired p n kin) (held_keys c.args.self.now.held.items)) c.args.self.now.held.items c.args.self.now.held.items c.act_on_fired.new.self.held.items c.args.self.now.work.book c.tick.new.self c.act_on_fired.new.self.work.book c.args.self.now.work.effects c.args.self.now.work.effects c.act_on_fired.new.self.work.effects
    (steps_ticked p n c.args.self.now.held.items c.args.self.now.work.book c.tick.new.self c.args.self.now.work.effects c.tick.ensures c.requires.fits) steps)
    c.act_on_fired.ensures
