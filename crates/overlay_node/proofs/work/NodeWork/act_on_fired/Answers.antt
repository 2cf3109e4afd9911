use Rattle.std.proofs.Common.{◌≤◌, ◌∙◌, sym, subst}
use Rattle.overlay_node.specs.Acting.{act_fired}
use Rattle.overlay_node.proofs.Stepping.{below_now, each_all, each_next, fits_at, item_in, same_length}
use Rattle.overlay_node.proofs.work.NodeWork.act_on_fired.Goals as goal

pub act_if_fired-requires-clause-known : goal.act_if_fired-requires-clause-known
act_if_fired-requires-clause-known g c κs within =
    let start = c.args.self.now.held.items in
    let now = c.loop-i.self.held.items in
    item_in now c.loop-i.i c.index_mut-wave.result.now c.loop-i.self.work.book (c.loop-i.invariant.held_keys ∙ c.requires.keys ∙ sym c.loop-i.invariant.keys)
    (below_now start now c.loop-i.i _ _ c.loop-i.invariant.held_keys c.len-i-end.ensures c.args.self.now.held.ok.0 c.loop-i-test.true) c.index_mut-wave.ensures.value

pub act_if_fired-requires-clause-fits : goal.act_if_fired-requires-clause-fits
act_if_fired-requires-clause-fits g c κs within =
    let start = c.args.self.now.held.items in
    let now = c.loop-i.self.held.items in
    fits_at c.args.context.now.plan.now c.args.context.now.kin.now.node _ now c.loop-i.i c.index_mut-wave.result.now
    (below_now start now c.loop-i.i _ _ c.loop-i.invariant.held_keys c.len-i-end.ensures c.args.self.now.held.ok.0 c.loop-i-test.true) c.index_mut-wave.ensures.value c.loop-i.invariant.fits

pub loop-i-preserved : goal.loop-i-preserved
loop-i-preserved g c =
    let p = c.args.context.now.plan.now in
    let n = c.args.context.now.kin.now.node in
    let start = c.args.self.now.held.items in
    let now = c.loop-i.self.held.items in
    each_next p n (act_fired p n c.args.context.now.kin.now.kin) start now c.loop-i.i c.index_mut-wave.result.now c.act_if_fired.new.held _ _ _ _ _ _ c.requires.distinct c.loop-i.invariant
    (below_now start now c.loop-i.i _ _ c.loop-i.invariant.held_keys c.len-i-end.ensures c.args.self.now.held.ok.0 c.loop-i-test.true) c.index_mut-wave.ensures.value c.in_ok-act_if_fired.ensures

pub returns : goal.returns
returns g c =
    let p = c.args.context.now.plan.now in
    let n = c.args.context.now.kin.now.node in
    let start = c.args.self.now.held.items in
    let now = c.loop-i.self.held.items in
    each_all p n (act_fired p n c.args.context.now.kin.now.kin) start now c.loop-i.i _ _ _ _ c.loop-i.invariant
    (subst (λ k. k ≤ c.loop-i.i) (c.len-i-end.ensures ∙ c.args.self.now.held.ok.0 ∙ sym (same_length start now c.loop-i.invariant.held_keys)) c.loop-i-test.false)
