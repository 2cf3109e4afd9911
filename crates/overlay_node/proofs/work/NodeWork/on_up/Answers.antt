use Rattle.std.proofs.Common.{◌∙◌, ap, sym, subst}
use Rattle.stat_plan.specs.Machine.Waves.{growing}
use Rattle.merge_filter.specs.Contributions.{Contrib, IsPartialMerge, coverage_of}
use Rattle.overlay_node.specs.Acting.{act_changed}
use Rattle.overlay_node.proofs.Stepping.{finds, fits_at, found_in, steps_as, steps_found}
use Rattle.overlay_node.proofs.work.NodeWork.on_up.Goals as goal

pub take_up-requires-clause-known : goal.take_up-requires-clause-known
take_up-requires-clause-known g c κs within =
    let hs = c.args.self.now.held.items in
    let i = c.held_index-i.result in
    let h = c.index_mut-wave.result.now in
    let found = finds c.args.s c.args.w hs i h c.requires.known c.held_index-i.ensures.index c.index_mut-wave.ensures.value in
    found_in c.args.s c.args.w hs i h c.args.self.now.work.book c.requires.keys found

pub take_up-requires-clause-fits : goal.take_up-requires-clause-fits
take_up-requires-clause-fits g c κs within =
    let hs = c.args.self.now.held.items in
    let i = c.held_index-i.result in
    let h = c.index_mut-wave.result.now in
    let found = finds c.args.s c.args.w hs i h c.requires.known c.held_index-i.ensures.index c.index_mut-wave.ensures.value in
    fits_at c.args.context.now.plan.now c.args.context.now.kin.now.node _ hs i h found.below found.item c.requires.fits

pub take_up-requires-clause-received_merge : goal.take_up-requires-clause-received_merge
take_up-requires-clause-received_merge g c κs within = subst (IsPartialMerge c.args.context.now.plan.now) (sym c.of_tree-received.ensures) c.requires.received_merge

pub take_up-requires-clause-stream : goal.take_up-requires-clause-stream
take_up-requires-clause-stream g c κs within =
    let hs = c.args.self.now.held.items in
    let i = c.held_index-i.result in
    let h = c.index_mut-wave.result.now in
    let found = finds c.args.s c.args.w hs i h c.requires.known c.held_index-i.ensures.index c.index_mut-wave.ensures.value in
    ap (λ (x : Contrib). x.stream) c.of_tree-received.ensures ∙ sym found.stream

pub take_up-requires-clause-wave : goal.take_up-requires-clause-wave
take_up-requires-clause-wave g c κs within =
    let hs = c.args.self.now.held.items in
    let i = c.held_index-i.result in
    let h = c.index_mut-wave.result.now in
    let found = finds c.args.s c.args.w hs i h c.requires.known c.held_index-i.ensures.index c.index_mut-wave.ensures.value in
    ap (λ (x : Contrib). x.wave) c.of_tree-received.ensures ∙ sym found.wave

pub returns : goal.returns
returns g c =
    let p = c.args.context.now.plan.now in
    let n = c.args.context.now.kin.now.node in
    let kin = c.args.context.now.kin.now.kin in
    let hs = c.args.self.now.held.items in
    let i = c.held_index-i.result in
    let h = c.index_mut-wave.result.now in
    let found = finds c.args.s c.args.w hs i h c.requires.known c.held_index-i.ensures.index c.index_mut-wave.ensures.value in
    steps_as p n _ _ _ _ _ _ _ _ (ap (λ (x : Contrib). act_changed p n kin c.args.s c.args.w (growing (coverage_of x))) c.of_tree-received.ensures)
    (steps_found p n (λ s w. act_changed p n kin s w (growing (coverage_of c.of_tree-received.result))) c.args.s c.args.w hs i h c.take_up.new.held _ _ _ _ c.requires.distinct c.requires.fits found c.in_ok-take_up.ensures)
