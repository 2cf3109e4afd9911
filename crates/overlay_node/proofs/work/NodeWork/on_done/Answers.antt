use Rattle.overlay_node.specs.Acting.{end}
use Rattle.overlay_node.proofs.Stepping.{finds, fits_at, found_in, steps_found}
use Rattle.overlay_node.proofs.work.NodeWork.on_done.Goals as goal

pub end-requires-clause-known : goal.end-requires-clause-known
end-requires-clause-known g c κs within =
    let hs = c.args.self.now.held.items in
    let i = c.held_index-i.result in
    let h = c.index_mut-wave.result.now in
    let found = finds c.args.s c.args.w hs i h c.requires.known c.held_index-i.ensures.index c.index_mut-wave.ensures.value in
    found_in c.args.s c.args.w hs i h c.args.self.now.work.book c.requires.keys found

pub end-requires-clause-fits : goal.end-requires-clause-fits
end-requires-clause-fits g c κs within =
    let hs = c.args.self.now.held.items in
    let i = c.held_index-i.result in
    let h = c.index_mut-wave.result.now in
    let found = finds c.args.s c.args.w hs i h c.requires.known c.held_index-i.ensures.index c.index_mut-wave.ensures.value in
    fits_at c.args.context.now.plan.now c.args.context.now.kin.now.node _ hs i h found.below found.item c.requires.fits

pub returns : goal.returns
returns g c =
    let p = c.args.context.now.plan.now in
    let n = c.args.context.now.kin.now.node in
    let hs = c.args.self.now.held.items in
    let i = c.held_index-i.result in
    let h = c.index_mut-wave.result.now in
    let found = finds c.args.s c.args.w hs i h c.requires.known c.held_index-i.ensures.index c.index_mut-wave.ensures.value in
    steps_found p n (end p c.args.context.now.kin.now.kin) c.args.s c.args.w hs i h c.end.new.held _ _ _ _ c.requires.distinct c.requires.fits found c.in_ok-end.ensures
