use Rattle.std.proofs.Common.{◌≡◌, ◌∙◌, ap, sym, subst, true}
use Rattle.stat_plan.specs.Plans.{ranks}
use Rattle.stat_plan.specs.Machine.Waves.{covering, is_empty_open}
use Rattle.wave_resend.specs.Books.{book_of}
use Rattle.merge_filter.specs.Contributions.{coverage_of}
use Rattle.overlay_node.specs.Acting.{act_changed}
use Rattle.overlay_node.proofs.Stepping.{finds, fits_at, found_in, steps_as, steps_found}
use Rattle.overlay_node.proofs.work.NodeWork.on_sample.Goals as goal

pub take_sample-requires-clause-known : goal.take_sample-requires-clause-known
take_sample-requires-clause-known g c κs within =
    let hs = c.args.self.now.held.items in
    let i = c.held_index-i.result in
    let h = c.index_mut-wave.result.now in
    let found = finds c.args.s c.args.w hs i h c.requires.known c.held_index-i.ensures.index c.index_mut-wave.ensures.value in
    found_in c.args.s c.args.w hs i h c.args.self.now.work.book c.requires.keys found

pub take_sample-requires-clause-fits : goal.take_sample-requires-clause-fits
take_sample-requires-clause-fits g c κs within =
    let hs = c.args.self.now.held.items in
    let i = c.held_index-i.result in
    let h = c.index_mut-wave.result.now in
    let found = finds c.args.s c.args.w hs i h c.requires.known c.held_index-i.ensures.index c.index_mut-wave.ensures.value in
    fits_at c.args.context.now.plan.now c.args.context.now.kin.now.node _ hs i h found.below found.item c.requires.fits

pub take_sample-requires-clause-empty : goal.take_sample-requires-clause-empty
take_sample-requires-clause-empty g c κs within =
    let hs = c.args.self.now.held.items in
    let i = c.held_index-i.result in
    let h = c.index_mut-wave.result.now in
    let found = finds c.args.s c.args.w hs i h c.requires.known c.held_index-i.ensures.index c.index_mut-wave.ensures.value in
    subst (λ s. is_empty_open (book_of c.args.self.now.work.book s h.wave) ≡ true) (sym found.stream) (subst (λ w. is_empty_open (book_of c.args.self.now.work.book c.args.s w) ≡ true) (sym found.wave) c.requires.empty)

pub take_sample-requires-clause-stream : goal.take_sample-requires-clause-stream
take_sample-requires-clause-stream g c κs within =
    let hs = c.args.self.now.held.items in
    let i = c.held_index-i.result in
    let h = c.index_mut-wave.result.now in
    let found = finds c.args.s c.args.w hs i h c.requires.known c.held_index-i.ensures.index c.index_mut-wave.ensures.value in
    c.in_ok-own.ensures.stream ∙ sym found.stream

pub take_sample-requires-clause-wave : goal.take_sample-requires-clause-wave
take_sample-requires-clause-wave g c κs within =
    let hs = c.args.self.now.held.items in
    let i = c.held_index-i.result in
    let h = c.index_mut-wave.result.now in
    let found = finds c.args.s c.args.w hs i h c.requires.known c.held_index-i.ensures.index c.index_mut-wave.ensures.value in
    c.in_ok-own.ensures.wave ∙ sym found.wave

pub returns : goal.returns
returns g c =
    let p = c.args.context.now.plan.now in
    let n = c.args.context.now.kin.now.node in
    let kin = c.args.context.now.kin.now.kin in
    let hs = c.args.self.now.held.items in
    let i = c.held_index-i.result in
    let h = c.index_mut-wave.result.now in
    let found = finds c.args.s c.args.w hs i h c.requires.known c.held_index-i.ensures.index c.index_mut-wave.ensures.value in
    steps_as p n _ _ _ _ _ _ _ _ (ap (λ set. act_changed p n kin c.args.s c.args.w (covering set)) (c.in_ok-own.ensures.coverage ∙ ap (ranks p) c.node.ensures))
    (steps_found p n (λ s w. act_changed p n kin s w (covering (coverage_of c.in_ok-own.own))) c.args.s c.args.w hs i h c.take_sample.new.held _ _ _ _ c.requires.distinct c.requires.fits found c.in_ok-take_sample.ensures)
