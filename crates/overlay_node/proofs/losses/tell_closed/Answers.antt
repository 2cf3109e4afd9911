use Rattle.std.proofs.Common.{◌≤◌, ◌<◌, ◌∷◌, [], refl, subst, sym}
use Rattle.wave_resend.specs.Books.{book_of}
use Rattle.merge_filter.specs.Contributions.{HasWave}
use Rattle.overlay_node.specs.Acting.{told}
use Rattle.overlay_node.specs.NodeViews.{held_keys}
use Rattle.overlay_node.specs.Outputs.{Sends}
use Rattle.overlay_node.proofs.Stepping.{item_in, key_is, length_keys}
use Rattle.overlay_node.proofs.Telling.{all_at, left_more, left_none, told_step}
use Rattle.overlay_node.proofs.losses.tell_closed.Goals as goal

pub tell_if_closed-requires-clause-plan_wave : goal.tell_if_closed-requires-clause-plan_wave
tell_if_closed-requires-clause-plan_wave g c κs within =
    let hs = c.args.held.now in
    let i = c.loop-wave.wave-index in
    subst (λ v. HasWave c.args.plan.now v.0 v.1) (key_is hs i c.wave-item.result (0, 0) c.loop-wave-test.true c.wave-item.is)
    (all_at (λ v. HasWave c.args.plan.now v.0 v.1) (held_keys hs) i (0, 0) (subst (λ n. i < n) (sym (length_keys hs)) c.loop-wave-test.true) c.requires.plan_waves)

pub tell_if_closed-requires-clause-known : goal.tell_if_closed-requires-clause-known
tell_if_closed-requires-clause-known g c κs within = item_in c.args.held.now c.loop-wave.wave-index c.wave-item.result c.args.book.now c.requires.keys c.loop-wave-test.true c.wave-item.is

pub loop-wave-preserved : goal.loop-wave-preserved
loop-wave-preserved g c =
    let p = c.args.plan.now in
    let book = book_of c.args.book.now in
    let hs = c.args.held.now in
    let i = c.loop-wave.wave-index in
    left_more p (λ v. told p book c.args.to (v ∷ [])) (told p book c.args.to) (told_step p book c.args.to) refl
    c.args.sends.now.items c.loop-wave.sends.items c.tell_if_closed.new.sends.items (held_keys hs) i (0, 0)
    (subst (λ n. i < n) (sym (length_keys hs)) c.loop-wave-test.true)
    (subst (λ v. Sends p (told p book c.args.to (v ∷ [])) c.loop-wave.sends.items c.tell_if_closed.new.sends.items) (sym (key_is hs i c.wave-item.result (0, 0) c.loop-wave-test.true c.wave-item.is)) c.in_ok-tell_if_closed.ensures)
    c.loop-wave.invariant

pub returns : goal.returns
returns g c =
    let p = c.args.plan.now in
    let book = book_of c.args.book.now in
    let hs = c.args.held.now in
    left_none p (λ v. told p book c.args.to (v ∷ [])) (told p book c.args.to) (told_step p book c.args.to) refl
    c.args.sends.now.items c.loop-wave.sends.items (held_keys hs) c.loop-wave.wave-index (subst (λ n. n ≤ c.loop-wave.wave-index) (sym (length_keys hs)) c.loop-wave-test.false) c.loop-wave.invariant
