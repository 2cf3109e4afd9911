use Rattle.std.proofs.Common.{◌≡◌, ◌∙◌, Some, true, ap, refl, sym, subst}
use Rattle.std.proofs.lemmas.Result.{on_ok_weaker}
use Rattle.stat_plan.specs.Machine.Waves.{covering, growing, is_empty_open}
use Rattle.wave_resend.specs.Books.{HasSet, book_of}
use Rattle.merge_filter.specs.Contributions.{coverage_of}
use Rattle.overlay_node.specs.NodeViews.{HeldFits, HeldView}
use Rattle.overlay_node.specs.Acting.{StepsWave, act_changed}
use Rattle.overlay_node.proofs.Growing.{changed_steps, growing_is_covering, own_held}
use Rattle.overlay_node.proofs.work.WaveWork.take_sample.Goals as goal

pub act-requires-clause-fits : goal.act-requires-clause-fits
act-requires-clause-fits g c κs within =
    let p = c.args.context.now.plan.now in
    let n = c.args.context.now.kin.now.node in
    let b = c.args.self.now.book in
    let h : HeldView = record { stream = c.held.inside.stream; wave = c.held.inside.wave; part = c.held.inside.part; release_count = c.held.inside.release_count } in
    let new : HeldView = record { stream = c.held.inside.stream; wave = c.held.inside.wave; part = Some c.args.own; release_count = c.held.inside.release_count } in
    own_held p n h new b c.grew.new.self c.args.own
    (subst (λ (y : HeldView). is_empty_open (book_of b y.stream y.wave) ≡ true) (sym c.held.view_is) c.requires.empty)
    (subst (λ (y : HeldView). HeldFits p n y (book_of b y.stream y.wave)) (sym c.held.view_is) c.requires.fits)
    (subst (λ set. HasSet h.stream h.wave (growing set (book_of b h.stream h.wave)) b c.grew.new.self) c.coverage.ensures c.in_ok-grew.ensures.ok)
    c.requires.partial_merge
    (c.requires.stream ∙ ap (λ (y : HeldView). y.stream) (sym c.held.view_is)) (c.requires.wave ∙ ap (λ (y : HeldView). y.wave) (sym c.held.view_is))
    refl refl refl refl

pub returns : goal.returns
returns g c =
    let p = c.args.context.now.plan.now in
    let n = c.args.context.now.kin.now.node in
    let kin = c.args.context.now.kin.now.kin in
    let b = c.args.self.now.book in
    let h : HeldView = record { stream = c.held.inside.stream; wave = c.held.inside.wave; part = c.held.inside.part; release_count = c.held.inside.release_count } in
    let mid : HeldView = record { stream = c.held.inside.stream; wave = c.held.inside.wave; part = Some c.args.own; release_count = c.held.inside.release_count } in
    let empty = subst (λ (y : HeldView). is_empty_open (book_of b y.stream y.wave) ≡ true) (sym c.held.view_is) c.requires.empty in
    on_ok_weaker c.act.result
    (λ step.
    subst (λ (y : HeldView). StepsWave p n (act_changed p n kin y.stream y.wave (covering (coverage_of c.args.own))) y c.act.new.held b c.act.new.self.book c.args.self.now.effects c.act.new.self.effects) c.held.view_is
    (changed_steps p n kin (covering (coverage_of c.args.own)) h mid c.act.new.held b c.grew.new.self c.act.new.self.book c.args.self.now.effects c.act.new.self.effects refl refl refl
    (subst (λ v. HasSet h.stream h.wave v b c.grew.new.self) (growing_is_covering (coverage_of c.args.own) (book_of b h.stream h.wave) empty)
    (subst (λ set. HasSet h.stream h.wave (growing set (book_of b h.stream h.wave)) b c.grew.new.self) c.coverage.ensures c.in_ok-grew.ensures.ok)) step))
    c.act.ensures
