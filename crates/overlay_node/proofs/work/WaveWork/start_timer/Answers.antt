use Rattle.std.proofs.Common.{◌≡◌, ◌≤◌, IsSome, sym, subst}
use Rattle.stat_plan.specs.Plans.{mode, stream_of}
use Rattle.stat_plan.specs.Machine.Waves.{ticks}
use Rattle.stat_plan.specs.declared.machine.Act.TheVariants.{Arm}
use Rattle.wave_resend.specs.Books.{book_of}
use Rattle.overlay_core.specs.Nodes.{act}
use Rattle.overlay_node.specs.NodeViews.{HeldFits, HeldView}
use Rattle.overlay_node.specs.Acting.{StepsWave, due_as}
use Rattle.overlay_node.proofs.Fitting.{arm_some, due_open, open_stream}
use Rattle.overlay_node.proofs.Steps.{arm_steps}
use Rattle.overlay_node.proofs.work.WaveWork.start_timer.Goals as goal

pub ticks_in-requires : goal.ticks_in-requires
ticks_in-requires g c =
    let p = c.args.context.now.plan.now in
    let kin = c.args.context.now.kin.now in
    let h = c.args.held.now in
    let d = due_open p kin.node kin.kin.lost h.stream (book_of c.args.self.now.book h.stream h.wave) Arm c.requires.due (λ k. absurd (cc)) in
    subst (λ (y : HeldView). IsSome (stream_of p y.stream)) (sym c.held.view_is) (open_stream p kin.node h _ d.covered d.sent d.timer d.is c.requires.fits)

pub arm-requires-clause-ticks : goal.arm-requires-clause-ticks
arm-requires-clause-ticks g c =
    let p = c.args.context.now.plan.now in
    let kin = c.args.context.now.kin.now in
    let h = c.args.held.now in
    let d = due_open p kin.node kin.kin.lost h.stream (book_of c.args.self.now.book h.stream h.wave) Arm c.requires.due (λ k. absurd (cc)) in
    let some : 1 ≤ ticks (mode p h.stream) = arm_some p kin.node kin.kin.lost h.stream d.covered d.sent d.timer c.invariant.ensures d.due in
    subst (λ x. 1 ≤ x) (sym c.ticks_in.ensures) (subst (λ (y : HeldView). 1 ≤ ticks (mode p y.stream)) (sym c.held.view_is) some)

pub returns : goal.returns
returns g c =
    let p = c.args.context.now.plan.now in
    let n = c.args.context.now.kin.now.node in
    let kin = c.args.context.now.kin.now.kin in
    let b = c.args.self.now.book in
    let h : HeldView = record { stream = c.held.inside.stream; wave = c.held.inside.wave; part = c.held.inside.part; release_count = c.held.inside.release_count } in
    subst (λ (y : HeldView). StepsWave p n (act p n kin y.stream y.wave) y y b c.arm.new.self c.args.self.now.effects c.args.self.now.effects) c.held.view_is
    (arm_steps p n kin h b c.arm.new.self c.args.self.now.effects c.ticks_in.result c.invariant.ensures c.ticks_in.ensures
    (subst (λ (y : HeldView). due_as p n kin.lost y.stream (book_of b y.stream y.wave) ≡ Arm) (sym c.held.view_is) c.requires.due)
    (subst (λ (y : HeldView). HeldFits p n y (book_of b y.stream y.wave)) (sym c.held.view_is) c.requires.fits)
    c.arm.ensures)
