use Rattle.std.proofs.Common.{◌∙◌, ◌==◌, ap, subst, sym}
use Rattle.stat_plan.specs.Machine.Due.{due_act}
use Rattle.stat_plan.specs.Machine.Waves.{has_grown}
use Rattle.stat_plan.specs.Plans.{is_front}
use Rattle.wave_resend.specs.Books.{book_of}
use Rattle.wave_resend.specs.States.{wave_state}
use Rattle.overlay_core.specs.Nodes.{due_at}
use Rattle.overlay_node.specs.Contexts.{due_in}
use Rattle.overlay_node.specs.NodeViews.{HeldFits, HeldView}
use Rattle.overlay_node.proofs.Fitting.{open_stream}
use Rattle.overlay_node.proofs.due.due_for.Goals as goal

pub mode_of-requires : goal.mode_of-requires
mode_of-requires g c =
    let p = c.args.context.now.plan.now in
    let b = c.args.book.now in
    let h : HeldView = record { stream = c.held.inside.stream; wave = c.held.inside.wave; part = c.held.inside.part; release_count = c.held.inside.release_count } in
    open_stream p c.args.context.now.kin.now.node h (book_of b h.stream h.wave) c.in-Open.covered.now c.in-Open.sent.now c.in-Open.timer (sym c.state.ensures ∙ ap wave_state c.in-Open.is)
    (subst (λ (y : HeldView). HeldFits p c.args.context.now.kin.now.node y (book_of b y.stream y.wave)) (sym c.held.view_is) c.requires.fits)

pub returns-in-Open : goal.returns-in-Open
unfolding due_at is_front
returns-in-Open g c =
    c.due.ensures
    ∙ (λ i. due_act (c.mode_of.ensures i) (c.complete-complete.ensures i) (has_grown c.in-Open.covered.now c.in-Open.sent.now) (c.node.ensures i == c.front.ensures.value i) c.in-Open.timer)
    ∙ ap (due_in c.args.context.now c.held.inside.stream) (sym (ap wave_state c.in-Open.is) ∙ c.state.ensures)
    ∙ ap (λ (y : HeldView). due_in c.args.context.now y.stream (book_of c.args.book.now y.stream y.wave)) c.held.view_is
