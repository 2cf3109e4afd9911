use Rattle.std.proofs.Common.{List, sym, subst}
use Rattle.overlay_event.specs.declared.event.Event.{Event}
use Rattle.overlay_event.specs.Events.{event_node}
use Rattle.overlay_net.specs.Claims.{FitsNet}
use Rattle.overlay_run.specs.Boards.{BoardView, IsBoard, IsHeldBy, board_view}
use Rattle.overlay_run.proofs.Boards.{committed_board, one_out, ready_fits, same_board}
use Rattle.overlay_run.proofs.board.NetBoard.commit.Goals as goal

pub commit-requires-clause-fits : goal.commit-requires-clause-fits
commit-requires-clause-fits g c κs within =
    let fits : FitsNet c.self.inside.net c.args.claim = subst (λ (v : BoardView). FitsNet v.net c.args.claim) (sym c.self.view_is) c.requires.fits in
    ready_fits c.self.inside.net c.prepare.new.self c.args.claim c.prepare.ensures.same fits

pub overflow_sub-self : goal.overflow_sub-self
overflow_sub-self g c =
    let b = c.self.inside in
    let held : IsHeldBy b.holders.items (event_node c.args.claim.event) c.args.seat c.args.claim.event = subst (λ (v : BoardView). IsHeldBy v.holders (event_node c.args.claim.event) c.args.seat c.args.claim.event) (sym c.self.view_is) c.requires.holder in
    one_out (board_view b.plan.now b.net b.journal b.holders.items b.stopped) b.nodes_out c.args.seat (event_node c.args.claim.event) c.args.claim.event c.self.invariant.1 held

pub invariant_of-self : goal.invariant_of-self
invariant_of-self g c =
    let b = c.self.inside in
    (same_board (board_view b.plan.now b.net b.journal b.holders.items b.stopped) c.prepare.new.self c.self.invariant.0 c.prepare.ensures.same c.prepare.ensures.usable, c.self.invariant.1)

pub invariant_of-self-in_err-push : goal.invariant_of-self-in_err-push
invariant_of-self-in_err-push g c =
    let b = c.self.inside in (
      subst (λ (journal : List Event). IsBoard (board_view b.plan.now c.prepare.new.self journal b.holders.items b.stopped)) (sym c.in_err-push.ensures.err)
          (same_board (board_view b.plan.now b.net b.journal b.holders.items b.stopped) c.prepare.new.self c.self.invariant.0 c.prepare.ensures.same c.prepare.ensures.usable),
      c.self.invariant.1,
    )

pub invariant_of-self-2 : goal.invariant_of-self-2
invariant_of-self-2 g c =
    let b = c.self.inside in
    let claim = c.args.claim in
    let v : BoardView = board_view b.plan.now b.net b.journal b.holders.items b.stopped in
    let fits : FitsNet b.net claim = subst (λ (v : BoardView). FitsNet v.net claim) (sym c.self.view_is) c.requires.fits in
    let held : IsHeldBy b.holders.items (event_node claim.event) c.args.seat claim.event = subst (λ (v : BoardView). IsHeldBy v.holders (event_node claim.event) c.args.seat claim.event) (sym c.self.view_is) c.requires.holder in
    committed_board v c.prepare.new.self c.commit.new.self c.push.new.self claim c.event-event.result c.args.seat c.node.result b.nodes_out c.self.invariant.0 c.self.invariant.1 fits held
    c.prepare.ensures.same c.prepare.ensures.usable c.commit.ensures.usable c.commit.ensures.committed c.event-event.ensures c.in_ok-push.ensures.ok c.node.ensures
