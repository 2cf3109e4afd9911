use Rattle.std.proofs.Common.{◌∙◌, ap, refl}
use Rattle.board_turn.specs.Seats.{seat_number}
use Rattle.overlay_run.specs.Boards.{BoardView}
use Rattle.overlay_run.proofs.Seats.{is_away}
use mir.Syntax.{named}
use Rattle.overlay_run.proofs.Sending.{turn_may_send}
use Rattle.overlay_run.proofs.worker.find_next.Goals as goal

pub returns-clause-found : goal.returns-clause-found
returns-clause-found g c = (
  c.in-Some.ensures.fresh,
  is_away c.args.turn.now c.give_and_wake.new.seat c.claim.new.self c.in-Some.claim (seat_number c.args.seat.now) c.event-event.result c.claim.new.self.journal
      c.give_and_wake.ensures.seat_of_turn c.give_and_wake.ensures.seat.turn (c.give_and_wake.ensures.seat.number ∙ c.claim-2.ensures.seat.number) (c.give_and_wake.ensures.seat.out ∙ c.claim-2.ensures.seat.out) (c.give_and_wake.ensures.seat.journal ∙ c.claim-2.ensures.seat.journal) refl c.event-event.ensures
      c.in-Some.ensures.fits c.invariant.ensures (c.claim.ensures.plan ∙ ap (λ (v : BoardView). v.plan) c.board-board.ensures.value ∙ c.requires.holds.taken.base),
)

pub claim-requires-2-send-B : goal.claim-requires-2-send-B
claim-requires-2-send-B g c κs within = turn_may_send _ (record { mir = named 0; lft = _ }) _ g.T.PrefixTree c.type_bounds.send-T
