use Rattle.std.proofs.Common.{◌∙◌, subst}
use Rattle.overlay_run.specs.Boards.{IsBoard}
use Rattle.overlay_run.proofs.Seats.{away_fits, away_holds}
use mir.Syntax.{named}
use Rattle.overlay_run.proofs.Sending.{turn_may_send}
use Rattle.overlay_run.proofs.worker.commit_claim.Goals as goal

pub commit-requires-clause-fits : goal.commit-requires-clause-fits
commit-requires-clause-fits g c κs within =
    away_fits c.args.turn.now c.args.seat.now c.take-held.result.board c.board-board.result.now c.args.claim c.requires.away (subst IsBoard c.board-board.ensures.value c.invariant.ensures) c.take-held.ensures.taken.base c.board-board.ensures.value c.take-held.ensures.prefix c.take-held.ensures.still_out c.take-held.ensures.unmoved

pub commit-requires-clause-holder : goal.commit-requires-clause-holder
commit-requires-clause-holder g c κs within = away_holds c.args.turn.now c.args.seat.now c.take-held.result.board c.board-board.result.now c.args.claim c.number-number.result c.requires.away c.board-board.ensures.value (c.number-number.ensures ∙ c.take-held.ensures.seat.number) c.take-held.ensures.still_out

pub take-held-requires-send-B : goal.take-held-requires-send-B
take-held-requires-send-B g c κs within = turn_may_send _ (record { mir = named 0; lft = _ }) _ g.T.PrefixTree c.type_bounds.send-T

pub commit-requires-in-Ok-send-B : goal.commit-requires-in-Ok-send-B
commit-requires-in-Ok-send-B g c κs within = turn_may_send _ (record { mir = named 0; lft = _ }) _ g.T.PrefixTree c.type_bounds.send-T
