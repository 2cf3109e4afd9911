use mir.Syntax.{named}
use Rattle.overlay_run.proofs.Sending.{turn_may_send}
use Rattle.overlay_run.proofs.run.split_seats.Goals as goal

pub split-seat-requires-send-B : goal.split-seat-requires-send-B
split-seat-requires-send-B g c κs within = turn_may_send _ (record { mir = named 0; lft = _ }) _ g.T.PrefixTree c.type_bounds.send-T
