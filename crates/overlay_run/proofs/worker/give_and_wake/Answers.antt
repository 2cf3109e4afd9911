use mir.Syntax.{named}
use Rattle.overlay_run.proofs.Sending.{turn_may_send}
use Rattle.overlay_run.proofs.worker.give_and_wake.Goals as goal

pub give-requires-send-B : goal.give-requires-send-B
give-requires-send-B g c κs within = turn_may_send _ (record { mir = named 0; lft = _ }) _ g.T.PrefixTree c.type_bounds.send-T

pub wake_one-requires-send-B : goal.wake_one-requires-send-B
wake_one-requires-send-B g c κs within = turn_may_send _ (record { mir = named 0; lft = _ }) _ g.T.PrefixTree c.type_bounds.send-T
