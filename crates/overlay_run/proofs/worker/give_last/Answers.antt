use mir.Syntax.{named}
use Rattle.overlay_run.proofs.Sending.{turn_may_send}
use Rattle.overlay_run.proofs.worker.give_last.Goals as goal

pub give-given-requires-send-B : goal.give-given-requires-send-B
give-given-requires-send-B g c κs within = turn_may_send _ (record { mir = named 0; lft = _ }) _ g.T.PrefixTree c.type_bounds.send-T

pub wake_all-requires-send-B : goal.wake_all-requires-send-B
wake_all-requires-send-B g c κs within = turn_may_send _ (record { mir = named 0; lft = _ }) _ g.T.PrefixTree c.type_bounds.send-T
