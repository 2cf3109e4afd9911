use Rattle.overlay_core.specs.Nodes.{Attach}
use Rattle.overlay_node.proofs.Frames.{sends_one}
use Rattle.overlay_node.proofs.sending.send_attach.Goals as goal

pub returns : goal.returns
returns g c = sends_one c.args.plan.now Attach c.args.to c.in_ok-frame.frame _ _ c.in_ok-frame.ensures c.in_ok-push.ensures.items
