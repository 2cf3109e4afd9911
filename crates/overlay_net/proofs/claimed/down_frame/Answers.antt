use Rattle.std.proofs.Common.{refl}
use Rattle.overlay_core.specs.Nodes.{Down}
use Rattle.overlay_node.proofs.Frames.{frame_from}
use Rattle.overlay_node.proofs.Results.{both_if_ok}
use Rattle.overlay_net.proofs.claimed.down_frame.Goals as goal

pub returns : goal.returns
returns g c =
    both_if_ok c.encode.result c.encode.ensures.spelling c.encode.ensures.read_back
    (λ frame spelled back. frame_from c.args.plan.now Down _ frame refl spelled back)
