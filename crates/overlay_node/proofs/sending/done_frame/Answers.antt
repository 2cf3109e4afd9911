use Rattle.std.proofs.Common.{refl}
use Rattle.overlay_core.specs.Nodes.{Done}
use Rattle.overlay_node.proofs.Frames.{frame_from, wave_small}
use Rattle.overlay_node.proofs.Results.{both_if_ok}
use Rattle.overlay_node.proofs.sending.done_frame.Goals as goal

pub encode-requires-after_bounds : goal.encode-requires-after_bounds
encode-requires-after_bounds g c κs within = wave_small c.args.plan.now c.args.s c.args.w c.invariant.ensures c.requires

pub returns : goal.returns
returns g c =
    both_if_ok c.encode.result c.encode.ensures.spelling c.encode.ensures.read_back
    (λ frame spelled back. frame_from c.args.plan.now (Done c.args.s c.args.w) _ frame refl spelled back)
