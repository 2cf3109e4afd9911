use Rattle.std.proofs.Common.{◌<◌, subst, sym, ◌∙◌}
use Rattle.std.specs.Prelude.{◌≢◌}
use Rattle.rank_set.specs.Ranks.{none}
use Rattle.prefix_tree.specs.Tree.{Tree}
use Rattle.packet_frame.specs.declared.packet.Packet.TheVariants.{Up as FrameUp}
use Rattle.overlay_core.specs.Nodes.{Up}
use Rattle.merge_filter.specs.Contributions.{coverage_of}
use Rattle.overlay_node.proofs.Frames.{frame_from, up_packet, wave_small}
use Rattle.overlay_node.proofs.Results.{both_if_ok}
use Rattle.overlay_node.proofs.sending.up_frame.Goals as goal

pub encode_up-requires-after_bounds : goal.encode_up-requires-after_bounds
encode_up-requires-after_bounds g c κs within =
    let small = wave_small c.args.plan.now c.args.part.now.stream c.args.part.now.wave c.invariant.ensures c.requires.merge.wave in (
      subst (λ x. x < 8) (sym c.stream.ensures) small.0,
      subst (λ x. x < 16) (sym c.wave.ensures) small.1,
      subst (λ (t : Tree). t.coverage ≢ none) (sym c.tree.ensures) c.requires.not_empty,
    )

pub returns : goal.returns
returns g c =
    let part = c.args.part.now in
    let is = (λ i. FrameUp (c.stream.ensures i) (c.wave.ensures i) (c.tree.ensures i)) ∙ up_packet c.args.plan.now part c.requires.merge in
    both_if_ok c.encode_up.result c.encode_up.ensures.spelling c.encode_up.ensures.read_back
    (λ frame spelled back. frame_from c.args.plan.now (Up part.stream part.wave (coverage_of part)) _ frame is spelled back)
