use Rattle.std.proofs.Common.{◌++◌, ◌∷◌, [], ◌∙◌}
use Rattle.overlay_node.specs.NodeViews.{held_keys}
use Rattle.wave_resend.proofs.Starting.{waves_more}
use Rattle.overlay_node.proofs.Starting.{fresh_push, keys-push}
use Rattle.overlay_node.proofs.init.add_waves.Goals as goal

pub loop-w-preserved : goal.loop-w-preserved
loop-w-preserved g c = record {
  keys = keys-push c.loop-w.held.items c.push.new.self.items c.fresh_wave.result c.in_ok-push.ensures.items
      ∙ (λ i. held_keys c.loop-w.held.items ++ (c.fresh_wave.ensures.stream i, c.fresh_wave.ensures.wave i) ∷ [])
      ∙ waves_more c.args.s c.loop-w.w (held_keys c.loop-w.held.items) _ c.loop-w.invariant.keys;
  fresh = λ p has before.
      fresh_push p c.loop-w.held.items c.push.new.self.items c.fresh_wave.result c.in_ok-push.ensures.items
      (c.loop-w.invariant.fresh p has before) (c.fresh_wave.ensures.fresh p (has c.loop-w.w c.loop-w-test.true));
}
