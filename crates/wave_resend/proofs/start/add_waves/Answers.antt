use Rattle.std.proofs.Common.{◌++◌, ◌∷◌, [], ◌∙◌, ap}
use Rattle.wave_resend.specs.Books.{WaveAt, key_of, keys_of}
use Rattle.wave_resend.proofs.Starting.{keys_push, untouched_push, waves_more}
use Rattle.wave_resend.proofs.start.add_waves.Goals as goal

pub loop-w-preserved : goal.loop-w-preserved
loop-w-preserved c = record {
  keys =
      keys_push c.loop-w.entries.items c.push.new.self.items c.untouched.result c.in_ok-push.ensures.items
      ∙ (λ i. keys_of c.loop-w.entries.items ++ key_of (c.untouched.ensures i) ∷ [])
      ∙ waves_more c.args.s c.loop-w.w (keys_of c.loop-w.entries.items) _ c.loop-w.invariant.keys;
  untouched =
      untouched_push c.loop-w.entries.items c.push.new.self.items c.untouched.result c.in_ok-push.ensures.items
      c.loop-w.invariant.untouched (ap (λ (e : WaveAt). e.state) c.untouched.ensures);
}
