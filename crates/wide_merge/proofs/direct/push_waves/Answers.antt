use Rattle.std.proofs.Common.{◌∙◌, ◌++◌, ◌∷◌, [], ℕ, List, ap}
use Rattle.wide_merge.proofs.Waves.{one_more}
use Rattle.wide_merge.proofs.direct.push_waves.Goals as goal

pub loop-wave-preserved : goal.loop-wave-preserved
loop-wave-preserved c =
    one_more c.args.stream.now.number c.loop-wave.wave c.args.waves.now.items c.loop-wave.waves.items c.push.new.self.items c.loop-wave.invariant
    (c.in_ok-push.ensures.items ∙ ap (λ s. let pair : List (ℕ × ℕ) = (s, c.loop-wave.wave) ∷ [] in c.loop-wave.waves.items ++ pair) c.number.ensures)
