use Rattle.std.proofs.Common.{◌∙◌, map, ap}
use Rattle.std.proofs.lemmas.List.{take_all}
use Rattle.overlay_net.proofs.claimed.receivers_of.Goals as goal

pub returns : goal.returns
returns c = c.loop-to.invariant.receivers ∙ ap (map (λ v. v.0)) (take_all c.loop-to.to-index c.args.sends.now c.loop-to-test.false)
