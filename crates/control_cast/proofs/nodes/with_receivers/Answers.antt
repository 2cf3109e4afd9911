use Rattle.std.proofs.Common.{◌∙◌, ◌∷◌, ap, map}
use Rattle.std.proofs.lemmas.List.{take_all}
use Rattle.control_cast.proofs.nodes.with_receivers.Goals as goal

pub returns : goal.returns
returns c = c.loop-to.invariant.numbers ∙ ap (λ vs. c.args.n ∷ map (λ v. v.0) vs) (take_all c.loop-to.to-index c.args.sends.now c.loop-to-test.false)
