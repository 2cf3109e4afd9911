use Rattle.std.proofs.Common.{◌∙◌, List, slice_get, ap}
use Rattle.overlay_event.specs.declared.event.Event.{Event}
use Rattle.event_claims.proofs.Claimable.{claimable_home}
use Rattle.overlay_net.specs.Nets.{outs_of, state_of}
use Rattle.overlay_net.proofs.net.Net.enabled.Goals as goal

pub returns : goal.returns
returns g c = c.claimable.ensures ∙ ap (λ (es : List Event). slice_get es c.args.i) (claimable_home c.args.self.now.plan (state_of c.args.self.now) (outs_of c.args.self.now) c.requires.home)
