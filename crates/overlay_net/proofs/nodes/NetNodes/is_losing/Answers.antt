use Rattle.std.proofs.Common.{◌∙◌, ◌<◌, length, sym, ap, arith}
use Rattle.event_claims.specs.Claims.{is_loss_of}
use Rattle.overlay_net.proofs.ReadPlaces.{out_read}
use Rattle.overlay_net.proofs.nodes.NetNodes.is_losing.Goals as goal

pub returns-then-i-len : goal.returns-then-i-len
returns-then-i-len g c =
    let below : c.args.n < length c.args.self.now.places.items = omega (arith, c.if-i-len.true, c.len.ensures, c.args.self.now.places.ok) in
    c.is_loss.ensures ∙ ap (λ o. is_loss_of o c.args.n) (c.event.ensures ∙ sym (out_read c.args.self.now.places.items c.args.n c.index.result.now below c.index.ensures))
