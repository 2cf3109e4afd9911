use Rattle.std.proofs.Common.{◌∙◌, nat_lt, sym, ap}
use Rattle.overlay_net.proofs.nodes.NetNodes.any_losing.Goals as goal

pub returns : goal.returns
returns g c none = c.requires (ap (nat_lt 0) (sym c.total.ensures) ∙ none)
