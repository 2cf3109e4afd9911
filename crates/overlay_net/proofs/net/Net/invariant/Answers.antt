use Rattle.std.proofs.Common.{◌∙◌, ap, subst}
use Rattle.overlay_net.specs.Nets.{NetView, IsReachedBy}
use Rattle.overlay_net.proofs.Seen.{seen_net}
use Rattle.overlay_net.proofs.net.Net.invariant.Goals as goal

pub returns : goal.returns
returns g c =
    let net = seen_net g.T.PrefixTree.tree c.self.inside.plan.now c.self.inside.state (c.self.invariant (ap (λ (v : NetView). v.failed) c.self.view_is ∙ c.requires)) in
    (net.journal, subst (λ (v : NetView). IsReachedBy v net.journal) c.self.view_is (record { legal = net.reached.legal; state = net.reached.state; numbered = net.reached.numbered; trees = net.reached.trees }))
