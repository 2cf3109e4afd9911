use Rattle.std.proofs.Common.{◌≡◌, ◌∙◌, [], false, sym, ap, subst}
use Rattle.overlay_core.specs.Pick.{picked}
use Rattle.overlay_net.specs.Nets.{NetView, IsReachedBy}
use Rattle.overlay_net.specs.States.{net_view}
use Rattle.overlay_net.proofs.Picks.{picked_at_start}
use Rattle.overlay_net.proofs.net.Net.run_picked.Goals as goal

pub returns-in-Ok-clause-start : goal.returns-in-Ok-clause-start
returns-in-Ok-clause-start g c start =
    let tree = g.T.PrefixTree.tree in
    let p = c.self.inside.plan.now in
    let old_is : net_view tree p c.self.inside.state false ≡ c.args.self.now = (λ i. net_view tree p c.self.inside.state (sym c.if-self.false i)) ∙ c.self.view_is in
    let r = picked_at_start (net_view tree p c.self.inside.state false) (net_view tree p c.run_picked.new.self false) c.args.seed c.in-Ok.journal c.invariant.ensures c.in-Ok.ensures.picked (subst (λ (v : NetView). IsReachedBy v []) (sym old_is) start) in
    (r.0 ∙ ap (λ (v : NetView). picked v.plan c.args.seed) old_is, subst (λ b. IsReachedBy (net_view tree p c.run_picked.new.self b) c.in-Ok.journal) (sym c.if-self.false) r.1)
