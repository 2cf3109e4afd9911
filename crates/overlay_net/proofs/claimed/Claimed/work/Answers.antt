use Rattle.std.proofs.Common.{None, ap, sym, subst}
use Rattle.overlay_net.specs.Claims.{ClaimView, MayBeWorked}
use Rattle.overlay_net.proofs.Working.{fresh_claim, was_worked, worked_claim}
use Rattle.overlay_net.proofs.claimed.Claimed.work.Goals as goal

pub do_event-requires-after_bounds : goal.do_event-requires-after_bounds
do_event-requires-after_bounds g c κs within =
    let s = c.self.inside in
    subst (MayBeWorked c.args.plan.now) (sym (fresh_claim s.event s.before.value s.taken.value s.node s.frame s.work c.args.self c.self.invariant c.self.view_is c.requires.fresh)) c.requires.may

pub invariant_of-result : goal.invariant_of-result
invariant_of-result g c =
    let s = c.self.inside in
    worked_claim s.before.value s.taken.value c.in_ok-node.node None c.in_ok-node.work c.in_ok-node.ensures.receivers

pub returns-clause-worked : goal.returns-clause-worked
returns-clause-worked g c =
    let s = c.self.inside in
    was_worked c.args.plan.now s.before.value s.taken.value s.node c.in_ok-node.node s.frame c.in_ok-node.work c.args.self s.event
    (fresh_claim s.event s.before.value s.taken.value s.node s.frame s.work c.args.self c.self.invariant c.self.view_is c.requires.fresh)
    (ap (λ (v : ClaimView). v.node) (sym c.self.view_is)) (ap (λ (v : ClaimView). v.frame) (sym c.self.view_is))
    c.in_ok-node.ensures.leaves
