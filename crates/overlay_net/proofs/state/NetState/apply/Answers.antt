use Rattle.std.proofs.Common.{◌≡◌, ◌∙◌, ◌∷◌, ◌++◌, [], false, ap, subst}
use Rattle.event_claims.specs.Claims.{Outs, claimed, come_home}
use Rattle.overlay_net.specs.Nets.{IsReachedBy, outs_of}
use Rattle.overlay_net.specs.Places.{out_at}
use Rattle.overlay_net.specs.States.{net_view}
use Rattle.overlay_net.proofs.Fitting.{fits_same, fits_stay, home_again}
use Rattle.overlay_net.proofs.Refits.{reached_like}
use Rattle.overlay_net.proofs.state.NetState.apply.Goals as goal

pub prepare-requires-clause-fits : goal.prepare-requires-clause-fits
prepare-requires-clause-fits g c κs within = fits_same (net_view g.T.PrefixTree.tree c.args.plan.now c.claim-claim.new.self false) c.claim-claim.result c.in_ok-claim.claim c.in_ok-claim.ensures.same c.claim-claim.ensures.claimed.fits

pub commit-requires-clause-fits : goal.commit-requires-clause-fits
commit-requires-clause-fits g c κs within =
    let tree = g.T.PrefixTree.tree in
    fits_stay (net_view tree c.args.plan.now c.claim-claim.new.self false) (net_view tree c.args.plan.now c.prepare.new.self false) c.claim-claim.result c.in_ok-claim.claim c.in_ok-prepare.ensures.same c.in_ok-claim.ensures.same c.claim-claim.ensures.claimed.fits

pub returns-clause-home : goal.returns-clause-home
returns-clause-home g c n =
    let tree = g.T.PrefixTree.tree in
    let p = c.args.plan.now in
    let old = net_view tree p c.args.self.now false in
    let outs : ◌≡◌ {A = Outs} (outs_of (net_view tree p c.prepare.new.self false)) (claimed (outs_of old) c.args.event) = ap out_at c.in_ok-prepare.ensures.same.outs ∙ c.claim-claim.ensures.claimed.outs in
    (λ i. c.commit.ensures.committed.outs i n)
    ∙ (λ i. come_home (outs i) c.in_ok-claim.claim.event n)
    ∙ home_again (outs_of old) c.args.event c.in_ok-claim.claim.event (c.in_ok-claim.ensures.same.event ∙ c.claim-claim.ensures.claimed.event) c.requires.home n

pub returns-clause-reached : goal.returns-clause-reached
returns-clause-reached g c journal r =
    let tree = g.T.PrefixTree.tree in
    let p = c.args.plan.now in
    let old = net_view tree p c.args.self.now false in
    let out = net_view tree p c.claim-claim.new.self false in
    let ready = net_view tree p c.prepare.new.self false in
    let new = net_view tree p c.commit.new.self false in
    let k = c.claim-claim.ensures.claimed in
    let s = c.in_ok-prepare.ensures.same in
    subst (λ e. IsReachedBy new (journal ++ e ∷ [])) (c.in_ok-claim.ensures.same.event ∙ k.event)
    (c.commit.ensures.committed.reached journal (reached_like out ready journal s.plan s.state s.releases (reached_like old out journal k.plan k.state k.releases r)))
