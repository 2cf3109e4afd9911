use Rattle.std.proofs.Common.{ℕ, ◌∙◌, ap, refl, subst, sym}
use Rattle.std.proofs.lemmas.Result.{on_ok_weaker}
use Rattle.std.specs.List.{AllByRecursion}
use Rattle.merge_filter.specs.Contributions.{HasWave}
use Rattle.wave_resend.specs.Books.{book_of}
use Rattle.overlay_core.specs.TreeReleases.{releases_view}
use Rattle.stat_plan.proofs.PlanFacts.{plan_facts}
use Rattle.overlay_node.specs.Outputs.{Output, Sends}
use Rattle.overlay_node.specs.declared.work.NodeWork.{NodeWork}
use Rattle.overlay_node.specs.NodeViews.{AreHeldFits, held_keys}
use Rattle.overlay_node.specs.Acting.{StepsHeld, tell, told}
use Rattle.overlay_node.proofs.Ticking.{told_steps}
use Rattle.overlay_node.proofs.Waves.{plan_waves}
use Rattle.overlay_node.proofs.work.NodeWork.on_attach.Goals as goal

pub tell_closed-requires-clause-plan_waves : goal.tell_closed-requires-clause-plan_waves
tell_closed-requires-clause-plan_waves g c κs within = subst (AllByRecursion (λ (v : ℕ × ℕ). HasWave c.args.plan.now v.0 v.1)) (sym (ap held_keys c.as_slice.ensures.value ∙ ap (λ (x : NodeWork g.row.T.Denot). held_keys x.held.items) c.self.view_is ∙ c.requires.waves)) (plan_waves c.args.plan.now c.args.kin.now.node)

pub tell_closed-requires-clause-node : goal.tell_closed-requires-clause-node
tell_closed-requires-clause-node g c κs within = ((plan_facts c.args.plan.now c.invariant.ensures).under_nodes c.args.child c.args.kin.now.node c.requires.under).0

pub returns-clause-fits : goal.returns-clause-fits
returns-clause-fits g c =
    on_ok_weaker c.tell_closed.result
    (λ _. c.in_ok-on_attach.ensures.fits c.args.plan.now c.requires.kin ((plan_facts c.args.plan.now c.invariant.ensures).under_nodes c.args.child c.args.kin.now.node c.requires.under).0)
    c.tell_closed.ensures

pub returns-clause-steps : goal.returns-clause-steps
returns-clause-steps g c =
    let p = c.args.plan.now in
    let n = c.args.kin.now.node in
    let b = c.self.inside.0.1.0.0.0 in
    let hs = c.self.inside.0.0.items in
    let o : Output = record { sends = c.self.inside.0.1.0.0.1.0.sends.items; releases = releases_view {X = g.row.T.Denot} g.T.PrefixTree.tree c.self.inside.0.1.0.0.1.0.releases.items } in
    let q : Output = record { sends = c.tell_closed.new.sends.items; releases = releases_view {X = g.row.T.Denot} g.T.PrefixTree.tree c.self.inside.0.1.0.0.1.0.releases.items } in
    on_ok_weaker c.tell_closed.result
    (λ sends. subst (λ (x : NodeWork g.row.T.Denot). StepsHeld p n (tell p c.args.child (held_keys x.held.items)) x.held.items hs x.work.book b x.work.effects q) c.self.view_is (told_steps p n c.args.child (held_keys hs) hs b o q
    (subst (λ (x : NodeWork g.row.T.Denot). AreHeldFits p n (book_of x.work.book) x.held.items) (sym c.self.view_is) c.requires.fits)
    (subst (λ l. Sends p (told p (book_of b) c.args.child (held_keys l)) o.sends q.sends) c.as_slice.ensures.value sends) refl))
    c.tell_closed.ensures
