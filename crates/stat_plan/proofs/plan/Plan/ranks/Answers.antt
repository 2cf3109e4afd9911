use Rattle.std.proofs.Common.{◌≡◌, ◌<◌, sym, ap, subst, ◌∙◌, length}
use Rattle.stat_plan.specs.Plans.{Plan}
use Rattle.stat_plan.proofs.Expecting.{ranks_at}
use Rattle.stat_plan.proofs.plan.Plan.ranks.Goals as goal

pub returns : goal.returns
returns c =
    let placed : c.placed.result.now ≡ c.args.self.now.placed = c.placed.ensures ∙ ap (λ (p : Plan). p.placed) c.self.view_is in
    let below = subst (λ k. c.args.n < k) (sym (ap length placed ∙ c.invariant.ensures.samples_fit.paired)) c.requires in
    ranks_at c.args.self.now c.placed.result.now c.args.n c.index-placed-n.result placed below c.index-placed-n.is
