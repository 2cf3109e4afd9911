use Rattle.std.proofs.Common.{◌||◌, sym, ap, ◌∙◌, eq-eqb, ne_eqb}
use Rattle.stat_plan.specs.Plans.{is_under, is_within}
use Rattle.loss_adoption.proofs.complete.is_within.Goals as goal

pub returns-then-d-n : goal.returns-then-d-n
unfolding is_within
returns-then-d-n c =
    let same = eq-eqb c.args.d c.args.n c.if-d-n.true in
    same ∙ sym (ap (λ b. b || is_under c.args.plan.now c.args.d c.args.n) same)

pub returns-else-d-n : goal.returns-else-d-n
unfolding is_within
returns-else-d-n c =
    c.is_under.ensures ∙ sym (ap (λ b. b || is_under c.args.plan.now c.args.d c.args.n) (ne_eqb c.args.d c.args.n c.if-d-n.false))
