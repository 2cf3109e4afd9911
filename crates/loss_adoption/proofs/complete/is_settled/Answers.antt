use Rattle.std.proofs.Common.{sym, ap, ◌∙◌}
use Rattle.rank_set.specs.Ranks.{is_subset}
use Rattle.stat_plan.proofs.LookupLemmas.{member-contains}
use Rattle.loss_adoption.proofs.Completion.{settled_if_lost}
use Rattle.loss_adoption.proofs.complete.is_settled.Goals as goal

pub returns-else-is_subset : goal.returns-else-is_subset
returns-else-is_subset c =
    c.contains.ensures.value ∙ member-contains c.args.d c.args.lost.now
    ∙ settled_if_lost c.args.plan.now c.args.n c.args.lost.now c.args.covered.now c.args.d
    (sym c.is_within.ensures ∙ c.if-not-is_within.false)
    (ap (λ set. is_subset set c.args.covered.now) (sym c.ranks.ensures) ∙ sym c.is_subset.ensures ∙ c.if-is_subset.false)
