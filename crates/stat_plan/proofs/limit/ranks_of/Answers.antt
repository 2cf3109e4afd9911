use Rattle.std.proofs.Common.{◌<◌, sym, ap, subst, ◌∙◌, get_or, length, take}
use Rattle.std.proofs.lemmas.List.{take_more}
use Rattle.rank_set.specs.Ranks.{union}
use Rattle.stat_plan.specs.Plans.{ranks_on}
use Rattle.stat_plan.proofs.InLists.{in_at}
use Rattle.stat_plan.proofs.Expecting.{ranks_on-push, ranks_at}
use Rattle.stat_plan.specs.Files.{plan_in}
use Rattle.stat_plan.proofs.limit.ranks_of.Goals as goal

pub bounds-placed-d : goal.bounds-placed-d
bounds-placed-d c =
    subst (λ k. get_or c.args.daemons.now c.loop-d.d-index 0 < k) (sym (ap length c.placed-placed.ensures ∙ c.invariant.ensures.samples_fit.paired))
    (c.requires.daemons (get_or c.args.daemons.now c.loop-d.d-index 0) (in_at c.args.daemons.now c.loop-d.d-index 0 c.loop-d-test.true))

pub loop-d-preserved : goal.loop-d-preserved
loop-d-preserved c =
    let d = get_or c.args.daemons.now c.loop-d.d-index 0 in
    let below = subst (λ k. d < k) (sym (ap length c.placed-placed.ensures ∙ c.invariant.ensures.samples_fit.paired)) (c.requires.daemons d (in_at c.args.daemons.now c.loop-d.d-index 0 c.loop-d-test.true)) in
    let own = ranks_at (plan_in c.args.files) c.placed-placed.result.now d c.index-placed-d.result c.placed-placed.ensures below c.index-placed-d.is in
    c.in_ok-union_into.ensures.ok
    ∙ ap (λ s. union s c.index-placed-d.result) c.loop-d.invariant
    ∙ ap (union (ranks_on (plan_in c.args.files) (take c.loop-d.d-index c.args.daemons.now))) own
    ∙ sym (ranks_on-push (plan_in c.args.files) (take c.loop-d.d-index c.args.daemons.now) d)
    ∙ ap (ranks_on (plan_in c.args.files)) (sym (take_more c.args.daemons.now c.loop-d.d-index 0 c.loop-d-test.true))
