use Rattle.std.proofs.Common.{sym, ap, ◌∙◌, get_or, take}
use Rattle.std.proofs.lemmas.List.{take_more}
use Rattle.rank_set.specs.Ranks.{union}
use Rattle.stat_plan.specs.Plans.{ranks_on}
use Rattle.stat_plan.proofs.Expecting.{ranks_on-push}
use Rattle.stat_plan.proofs.InLists.{in_at}
use Rattle.merge_filter.proofs.ranks_of.Goals as goal

pub ranks-requires : goal.ranks-requires
ranks-requires c = c.requires (get_or c.args.some.now c.loop-d.d-index 0) (in_at c.args.some.now c.loop-d.d-index 0 c.loop-d-test.true)

pub loop-d-preserved : goal.loop-d-preserved
loop-d-preserved c =
    let d = get_or c.args.some.now c.loop-d.d-index 0 in
    c.in_ok-union_into.ensures.ok
    ∙ ap (λ s. union s c.ranks.result.now) c.loop-d.invariant
    ∙ ap (union (ranks_on c.args.plan.now (take c.loop-d.d-index c.args.some.now))) c.ranks.ensures
    ∙ sym (ranks_on-push c.args.plan.now (take c.loop-d.d-index c.args.some.now) d)
    ∙ ap (ranks_on c.args.plan.now) (sym (take_more c.args.some.now c.loop-d.d-index 0 c.loop-d-test.true))
