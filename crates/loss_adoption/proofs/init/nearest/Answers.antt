use Rattle.std.proofs.Common.{get_or, sym, ◌∙◌}
use Rattle.stat_plan.proofs.LookupLemmas.{member-contains}
use Rattle.loss_adoption.proofs.NearestSteps.{nearest_here, nearest_past}
use Rattle.loss_adoption.proofs.init.nearest.Goals as goal

pub returns-then-not-contains : goal.returns-then-not-contains
returns-then-not-contains c =
    let a = get_or c.args.above.now c.loop-a.a-index 0 in
    nearest_here c.args.above.now c.args.lost.now c.loop-a.a-index 0 c.loop-a-test.true (sym (member-contains a c.args.lost.now) ∙ sym c.contains.ensures.value ∙ c.if-not-contains.true) c.loop-a.invariant

pub loop-a-preserved : goal.loop-a-preserved
loop-a-preserved c =
    let a = get_or c.args.above.now c.loop-a.a-index 0 in
    nearest_past c.args.above.now c.args.lost.now c.loop-a.a-index 0 c.loop-a-test.true (sym (member-contains a c.args.lost.now) ∙ sym c.contains.ensures.value ∙ c.if-not-contains.false) c.loop-a.invariant
