use Rattle.std.proofs.Common.{◌∙◌, ◌+◌, ◌||◌, ap, arith, sym}
use Rattle.rank_set.specs.Ranks.{has, has-in_order, in_order}
use Rattle.tree_view.proofs.Least.{least_step, none_below, none_left, or_nothing}
use Rattle.std.specs.List.{list_any}
use Rattle.std.specs.Ordering.{nat_cmp, eq_by_cmp}
use Rattle.tree_view.proofs.representatives.add_least.Goals as goal

pub loop-init : goal.loop-init
loop-init c = record { taken = λ r. or_nothing (has c.args.all.now r); below = none_below (in_order c.args.ranks.now) }

pub returns-in_default : goal.returns-in_default
returns-in_default c r =
    c.loop.invariant.taken r
    ∙ ap (λ xs. has c.args.all.now r || list_any (eq_by_cmp nat_cmp r) xs) (sym (none_left (in_order c.args.ranks.now) c.loop.counter c.args.count c.loop.from (omega (arith, c.loop-test.true)) c.loop.invariant.below
    (λ q ge. sym (has-in_order c.args.ranks.now q) ∙ c.in_default.ensures.none q ge)))

pub loop-preserved : goal.loop-preserved
loop-preserved c =
    let step = least_step c.args.ranks.now c.args.all.now c.loop.all c.insert.new.self c.loop.counter (c.loop.counter + 1) c.loop.from c.in-Some.run'.first (omega arith) c.loop.invariant.taken c.loop.invariant.below c.in-Some.run'.last c.in-Some.ensures.run c.in-Ok.ensures.ok in
    record { taken = step.0; below = step.1 }
