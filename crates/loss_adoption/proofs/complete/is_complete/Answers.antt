use Rattle.std.proofs.Common.{[], sym, ap, ◌∙◌, eqb-true, length, ◌≡◌}
use Rattle.std.proofs.lemmas.List.{nil_from_length}
use Rattle.rank_set.specs.Ranks.{is_subset}
use Rattle.stat_plan.specs.Machine.Kin.{complete}
use Rattle.std.specs.List.{list_all}
use Rattle.loss_adoption.specs.Settled.{is_settled}
use Rattle.loss_adoption.proofs.Completion.{complete_if_all, complete_known, complete_unknown, daemon_below, not_complete, settled_all, settled_fails}
use Rattle.loss_adoption.proofs.complete.is_complete.Goals as goal

pub returns-in_default : goal.returns-in_default
returns-in_default c = complete_unknown c.args.plan.now c.args.n c.args.s c.args.lost.now c.args.covered.now c.in_default.ensures

pub returns-then-is_subset : goal.returns-then-is_subset
returns-then-is_subset c =
    complete_if_all c.args.plan.now c.args.n c.args.s c.args.lost.now c.args.covered.now
    (ap (λ set. is_subset set c.args.covered.now) (sym c.expected.ensures) ∙ sym c.is_subset.ensures ∙ c.if-is_subset.true)

pub returns-then-is_empty : goal.returns-then-is_empty
returns-then-is_empty c =
    let none_lost : c.args.lost.now ≡ [] = nil_from_length c.args.lost.now (eqb-true (length c.args.lost.now) 0 (sym c.is_empty.ensures ∙ c.if-is_empty.true)) in
    not_complete c.args.plan.now c.args.n c.args.s c.args.covered.now
    (ap (λ set. is_subset set c.args.covered.now) (sym c.expected.ensures) ∙ sym c.is_subset.ensures ∙ c.if-is_subset.false)
    ∙ ap (λ lost. complete c.args.plan.now c.args.n lost c.args.s c.args.covered.now) (sym none_lost)

pub is_settled-requires : goal.is_settled-requires
is_settled-requires c =
    daemon_below c.args.plan.now c.args.s c.in-Some.stream.now c.daemons-d-items.result.now c.loop-d.d-index c.invariant.ensures c.in-Some.ensures c.daemons-d-items.ensures c.loop-d-test.true

pub returns-then-not-is_settled : goal.returns-then-not-is_settled
returns-then-not-is_settled c =
    let test = is_settled c.args.plan.now c.args.n c.args.lost.now c.args.covered.now in
    settled_fails test c.daemons-d-items.result.now c.loop-d.d-index c.loop-d-test.true (sym c.is_settled.ensures ∙ c.if-not-is_settled.true) c.loop-d.invariant
    ∙ ap (list_all test) c.daemons-d-items.ensures
    ∙ complete_known c.args.plan.now c.args.n c.args.s c.args.lost.now c.args.covered.now c.in-Some.stream.now c.in-Some.ensures

pub returns : goal.returns
returns c =
    let test = is_settled c.args.plan.now c.args.n c.args.lost.now c.args.covered.now in
    settled_all test c.daemons-d-items.result.now c.loop-d.d-index c.loop-d-test.false c.loop-d.invariant
    ∙ ap (list_all test) c.daemons-d-items.ensures
    ∙ complete_known c.args.plan.now c.args.n c.args.s c.args.lost.now c.args.covered.now c.in-Some.stream.now c.in-Some.ensures
