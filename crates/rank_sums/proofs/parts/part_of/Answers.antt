use Rattle.std.proofs.Common.{◌≤◌, sym, ap, ◌∙◌, arith}
use Rattle.rank_set.specs.Ranks.{size}
use Rattle.rank_set.specs.declared.TheConstants.{RANK_LIMIT}
use Rattle.rank_sums.specs.Folds.{part_of}
use Rattle.rank_sums.proofs.PartMaking.{none_left, none_passed, none_yet}
use Rattle.rank_sums.proofs.Small.{fold_small}
use Rattle.rank_sums.proofs.parts.part_of.Goals as goal

pub loop-run-init : goal.loop-run-init
loop-run-init c = record { part = sym (none_yet c.args.fold c.args.values.now c.args.ranks.now); within = omega arith }

pub with_run-part-requires-clause-part : goal.with_run-part-requires-clause-part
with_run-part-requires-clause-part c =
    let run = c.in-Some.ensures.run in
    c.loop-run.invariant.part ∙ sym (ap (part_of c.args.fold c.args.values.now) (none_passed c.args.ranks.now c.loop-run.from c.in-Some.run'.first run.start run.passed))

pub narrowed-requires : goal.narrowed-requires
narrowed-requires c z e =
    let covers : size c.args.ranks.now ≤ RANK_LIMIT = omega (arith, c.count.ensures.count, c.count.ensures.within_limit) in
    fold_small c.args.values.now c.args.fold c.args.ranks.now c.invariant.ensures covers z
    (sym (c.loop-run.invariant.part ∙ ap (part_of c.args.fold c.args.values.now) (none_left c.args.ranks.now c.loop-run.from c.in_default.ensures.none)) ∙ e)

pub returns-clause-value : goal.returns-clause-value
returns-clause-value c =
    c.narrowed.ensures ∙ c.loop-run.invariant.part ∙ ap (part_of c.args.fold c.args.values.now) (none_left c.args.ranks.now c.loop-run.from c.in_default.ensures.none)
