use Rattle.std.proofs.Common.{◌||◌, sym, ap, refl, ◌∙◌}
use Rattle.rank_set.specs.Ranks.{has, has-union}
use Rattle.stat_plan.proofs.Gathering.{common_subset, common_swap}
use Rattle.stat_plan.proofs.Sharing.{on_ok}
use Rattle.stat_plan.proofs.wave_lines.add_common.Goals as goal

pub returns-then-is_subset : goal.returns-then-is_subset
returns-then-is_subset c =
    on_ok c.union_into.result
    (λ is r. ap (λ s. has s r) is ∙ has-union c.args.set.now c.args.ranks.now r ∙ ap (λ b. has c.args.set.now r || b) (common_subset c.args.ranks.now c.args.own.now c.args.ranks.now (sym c.is_subset.ensures ∙ c.if-is_subset.true) refl r))
    c.union_into.ensures.ok

pub returns : goal.returns
returns c =
    on_ok c.union_into-2.result
    (λ is r. ap (λ s. has s r) is ∙ has-union c.args.set.now c.in_ok-both.both r ∙ ap (λ b. has c.args.set.now r || b) (common_swap c.args.ranks.now c.args.own.now c.in_ok-both.both c.in_ok-both.ensures r))
    c.union_into-2.ensures.ok
