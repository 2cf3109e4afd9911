use Rattle.std.proofs.Common.{nat_le, sym, ap, ◌∙◌}
use Rattle.stat_plan.proofs.WavePrefixes.{all_seen, none_over}
use Rattle.stat_plan.specs.Files.{plan_in}
use Rattle.stat_plan.proofs.limit.check_limit.Goals as goal

pub returns-then-is_within-clause-ok : goal.returns-then-is_within-clause-ok
returns-then-is_within-clause-ok c =
    let all = c.lines-all in
    let every = c.deref.ensures.value ∙ c.in_ok-every_path.ensures.items_if_clones_equal (λ y same. same) in
    let within = c.is_within.ensures ∙ ap (λ n. nat_le n 2048) (all_seen all.result.paths.now all.result.order.now c.deref.result.now all.ensures.order every) in
    none_over (plan_in c.args.files) all.result.paths.now all.result.lines.now.value all.ensures.numbered all.ensures.lines (sym within ∙ c.if-is_within.true)
