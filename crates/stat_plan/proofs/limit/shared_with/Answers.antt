use Rattle.std.proofs.Common.{◌≤◌, length, sym, ap, ◌∙◌, subst}
use Rattle.call_path.specs.Path.{shared_len}
use Rattle.call_path.proofs.Shared.{shared_none}
use Rattle.stat_plan.specs.PathOrder.{last_path}
use Rattle.stat_plan.proofs.Counting.{shared_within}
use Rattle.stat_plan.proofs.limit.shared_with.Goals as goal

pub returns-in-Some-clause-within : goal.returns-in-Some-clause-within
returns-in-Some-clause-within c = subst (λ n. n ≤ length c.args.path.now) (sym c.common.ensures) (shared_within c.args.path.now _)

pub returns-in-None-clause-value : goal.returns-in-None-clause-value
returns-in-None-clause-value c = sym (shared_none c.args.path.now) ∙ ap (λ last. shared_len c.args.path.now (last_path last)) (sym c.in-None.is)
