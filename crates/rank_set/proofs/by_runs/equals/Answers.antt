use Rattle.std.proofs.Common.{sym, ap, ◌∙◌}
use Rattle.std.proofs.lemmas.Bool.{true≢false}
use Rattle.rank_set.specs.Ranks.{Ranks, is_subset}
use Rattle.rank_set.proofs.RunWalks.{subset_itself, same_by_subsets}
use Rattle.rank_set.proofs.by_runs.equals.Goals as goal

pub returns-then-is_subset : goal.returns-then-is_subset
returns-then-is_subset c = (
  (λ e. same_by_subsets c.args.set.now c.args.other.now (sym c.is_subset.ensures ∙ c.if-is_subset.true) (sym c.is_subset-then-is_subset.ensures ∙ e)),
  (λ e. c.is_subset-then-is_subset.ensures ∙ ap (λ (s : Ranks). is_subset c.args.other.now s) e ∙ subset_itself c.args.other.now),
)

pub returns-else-is_subset : goal.returns-else-is_subset
returns-else-is_subset c = (
  (λ e. absurd (true≢false (sym e ∙ c.if-is_subset.false))),
  (λ e. c.is_subset.ensures ∙ ap (λ (s : Ranks). is_subset s c.args.other.now) e ∙ subset_itself c.args.other.now),
)
