use Rattle.std.proofs.Common.{◌∙◌, ap}
use Rattle.rank_set.specs.Ranks.{is_subset, union}
use Rattle.rank_set.specs.Runs.{ranks_between}
use Rattle.value_text.proofs.RunRanks.{run_tested}
use Rattle.value_text.proofs.parser.are_within.Goals as goal

pub returns : goal.returns
returns c =
    let first = c.args.first in
    let last = c.args.last in
    let ranks = c.args.ranks.now in
    run_tested first last ranks c.is_subset.result
    (c.is_subset.ensures ∙ ap (λ s. is_subset s ranks) (c.in_ok-collect_run.ensures.ok ∙ ap (λ s. union s (ranks_between first last)) c.new-run.ensures))
