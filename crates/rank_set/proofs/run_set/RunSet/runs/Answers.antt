use Rattle.std.proofs.Common.{sym, ap, ◌∙◌}
use Rattle.rank_set.specs.Ranks.{Ranks, in_order}
use Rattle.rank_set.specs.Runs.{run_pairs, runs_of}
use Rattle.rank_set.proofs.RunLists.{runs_of_ranks}
use Rattle.rank_set.proofs.run_set.RunSet.runs.Goals as goal

pub returns : goal.returns
returns c =
    ap run_pairs (c.in_ok-runs.ensures.items ∙ c.as_slice.ensures)
    ∙ sym (runs_of_ranks (run_pairs c.self.inside.runs.items) c.self.invariant) ∙ ap (λ (s : Ranks). runs_of (in_order s)) c.self.view_is
