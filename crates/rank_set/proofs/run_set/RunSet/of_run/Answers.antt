use Rattle.std.proofs.Common.{List, ap, sym, ◌∙◌}
use Rattle.rank_set.specs.declared.Run.{Run}
use Rattle.rank_set.specs.Ranks.{union-none}
use Rattle.rank_set.specs.Runs.{run_pairs, ranks_between, ranks_of_runs}
use Rattle.rank_set.proofs.RunMerging.{only_run}
use Rattle.rank_set.proofs.run_set.RunSet.of_run.Goals as goal

pub returns : goal.returns
returns c =
    ap (λ (xs : List Run). ranks_of_runs (run_pairs xs)) c.from_buf.ensures.items ∙ only_run c.args.run.first c.args.run.last
    ∙ sym (union-none (ranks_between c.args.run.first c.args.run.last))
