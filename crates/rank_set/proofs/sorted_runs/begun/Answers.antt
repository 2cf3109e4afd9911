use Rattle.std.proofs.Common.{arith}
use Rattle.rank_set.specs.Runs.{run_pairs}
use Rattle.rank_set.proofs.RunSearch.{pairs_length}
use Rattle.rank_set.proofs.RunStretches.{next_begins}
use Rattle.rank_set.proofs.sorted_runs.begun.Goals as goal

pub returns-then-runs-index-clause-behind : goal.returns-then-runs-index-clause-behind
returns-then-runs-index-clause-behind c = λ lt.
    omega (arith, next_begins 0 (run_pairs c.args.runs.now) c.find-index.result c.requires.runs (omega (arith, lt, pairs_length c.args.runs.now)), c.find-index.ensures.here c.if-index-runs.true)
