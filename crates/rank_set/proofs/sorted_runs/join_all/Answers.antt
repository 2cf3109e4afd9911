use Rattle.rank_set.proofs.RunMerging.{next_step, next_rest, no_rest}
use Rattle.rank_set.proofs.sorted_runs.join_all.Goals as goal

pub loop-run-preserved : goal.loop-run-preserved
loop-run-preserved c = record {
  runs = c.in_ok-last.ensures.runs;
  rest = next_rest _ _ c.args.rest.now c.loop-run.run-index _ c.loop-run-test.true c.in_ok-last.ensures.order c.loop-run.invariant.rest;
  ranks = next_step _ _ _ c.args.rest.now c.loop-run.run-index _ c.loop-run-test.true c.in_ok-last.ensures.ranks c.loop-run.invariant.ranks;
}

pub returns-clause-ranks : goal.returns-clause-ranks
returns-clause-ranks c = no_rest _ _ c.args.rest.now c.loop-run.run-index c.loop-run-test.false c.loop-run.invariant.ranks
