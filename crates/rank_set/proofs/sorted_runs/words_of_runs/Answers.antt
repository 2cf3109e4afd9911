use Rattle.std.proofs.Common.{ap, ◌∙◌}
use Rattle.rank_set.specs.Ranks.{union, union-none}
use Rattle.rank_set.specs.Runs.{run_pairs, ranks_of_runs}
use Rattle.rank_set.proofs.RunMerging.{next_step, no_rest}
use Rattle.rank_set.proofs.RunSearch.{runs_behind}
use Rattle.rank_set.proofs.sorted_runs.words_of_runs.Goals as goal

pub loop-run-init : goal.loop-run-init
loop-run-init c = record {
  rest = c.requires;
  ranks = c.in_ok-make_room.ensures ∙ ap (λ s. union s (ranks_of_runs (run_pairs c.args.runs.now))) c.new-words.ensures ∙ union-none (ranks_of_runs (run_pairs c.args.runs.now));
}

pub loop-run-preserved : goal.loop-run-preserved
loop-run-preserved c = record {
  rest = runs_behind c.args.runs.now c.loop-run.run-index c.loop-run-test.true c.loop-run.invariant.rest;
  ranks = next_step _ _ _ c.args.runs.now c.loop-run.run-index _ c.loop-run-test.true c.in_ok-put_run.ensures.ok c.loop-run.invariant.ranks;
}

pub returns : goal.returns
returns c = no_rest _ _ c.args.runs.now c.loop-run.run-index c.loop-run-test.false c.loop-run.invariant.ranks
