use Rattle.std.proofs.Common.{◌≤◌, ◌++◌, [], ◌∷◌, length, ap, ◌∙◌, arith}
use Rattle.rank_set.specs.Ranks.{union}
use Rattle.rank_set.specs.Runs.{ranks_of_runs, run_pair, run_pairs}
use Rattle.rank_set.proofs.sorted_runs.join_both.Goals.{then-loop-i-test+else-j-others, else-loop-i-test}
use Rattle.rank_set.proofs.RunMerging.{next_rest, later_rest, later_rest_above, left_step, right_step, whole_rest, only_left, only_right}
use Rattle.rank_set.proofs.sorted_runs.join_both.Goals as goal

pub loop-i-preserved-then-runs-i : goal.loop-i-preserved-then-runs-i
loop-i-preserved-then-runs-i c = record {
  i = omega (arith, c.loop-i-test.true);
  j = c.loop-i.invariant.j;
  done = c.in_ok-last.ensures.runs;
  runs = next_rest _ _ c.args.runs.now c.loop-i.i _ c.loop-i-test.true c.in_ok-last.ensures.order c.loop-i.invariant.runs;
  others = later_rest _ _ _ c.args.others.now c.loop-i.j _ c.if-j-others.true c.in_ok-last.ensures.order c.if-runs-i.true c.loop-i.invariant.others;
  ranks = left_step _ _ _ _ c.args.runs.now c.loop-i.i _ c.loop-i-test.true c.in_ok-last.ensures.ranks c.loop-i.invariant.ranks;
}

pub loop-i-preserved : goal.loop-i-preserved
loop-i-preserved c = record {
  i = c.loop-i.invariant.i;
  j = omega (arith, c.if-j-others.true);
  done = c.in_ok-last-2.ensures.runs;
  runs = later_rest_above _ _ _ c.args.runs.now c.loop-i.i _ c.loop-i-test.true c.in_ok-last-2.ensures.order c.if-runs-i.false c.loop-i.invariant.runs;
  others = next_rest _ _ c.args.others.now c.loop-i.j _ c.if-j-others.true c.in_ok-last-2.ensures.order c.loop-i.invariant.others;
  ranks = right_step _ _ _ _ c.args.others.now c.loop-i.j _ c.if-j-others.true c.in_ok-last-2.ensures.ranks c.loop-i.invariant.ranks;
}

pub returns-then-i-runs-clause-ranks : goal.returns-then-i-runs-clause-ranks
returns-then-i-runs-clause-ranks c =
    let passed : length c.args.others.now ≤ c.loop-i.j = elim c.loop-i-test.branch [
      | then-loop-i-test+else-j-others w ↦ omega (arith, w.if-j-others.false)
      | else-loop-i-test w ↦ absurd (omega (arith, w.loop-i-test.false, c.if-i-runs.true))
    ] in
    only_left _ _ _ _ c.args.others.now c.loop-i.j passed
    (c.in_ok-all.ensures.ranks ∙ ap (λ xs. union (ranks_of_runs (run_pairs c.loop-i.done.items ++ run_pair c.loop-i.last ∷ [])) (ranks_of_runs (run_pairs xs))) (whole_rest c.args.runs.now c.loop-i.i))
    c.loop-i.invariant.ranks

pub returns-clause-ranks : goal.returns-clause-ranks
returns-clause-ranks c =
    only_right _ _ _ _ c.args.runs.now c.loop-i.i c.if-i-runs.false
    (c.in_ok-all-2.ensures.ranks ∙ ap (λ xs. union (ranks_of_runs (run_pairs c.loop-i.done.items ++ run_pair c.loop-i.last ∷ [])) (ranks_of_runs (run_pairs xs))) (whole_rest c.args.others.now c.loop-i.j))
    c.loop-i.invariant.ranks
