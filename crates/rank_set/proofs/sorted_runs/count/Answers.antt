use Rattle.std.proofs.Common.{◌≡◌, ℕ, ◌<◌, ◌+◌, ◌-◌, suc, List, drop, length, get_or, ap, ◌∙◌, arith}
use Rattle.std.proofs.lemmas.List.{drop_more, drop_all}
use Rattle.rank_set.specs.declared.Run.{Run}
use Rattle.rank_set.specs.Ranks.{size}
use Rattle.rank_set.specs.Runs.{run_pair, run_pairs, ranks_of_runs, AreRuns}
use Rattle.rank_set.proofs.RunSearch.{runs_from, runs_behind}
use Rattle.rank_set.proofs.RunSizes.{size_run, size_within}
use Rattle.rank_set.proofs.sorted_runs.count.Goals as goal

-- what the run at an index adds to the number of ranks of those behind it
size_from : (xs : List Run) (i : ℕ) → i < length xs → AreRuns 0 (run_pairs (drop i xs))
    → size (ranks_of_runs (run_pairs (drop i xs))) ≡ (suc (get_or xs i (record { first = 0; last = 0 })).last - (get_or xs i (record { first = 0; last = 0 })).first) + size (ranks_of_runs (run_pairs (drop (i + 1) xs)))
size_from xs i lt h =
    ap (λ ys. size (ranks_of_runs (run_pairs ys))) (drop_more xs i (record { first = 0; last = 0 }) lt)
    ∙ size_run 0 (run_pair (get_or xs i (record { first = 0; last = 0 }))) (run_pairs (drop (i + 1) xs)) (runs_from 0 xs i lt h)

pub overflow_add-total-in-loop-run : goal.overflow_add-total-in-loop-run
overflow_add-total-in-loop-run c =
    let h = runs_from 0 c.args.runs.now c.loop-run.run-index c.loop-run-test.true c.loop-run.invariant.rest in
    omega (arith, h.1, h.2, c.loop-run.invariant.total, size_from c.args.runs.now c.loop-run.run-index c.loop-run-test.true c.loop-run.invariant.rest, size_within 0 (run_pairs c.args.runs.now) c.requires)

pub loop-run-preserved : goal.loop-run-preserved
loop-run-preserved c =
    let h = runs_from 0 c.args.runs.now c.loop-run.run-index c.loop-run-test.true c.loop-run.invariant.rest in
    record {
      rest = runs_behind c.args.runs.now c.loop-run.run-index c.loop-run-test.true c.loop-run.invariant.rest;
      total = omega (arith, h.1, c.loop-run.invariant.total, size_from c.args.runs.now c.loop-run.run-index c.loop-run-test.true c.loop-run.invariant.rest);
    }

pub returns-clause-within_limit : goal.returns-clause-within_limit
returns-clause-within_limit c = omega (arith, c.loop-run.invariant.total, size_within 0 (run_pairs c.args.runs.now) c.requires)

pub returns-clause-count : goal.returns-clause-count
returns-clause-count c =
    let e = ap (λ xs. size (ranks_of_runs (run_pairs xs))) (drop_all c.loop-run.run-index c.args.runs.now c.loop-run-test.false) in
    omega (arith, c.loop-run.invariant.total, e)
