use Rattle.std.proofs.Common.{rules, ◌≡◌, ◌<◌, ◌+◌, ◌-◌, ◌/◌, min, sym, ap, subst, arith}
use Rattle.rank_set.specs.Runs.{run_pairs}
use Rattle.rank_set.proofs.RunSearch.{run_at, pair_at}
use Rattle.rank_set.proofs.sorted_runs.search.Goals as goal

pub loop-low-preserved-then-runs-low : goal.loop-low-preserved-then-runs-low
loop-low-preserved-then-runs-low c =
    let ahead : c.min-ahead.result ≡ min c.loop-low.stride ((c.loop-low.high - c.loop-low.low) / 2) = search rules in
    record {
      low = omega (arith, c.loop-low-test.true, ahead);
      high = c.loop-low.invariant.high;
      before = λ _.
          let e : c.loop-low.low + (c.min-ahead.result + 1) - 1 ≡ c.loop-low.low + c.min-ahead.result = omega arith in
          subst (λ k. (run_at (run_pairs c.args.runs.now) k).1 < c.args.from) (sym e)
          (omega (arith, ap (λ p. p.1) (pair_at c.args.runs.now (c.loop-low.low + c.min-ahead.result)), c.if-runs-low.true));
      here = c.loop-low.invariant.here;
    }
