use Rattle.std.proofs.Common.{sym, ◌∙◌, arith}
use Rattle.rank_set.proofs.RunWalks.{out_step, out_all, is_met, is_unmet}
use Rattle.rank_set.proofs.by_runs.meets_no_run.Goals as goal

pub returns-then-is_some : goal.returns-then-is_some
returns-then-is_some c = sym (is_met c.args.set.now c.args.other.now c.loop-run.from c.in-Some.run'.first c.in-Some.run'.last c.run_within.result (sym c.is_some.ensures ∙ c.if-is_some.true) c.in-Some.ensures.run c.run_within.ensures.run)

pub loop-run-preserved : goal.loop-run-preserved
loop-run-preserved c = record {
  within = omega (arith, c.in-Some.ensures.below_limit);
  done = out_step c.args.set.now c.args.other.now c.loop-run.from c.in-Some.run'.first c.in-Some.run'.last c.loop-run.invariant.done c.in-Some.ensures.run (is_unmet c.args.other.now c.in-Some.run'.first c.in-Some.run'.last c.run_within.result (sym c.is_some.ensures ∙ c.if-is_some.false) c.run_within.ensures.none);
}

pub returns : goal.returns
returns c = sym (out_all c.args.set.now c.args.other.now c.loop-run.from c.loop-run.invariant.done c.in_default.ensures.none)
