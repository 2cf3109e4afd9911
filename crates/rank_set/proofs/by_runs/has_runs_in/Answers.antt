use Rattle.std.proofs.Common.{◌∙◌, sym, arith}
use Rattle.rank_set.proofs.RunWalks.{in_step, in_all, in_fails}
use Rattle.rank_set.proofs.by_runs.has_runs_in.Goals as goal

pub returns-then-not-has_run : goal.returns-then-not-has_run
returns-then-not-has_run c = sym (in_fails c.args.set.now c.args.other.now c.loop-run.from c.in-Some.run'.first c.in-Some.run'.last c.in-Some.ensures.run (sym c.has_run.ensures ∙ c.if-not-has_run.true))

pub loop-run-preserved : goal.loop-run-preserved
loop-run-preserved c = record {
  within = omega (arith, c.in-Some.ensures.below_limit);
  done = in_step c.args.set.now c.args.other.now c.loop-run.from c.in-Some.run'.first c.in-Some.run'.last c.loop-run.invariant.done c.in-Some.ensures.run (sym c.has_run.ensures ∙ c.if-not-has_run.false);
}

pub returns : goal.returns
returns c = sym (in_all c.args.set.now c.args.other.now c.loop-run.from c.loop-run.invariant.done c.in_default.ensures.none)
