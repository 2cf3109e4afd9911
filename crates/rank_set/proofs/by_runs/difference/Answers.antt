use Rattle.std.proofs.Common.{ap, ◌∙◌, arith}
use Rattle.rank_set.specs.Ranks.{Ranks, has}
use Rattle.rank_set.proofs.RunWalks.{rest_start, rest_step, rest_all}
use Rattle.rank_set.proofs.by_runs.difference.Goals as goal

pub loop-run-init : goal.loop-run-init
loop-run-init c = record {
  within = omega arith;
  done = λ q. ap (λ (s : Ranks). has s q) c.new-rest.ensures ∙ rest_start c.args.set.now c.args.other.now q;
}

pub loop-run-preserved : goal.loop-run-preserved
loop-run-preserved c = record {
  within = omega (arith, c.in-Some.ensures.below_limit);
  done = rest_step c.args.set.now c.args.other.now c.loop-run.rest c.put_gaps.new.out c.loop-run.from c.in-Some.run'.first c.in-Some.run'.last c.loop-run.invariant.done c.in-Some.ensures.run c.in_ok-put_gaps.ensures;
}

pub returns : goal.returns
returns c = c.settle.ensures ∙ rest_all c.args.set.now c.args.other.now c.loop-run.rest c.loop-run.from c.loop-run.invariant.done c.in_default.ensures.none
