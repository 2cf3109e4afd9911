use Rattle.std.proofs.Common.{◌<◌, arith, take}
use Rattle.stat_plan.specs.declared.samples.StackLine.{StackLine}
use Rattle.stat_plan.proofs.WaveRows.{all_take, gain_same, passed_all, run_gained}
use Rattle.stat_plan.proofs.wave_lines.add_spread.Goals as goal

pub loop-run-preserved : goal.loop-run-preserved
loop-run-preserved c = record {
  gained = run_gained c.args.times.samples c.args.times.wave c.args.own.now c.args.numbers.now c.args.spread.now c.requires c.args.lines.now.items c.loop-run.lines.items c.add_parts.new.lines.items
      c.loop-run.from c.in-Some.run'.first c.in-Some.run'.last c.min-first.result c.min-end.result c.in-Some.ensures.run.start c.in-Some.ensures.run.some c.in-Some.ensures.run.passed c.min-first.ensures c.min-end.ensures c.loop-run.invariant.gained c.in_ok-add_parts.ensures;
  within = let a = c.in-Some.ensures.below_limit in omega (arith, a);
}

pub returns : goal.returns
returns c =
    let spread = c.args.spread.now in
    gain_same c.args.times.samples c.args.times.wave c.args.own.now (take c.loop-run.from spread) spread c.args.lines.now.items c.loop-run.lines.items
    (passed_all c.args.times.samples c.args.times.wave c.args.own.now c.args.numbers.now spread c.requires c.loop-run.from c.in_default.ensures.none)
    (λ n all. all_take (λ (line : StackLine). line.path < n) spread c.loop-run.from all) c.loop-run.invariant.gained
