use Rattle.std.proofs.Common.{arith, subst}
use Rattle.std.proofs.lemmas.List.{take_all}
use Rattle.stat_plan.specs.OwnLines.{GainSeen}
use Rattle.stat_plan.proofs.WaveRows.{gain_more, gain_none}
use Rattle.stat_plan.proofs.wave_lines.add_parts.Goals as goal

pub loop-line-init : goal.loop-line-init
loop-line-init c = gain_none c.args.times.samples c.args.times.wave c.args.own.now c.args.lines.now.items

pub loop-line-preserved : goal.loop-line-preserved
loop-line-preserved c =
    gain_more c.args.times.samples c.args.times.wave c.args.own.now c.args.more.now c.args.lines.now.items c.loop-line.lines.items c.add_part.new.lines.items c.loop-line.line-index c.line-item.result c.loop-line-test.true c.line-item.is c.loop-line.invariant c.in_ok-add_part.ensures

pub returns : goal.returns
returns c =
    subst (λ ls. GainSeen c.args.times.samples c.args.times.wave c.args.own.now ls c.args.lines.now.items c.loop-line.lines.items) (take_all c.loop-line.line-index c.args.more.now (omega (arith, c.loop-line-test.false))) c.loop-line.invariant
