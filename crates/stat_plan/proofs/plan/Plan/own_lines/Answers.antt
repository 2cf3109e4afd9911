use Rattle.std.proofs.Common.{subst}
use Rattle.std.specs.Prelude.{IfOk}
use Rattle.stat_plan.specs.OwnLines.{AreWaveLines}
use Rattle.stat_plan.specs.Plans.{Plan, ranks}
use Rattle.stat_plan.specs.Shown.{wave_lines_view}
use Rattle.stat_plan.proofs.plan.Plan.own_lines.Goals as goal

pub returns-clause-samples : goal.returns-clause-samples
unfolding ranks
returns-clause-samples c =
    subst (λ (p : Plan). IfOk c.own_lines.result (λ own. AreWaveLines c.args.times.samples c.args.times.wave (ranks p c.args.n) p.lines (wave_lines_view own))) c.self.view_is c.own_lines.ensures.samples
