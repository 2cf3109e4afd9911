use Rattle.std.proofs.Common.{sym, subst}
use Rattle.front_end.specs.Report.{AreDistinct}
use Rattle.front_end.proofs.Direct.{direct_are_distinct}
use Rattle.stat_tool.proofs.output.direct_plan.Goals as goal

pub report_in-requires-clause-distinct : goal.report_in-requires-clause-distinct
report_in-requires-clause-distinct g c κs within = subst AreDistinct (sym c.in_ok-releases.ensures) (direct_are_distinct c.args.plan.now c.invariant.ensures)
