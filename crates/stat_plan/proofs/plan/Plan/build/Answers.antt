use Rattle.std.proofs.Common.{ap, ◌∙◌}
use Rattle.overlay_setup.specs.Tables.{rows_view}
use Rattle.stat_plan.specs.Plans.{plan_of}
use Rattle.stat_plan.proofs.LookupLemmas.{plan_from}
use Rattle.stat_plan.proofs.plan.Plan.build.Goals as goal

pub expected_tables-requires-clause-above : goal.expected_tables-requires-clause-above
expected_tables-requires-clause-above c = ap rows_view c.deref.ensures.value ∙ c.in_ok-ancestors.ensures

pub invariant_of-result : goal.invariant_of-result
invariant_of-result c =
    (plan_from (plan_of c.args.topology c.args.samples c.args.script) c.invariant.ensures c.in-Ok.ensures.ok, record { above = c.in_ok-ancestors.ensures; ranks = c.in_ok-expected.ensures; losses = c.in_ok-faults.ensures })
