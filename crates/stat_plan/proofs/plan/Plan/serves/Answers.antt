use Rattle.std.proofs.Common.{sym, ◌∙◌}
use Rattle.stat_plan.proofs.LookupLemmas.{serves_by_first, serves_unknown}
use Rattle.stat_plan.proofs.plan.Plan.serves.Goals as goal

pub returns-in-Some : goal.returns-in-Some
returns-in-Some c = c.is_some.ensures ∙ serves_by_first c.args.self.now c.args.n c.args.s c.expected.result.now c.first.result c.invariant.ensures c.expected.ensures c.first.ensures.none c.first.ensures.least

pub returns-in-None : goal.returns-in-None
returns-in-None c = sym (serves_unknown c.args.self.now c.args.n c.args.s c.in-None.ensures)
