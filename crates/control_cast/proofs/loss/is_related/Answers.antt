use Rattle.stat_plan.proofs.Relatives.{related_first, related_second}
use Rattle.control_cast.proofs.loss.is_related.Goals as goal

pub returns-then-is_under : goal.returns-then-is_under
returns-then-is_under c = related_first c.args.plan.now c.args.n c.args.m c.is_under.result c.is_under.ensures c.if-is_under.true

pub returns-else-is_under : goal.returns-else-is_under
returns-else-is_under c = related_second c.args.plan.now c.args.n c.args.m c.is_under.result c.is_under-else-is_under.result c.is_under.ensures c.if-is_under.false c.is_under-else-is_under.ensures
