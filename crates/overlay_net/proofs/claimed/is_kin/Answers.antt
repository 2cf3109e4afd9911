use Rattle.overlay_net.proofs.Working.{related_first, related_second}
use Rattle.overlay_net.proofs.claimed.is_kin.Goals as goal

pub returns-then-is_under : goal.returns-then-is_under
returns-then-is_under c = related_first c.args.plan.now c.args.n c.args.b c.is_under.result c.is_under.ensures c.if-is_under.true

pub returns-else-is_under : goal.returns-else-is_under
returns-else-is_under c = related_second c.args.plan.now c.args.n c.args.b c.is_under.result c.is_under-else-is_under.result c.is_under.ensures c.if-is_under.false c.is_under-else-is_under.ensures
