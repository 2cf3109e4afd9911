use Rattle.sync_filter.proofs.Grown.{grown_where_unequal}
use Rattle.sync_filter.proofs.is_grown.Goals as goal

pub returns : goal.returns
returns c = grown_where_unequal c.equals.result c.args.covered.now c.args.sent.now c.equals.ensures
