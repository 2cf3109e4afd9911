use Rattle.overlay_net.specs.Sends.{changed}
use Rattle.overlay_net.proofs.Losing.{losses_counted}
use Rattle.overlay_net.proofs.state.NetState.recount.Goals as goal

pub recount-requires-clause-losing : goal.recount-requires-clause-losing
recount-requires-clause-losing g c κs within =
    losses_counted (changed c.args.plan.now c.args.event c.args.receivers.now) g.T.PrefixTree.tree c.args.plan.now c.args.self.now c.requires.net
