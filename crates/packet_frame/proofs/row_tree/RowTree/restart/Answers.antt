use Rattle.packet_frame.proofs.Growing.{restarted}
use Rattle.packet_frame.proofs.row_tree.RowTree.restart.Goals as goal

pub returns : goal.returns
returns g c = restarted c.cover.result (g.T.PrefixTree.tree c.empty.result) (g.T.PrefixTree.tree c.cover.new.self) c.args.cover.now c.empty.ensures c.cover.ensures.pairs
