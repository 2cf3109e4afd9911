use Rattle.node_inbox.proofs.Cutting.{own_cut}
use Rattle.node_inbox.proofs.loss.cut_inbox.Goals as goal

pub returns-then-b-n : goal.returns-then-b-n
returns-then-b-n g c = own_cut c.args.n c.args.keep c.args.b c.args.inbox.now c.clear.new.self c.if-b-n.true c.clear.ensures.waiting c.clear.ensures.room
