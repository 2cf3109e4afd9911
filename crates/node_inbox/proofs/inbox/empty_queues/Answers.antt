use Rattle.node_inbox.proofs.Emptied.{one_more_emptied}
use Rattle.node_inbox.proofs.inbox.empty_queues.Goals as goal

pub loop-sender-preserved : goal.loop-sender-preserved
loop-sender-preserved g c =
    one_more_emptied c.args.senders.now c.loop-sender.sender-index c.args.queues.now.entries c.loop-sender.queues.entries _ c.loop-sender-test.true c.loop-sender.invariant c.empty_queue.ensures
