use Rattle.std.proofs.Common.{take}
use Rattle.node_inbox.specs.Queues.{AreEmptied}
use Rattle.node_inbox.proofs.inbox.empty_queues.Given as goal

abbrev pub invariant-loop-sender : goal.invariant-loop-sender
invariant-loop-sender g l = AreEmptied (take l.sender-index l.senders) l.fn.queues.entries l.queues.entries
