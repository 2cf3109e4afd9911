use Rattle.std.proofs.Common.{sym, arith}
use Rattle.node_inbox.proofs.Emptied.{emptied, no_queue}
use Rattle.node_inbox.proofs.Written.{written}
use Rattle.node_inbox.proofs.inbox.empty_queue.Goals as goal

pub returns-in-Some : goal.returns-in-Some
returns-in-Some g c =
    let v = c.in-Some.queue.now in let w = c.clear.new.self in
    let change = written c.args.sender v w c.args.queues.now (c.get_mut.follows.lender w) (sym c.in-Some.ensures.value) (c.get_mut.follows.holds w) c.get_mut.ensures.ordered in
    emptied c.args.sender v w c.args.queues.now.entries _ change (c.get_mut.follows.holds w).1 c.clear.ensures.items
    (let len = c.clear.ensures.len in let capacity = c.clear.ensures.capacity in let ok = v.ok in let still = w.ok in omega arith)

pub returns-in_default : goal.returns-in_default
returns-in_default g c =
    no_queue c.args.sender c.args.queues.now c.get_mut.follows.lender-at-none c.get_mut.follows.holds-at-none (sym c.in_default.ensures.value) c.get_mut.ensures.ordered
