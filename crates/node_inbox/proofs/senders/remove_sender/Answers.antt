use Rattle.std.proofs.Common.{◌∙◌}
use Rattle.node_inbox.proofs.Searches.{removes, removes_nothing}
use Rattle.node_inbox.proofs.senders.remove_sender.Goals as goal

pub returns-in-Ok-clause-items : goal.returns-in-Ok-clause-items
returns-in-Ok-clause-items c =
    c.remove.ensures.items
    ∙ removes c.args.senders.now.items c.as_slice.result.now c.args.sender c.in-Ok.i c.binary_search.result c.as_slice.ensures.value c.in-Ok.is c.binary_search.ensures.position c.requires

pub returns-in_default-clause-items : goal.returns-in_default-clause-items
returns-in_default-clause-items c =
    removes_nothing c.args.senders.now.items c.as_slice.result.now c.args.sender c.in_default.field-0 c.binary_search.result c.as_slice.ensures.value c.in_default.is c.binary_search.ensures.position c.requires
