use Rattle.std.proofs.Common.{◌∙◌}
use Rattle.node_inbox.proofs.Searches.{adds, adds_nothing}
use Rattle.node_inbox.proofs.senders.add_sender.Goals as goal

pub returns-in_default-clause-items : goal.returns-in_default-clause-items
returns-in_default-clause-items c =
    adds_nothing c.args.senders.now.items c.as_slice.result.now c.args.sender c.in_default.field-0 c.binary_search.result c.as_slice.ensures.value c.in_default.is c.binary_search.ensures.position c.requires.increasing

pub returns-clause-items : goal.returns-clause-items
returns-clause-items c =
    c.in-Ok.ensures.items
    ∙ adds c.args.senders.now.items c.as_slice.result.now c.args.sender c.in-Err.i c.binary_search.result c.as_slice.ensures.value c.in-Err.is c.binary_search.ensures.position c.requires.increasing
