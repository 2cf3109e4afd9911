use Rattle.std.proofs.Common.{◌∙◌, ap, set, arith}
use Rattle.topology_text.specs.Statements.{as_parent}
use Rattle.topology_text.proofs.Nodes.{at_node_set, at_node_past}
use Rattle.topology_text.proofs.parser.set_is_parent.Goals as goal

pub returns-then-at-len : goal.returns-then-at-len
returns-then-at-len c =
    ap (λ x. set c.args.nodes.now.items c.args.number (as_parent x)) c.index_mut.ensures.value
    ∙ at_node_set c.args.nodes.now.items c.args.number c.index_mut.result.now as_parent (omega (arith, c.len.ensures, c.args.nodes.now.ok.0))

pub returns-else-at-len : goal.returns-else-at-len
returns-else-at-len c = at_node_past c.args.nodes.now.items c.args.number as_parent (omega (arith, c.len.ensures, c.args.nodes.now.ok.0))
