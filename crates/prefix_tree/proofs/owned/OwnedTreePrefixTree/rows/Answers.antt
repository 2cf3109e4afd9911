use Rattle.std.proofs.Common.{◌≡◌, ap, arith, length}
use Rattle.prefix_tree.specs.Tree.{rows_of}
use Rattle.prefix_tree.proofs.OwnedLemmas.{length-rows_of, rows_lawful}
use Rattle.prefix_tree.proofs.owned.OwnedTreePrefixTree.rows.Goals as goal

pub returns-clause-count : goal.returns-clause-count
returns-clause-count c =
    let size = length-rows_of c.self.inside.coverage c.self.inside.rows.items c.self.invariant.tree.in_order in
    let long : c.as_slice.result.now ≡ c.self.inside.rows.items = c.as_slice.ensures.value in
    let same = ap (λ t. length (rows_of t)) c.self.view_is in
    omega (arith, size, ap length long, same)

pub returns-clause-lawful : goal.returns-clause-lawful
returns-clause-lawful c = rows_lawful c.self.inside.coverage c.self.inside.rows.items c.args.self.now c.self.view_is c.self.invariant.tree
