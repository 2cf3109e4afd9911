use Rattle.prefix_tree.proofs.OwnedLemmas.{rows_lawful}
use Rattle.prefix_tree.proofs.owned.OwnedTreePrefixTree.cursor.Goals as goal

pub returns-clause-lawful : goal.returns-clause-lawful
returns-clause-lawful c = rows_lawful c.self.inside.coverage c.self.inside.rows.items c.args.self.now c.self.view_is c.self.invariant.tree
