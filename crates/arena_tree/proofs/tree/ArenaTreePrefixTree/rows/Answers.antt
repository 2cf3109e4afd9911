use Rattle.arena_tree.proofs.Views.{tree_is}
use Rattle.std.proofs.Common.{ap, subst, arith, length}
use Rattle.std.specs.FinMap as finmap
use Rattle.prefix_tree.specs.Tree.{IsLawful}
use Rattle.arena_tree.proofs.Trees.{entry_count, lawful}
use Rattle.arena_tree.proofs.tree.ArenaTreePrefixTree.rows.Goals as goal

pub returns-clause-count : goal.returns-clause-count
returns-clause-count c =
    let size = entry_count c.self.inside.coverage c.self.inside.nodes.items c.self.inside.first c.self.invariant.tree in
    let same = ap (λ t. length (finmap.entries t.below)) (tree_is c.self.view_is) in
    omega (arith, size, same, c.self.invariant.rows)

pub returns-clause-lawful : goal.returns-clause-lawful
returns-clause-lawful c = subst IsLawful (tree_is c.self.view_is) (lawful c.self.inside.coverage c.self.inside.nodes.items c.self.inside.first c.self.invariant.tree)
