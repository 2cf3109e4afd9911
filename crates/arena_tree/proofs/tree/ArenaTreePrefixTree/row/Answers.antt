use Rattle.arena_tree.proofs.Views.{tree_is}
use Rattle.std.proofs.Common.{◌-◌, subst, arith}
use Rattle.std.specs.Option.{IfSome}
use Rattle.prefix_tree.specs.Shown.{Shows}
use Rattle.arena_tree.specs.ChainForest.{rows_of_chains}
use Rattle.arena_tree.specs.Reading.{forest_at}
use Rattle.arena_tree.proofs.Trees.{leads_first}
use Rattle.arena_tree.proofs.Making.{row_past, rows_past}
use Rattle.arena_tree.proofs.RowShows.{row_shows, row_good}
use Rattle.arena_tree.proofs.tree.ArenaTreePrefixTree.row.Goals as goal

pub find_row-requires-clause-leads : goal.find_row-requires-clause-leads
find_row-requires-clause-leads c = leads_first c.self.inside.coverage c.self.inside.nodes.items c.self.inside.first c.self.invariant.tree

pub unreachable-requires : goal.unreachable-requires
unreachable-requires c =
    let all = rows_past c.self.inside.coverage c.self.inside.nodes.items c.self.inside.first c.args.self.now.tree (tree_is c.self.view_is) c.self.invariant.tree in
    omega (arith, all, c.requires, c.in-Err.ensures.left, c.if-i-eq0.false)

pub returns-clause-shows : goal.returns-clause-shows
returns-clause-shows c =
    let own = c.self.inside in
    subst (λ o. IfSome o (Shows c.in-Ok.row)) (row_past own.coverage own.nodes.items own.first c.args.self.now.tree (tree_is c.self.view_is) c.self.invariant.tree c.args.i c.if-i-eq0.false)
    (row_shows c.in-Ok.row (rows_of_chains (forest_at own.nodes.items own.first)) (c.args.i - 1) c.in-Ok.ensures.found)

pub returns-clause-good : goal.returns-clause-good
returns-clause-good c _ = row_good c.in-Ok.row (rows_of_chains (forest_at c.self.inside.nodes.items c.self.inside.first)) (c.args.i - 1) c.in-Ok.ensures.found c.self.invariant.tree.good_paths
