use Rattle.std.proofs.Common.{◌-◌, subst, arith}
use Rattle.std.proofs.lemmas.Option.{slice_get_within}
use Rattle.std.specs.Option.{IfSome}
use Rattle.prefix_tree.specs.Shown.{Shows}
use Rattle.arena_tree.specs.ChainForest.{rows_of_chains}
use Rattle.arena_tree.specs.Reading.{forest_at}
use Rattle.arena_tree.specs.ReadingOrder.{shows, row_seen}
use Rattle.arena_tree.proofs.Reading.{inside_node}
use Rattle.arena_tree.proofs.Making.{row_past, rows_past}
use Rattle.arena_tree.proofs.RowShows.{length-forest, row_shows, row_good}
use Rattle.arena_tree.proofs.Views.{tree_is}
use Rattle.arena_tree.proofs.Walking.{walk_over, taken, frame_within, room_next, row_few, cursor_next, found}
use Rattle.arena_tree.proofs.tree.ArenaTreePrefixTree.next_row.Goals as goal

pub returns-in-None-clause-end : goal.returns-in-None-clause-end
returns-in-None-clause-end c _ =
    let own = c.self.inside in
    let over = walk_over c.self.inside.coverage c.self.inside.nodes.items c.self.inside.first c.args.self.now c.self.view_is c.args.at.now c.requires c.pop.new.self.items c.in-None.ensures.items (omega (arith, c.in-None.ensures.cases)) in
    let all = rows_past own.coverage own.nodes.items own.first c.args.self.now.tree (tree_is c.self.view_is) c.self.invariant.tree in
    omega (arith, over, all)

pub get-node-requires : goal.get-node-requires
get-node-requires c =
    let walk = taken c.self.inside.coverage c.self.inside.nodes.items c.self.inside.first c.args.self.now c.self.view_is c.args.at.now c.requires c.pop.new.self.items c.in-Some.top c.in-Some.ensures.items in
    inside_node c.self.inside.nodes.items c.in-Some.top.place walk.waiting.0.leads walk.waiting.0.node

pub chain_row-row-requires-clause-within : goal.chain_row-row-requires-clause-within
chain_row-row-requires-clause-within c = frame_within c.self.inside.coverage c.self.inside.nodes.items c.self.inside.first c.args.self.now c.self.view_is c.args.at.now c.requires c.pop.new.self.items c.in-Some.top c.in-Some.ensures.items c.get-node.result.now c.get-node.ensures

pub chain_row-row-requires-clause-depth : goal.chain_row-row-requires-clause-depth
chain_row-row-requires-clause-depth c =
    let walk = taken c.self.inside.coverage c.self.inside.nodes.items c.self.inside.first c.args.self.now c.self.view_is c.args.at.now c.requires c.pop.new.self.items c.in-Some.top c.in-Some.ensures.items in
    let deep = walk.waiting.0.depth in
    omega (arith, deep)

pub move_on-requires-clause-depth : goal.move_on-requires-clause-depth
move_on-requires-clause-depth c =
    let walk = taken c.self.inside.coverage c.self.inside.nodes.items c.self.inside.first c.args.self.now c.self.view_is c.args.at.now c.requires c.pop.new.self.items c.in-Some.top c.in-Some.ensures.items in
    let deep = walk.waiting.0.depth in
    omega (arith, deep)

pub move_on-requires-clause-row : goal.move_on-requires-clause-row
move_on-requires-clause-row c = row_few c.self.inside.coverage c.self.inside.nodes.items c.self.inside.first c.args.self.now c.self.view_is c.args.at.now c.requires c.pop.new.self.items c.in-Some.top c.in-Some.ensures.items c.get-node.result.now c.get-node.ensures c.self.invariant.tree.within_limit

pub move_on-requires-clause-frame : goal.move_on-requires-clause-frame
move_on-requires-clause-frame c = frame_within c.self.inside.coverage c.self.inside.nodes.items c.self.inside.first c.args.self.now c.self.view_is c.args.at.now c.requires c.pop.new.self.items c.in-Some.top c.in-Some.ensures.items c.get-node.result.now c.get-node.ensures

pub move_on-requires-clause-room : goal.move_on-requires-clause-room
move_on-requires-clause-room c =
    let room = room_next c.self.inside.coverage c.self.inside.nodes.items c.self.inside.first c.args.self.now c.self.view_is c.args.at.now c.requires c.pop.new.self.items c.in-Some.top c.in-Some.ensures.items c.get-node.result.now c.get-node.ensures in
    omega (arith, room, c.pop.ensures.capacity)

pub returns-in-Some-clause-within : goal.returns-in-Some-clause-within
returns-in-Some-clause-within c =
    let own = c.self.inside in
    let all = rows_past own.coverage own.nodes.items own.first c.args.self.now.tree (tree_is c.self.view_is) c.self.invariant.tree in
    let long = length-forest 1 (forest_at own.nodes.items own.first) in
    let row = found c.self.inside.coverage c.self.inside.nodes.items c.self.inside.first c.args.self.now c.self.view_is c.args.at.now c.requires c.pop.new.self.items c.in-Some.top c.in-Some.ensures.items c.get-node.result.now c.get-node.ensures c.chain_row-row.result c.chain_row-row.ensures.depth c.chain_row-row.ensures.frame c.chain_row-row.ensures.label c.chain_row-row.ensures.ends in
    let less = slice_get_within (shows 1 (rows_of_chains (forest_at own.nodes.items own.first))) (c.args.at.now.row - 1) (row_seen c.chain_row-row.result) row in
    omega (arith, all, long, less)

pub returns-in-Some-clause-shows : goal.returns-in-Some-clause-shows
returns-in-Some-clause-shows c =
    let own = c.self.inside in
    let walk = taken c.self.inside.coverage c.self.inside.nodes.items c.self.inside.first c.args.self.now c.self.view_is c.args.at.now c.requires c.pop.new.self.items c.in-Some.top c.in-Some.ensures.items in
    let below = walk.below_root in
    let row = found c.self.inside.coverage c.self.inside.nodes.items c.self.inside.first c.args.self.now c.self.view_is c.args.at.now c.requires c.pop.new.self.items c.in-Some.top c.in-Some.ensures.items c.get-node.result.now c.get-node.ensures c.chain_row-row.result c.chain_row-row.ensures.depth c.chain_row-row.ensures.frame c.chain_row-row.ensures.label c.chain_row-row.ensures.ends in
    subst (λ o. IfSome o (Shows c.chain_row-row.result)) (row_past own.coverage own.nodes.items own.first c.args.self.now.tree (tree_is c.self.view_is) c.self.invariant.tree c.args.at.now.row (λ zero. omega (arith, below, zero)))
    (row_shows c.chain_row-row.result (rows_of_chains (forest_at own.nodes.items own.first)) (c.args.at.now.row - 1) row)

pub returns-in-Some-clause-good : goal.returns-in-Some-clause-good
returns-in-Some-clause-good c _ =
    let own = c.self.inside in
    row_good c.chain_row-row.result (rows_of_chains (forest_at own.nodes.items own.first)) (c.args.at.now.row - 1)
    (found c.self.inside.coverage c.self.inside.nodes.items c.self.inside.first c.args.self.now c.self.view_is c.args.at.now c.requires c.pop.new.self.items c.in-Some.top c.in-Some.ensures.items c.get-node.result.now c.get-node.ensures c.chain_row-row.result c.chain_row-row.ensures.depth c.chain_row-row.ensures.frame c.chain_row-row.ensures.label c.chain_row-row.ensures.ends)
    c.self.invariant.tree.good_paths

pub returns-in-Some-clause-cursor : goal.returns-in-Some-clause-cursor
returns-in-Some-clause-cursor c =
    cursor_next c.self.inside.coverage c.self.inside.nodes.items c.self.inside.first c.args.self.now c.self.view_is c.args.at.now c.requires c.pop.new.self.items c.in-Some.top c.in-Some.ensures.items c.get-node.result.now c.get-node.ensures
    c.move_on.new.at c.move_on.ensures.row c.move_on.ensures.waiting c.move_on.ensures.frame (omega (arith, c.pop.ensures.capacity, c.move_on.ensures.capacity))
