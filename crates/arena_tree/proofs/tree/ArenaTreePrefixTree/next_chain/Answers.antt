use Rattle.std.proofs.Common.{◌∙◌, ◌++◌, sym, ap, drop, arith}
use Rattle.prefix_tree.specs.Chains.{rows_shown}
use Rattle.arena_tree.proofs.Making.{rows_past}
use Rattle.arena_tree.proofs.Reading.{inside_node}
use Rattle.arena_tree.proofs.Views.{tree_is}
use Rattle.arena_tree.proofs.Walking.{walk_over, taken, frame_within, row_few}
use Rattle.arena_tree.proofs.Chaining.{room_past, cursor_past, rows_read, rows_within, read_good}
use Rattle.arena_tree.proofs.tree.ArenaTreePrefixTree.next_chain.Goals as goal

pub returns-in-None-clause-end : goal.returns-in-None-clause-end
returns-in-None-clause-end c _ =
    let own = c.self.inside in
    let over = walk_over own.coverage own.nodes.items own.first c.args.self.now c.self.view_is c.args.at.now c.requires.cursor c.pop.new.self.items c.in-None.ensures.items (omega (arith, c.in-None.ensures.cases)) in
    let all = rows_past own.coverage own.nodes.items own.first c.args.self.now.tree (tree_is c.self.view_is) c.self.invariant.tree in
    omega (arith, over, all)

pub get-node-requires : goal.get-node-requires
get-node-requires c =
    let walk = taken c.self.inside.coverage c.self.inside.nodes.items c.self.inside.first c.args.self.now c.self.view_is c.args.at.now c.requires.cursor c.pop.new.self.items c.in-Some.top c.in-Some.ensures.items in
    inside_node c.self.inside.nodes.items c.in-Some.top.place walk.waiting.0.leads walk.waiting.0.node

pub chain_from-chain-requires-clause-within : goal.chain_from-chain-requires-clause-within
chain_from-chain-requires-clause-within c = frame_within c.self.inside.coverage c.self.inside.nodes.items c.self.inside.first c.args.self.now c.self.view_is c.args.at.now c.requires.cursor c.pop.new.self.items c.in-Some.top c.in-Some.ensures.items c.get-node.result.now c.get-node.ensures

pub chain_from-chain-requires-clause-depth : goal.chain_from-chain-requires-clause-depth
chain_from-chain-requires-clause-depth c =
    let walk = taken c.self.inside.coverage c.self.inside.nodes.items c.self.inside.first c.args.self.now c.self.view_is c.args.at.now c.requires.cursor c.pop.new.self.items c.in-Some.top c.in-Some.ensures.items in
    let deep = walk.waiting.0.depth in
    omega (arith, deep)

pub move_past-requires-clause-depth : goal.move_past-requires-clause-depth
move_past-requires-clause-depth c =
    let walk = taken c.self.inside.coverage c.self.inside.nodes.items c.self.inside.first c.args.self.now c.self.view_is c.args.at.now c.requires.cursor c.pop.new.self.items c.in-Some.top c.in-Some.ensures.items in
    let deep = walk.waiting.0.depth in
    omega (arith, deep)

pub move_past-requires-clause-row : goal.move_past-requires-clause-row
move_past-requires-clause-row c = row_few c.self.inside.coverage c.self.inside.nodes.items c.self.inside.first c.args.self.now c.self.view_is c.args.at.now c.requires.cursor c.pop.new.self.items c.in-Some.top c.in-Some.ensures.items c.get-node.result.now c.get-node.ensures c.self.invariant.tree.within_limit

pub move_past-requires-clause-frame : goal.move_past-requires-clause-frame
move_past-requires-clause-frame c = frame_within c.self.inside.coverage c.self.inside.nodes.items c.self.inside.first c.args.self.now c.self.view_is c.args.at.now c.requires.cursor c.pop.new.self.items c.in-Some.top c.in-Some.ensures.items c.get-node.result.now c.get-node.ensures

pub move_past-requires-clause-room : goal.move_past-requires-clause-room
move_past-requires-clause-room c =
    let room = room_past c.self.inside.coverage c.self.inside.nodes.items c.self.inside.first c.args.self.now c.self.view_is c.args.at.now c.requires.cursor c.pop.new.self.items c.in-Some.top c.in-Some.ensures.items c.get-node.result.now c.get-node.ensures in
    omega (arith, room, c.pop.ensures.capacity)

pub returns-in-Some-clause-rows : goal.returns-in-Some-clause-rows
returns-in-Some-clause-rows c =
    rows_read c.self.inside.coverage c.self.inside.nodes.items c.self.inside.first c.args.self.now c.self.view_is c.args.at.now c.requires.cursor c.pop.new.self.items c.in-Some.top c.in-Some.ensures.items c.get-node.result.now c.get-node.ensures
    c.self.invariant.tree c.move_past.new.at.row c.move_past.ensures.row
    ∙ ap (λ rows. rows ++ drop c.move_past.new.at.row (rows_shown c.args.self.now.tree)) (sym c.chain_from-chain.ensures.rows)

pub returns-in-Some-clause-within : goal.returns-in-Some-clause-within
returns-in-Some-clause-within c =
    rows_within c.self.inside.coverage c.self.inside.nodes.items c.self.inside.first c.args.self.now c.self.view_is c.args.at.now c.requires.cursor c.pop.new.self.items c.in-Some.top c.in-Some.ensures.items c.get-node.result.now c.get-node.ensures
    c.self.invariant.tree c.move_past.new.at.row c.move_past.ensures.row

pub returns-in-Some-clause-good : goal.returns-in-Some-clause-good
returns-in-Some-clause-good c =
    read_good c.self.inside.coverage c.self.inside.nodes.items c.self.inside.first c.args.self.now c.self.view_is c.args.at.now c.requires.cursor c.pop.new.self.items c.in-Some.top c.in-Some.ensures.items c.get-node.result.now c.get-node.ensures
    c.self.invariant.tree c.move_past.new.at.row c.move_past.ensures.row
    c.chain_from-chain.result c.chain_from-chain.ensures.depth c.chain_from-chain.ensures.frames c.chain_from-chain.ensures.skip

pub returns-in-Some-clause-cursor : goal.returns-in-Some-clause-cursor
returns-in-Some-clause-cursor c =
    cursor_past c.self.inside.coverage c.self.inside.nodes.items c.self.inside.first c.args.self.now c.self.view_is c.args.at.now c.requires.cursor c.pop.new.self.items c.in-Some.top c.in-Some.ensures.items c.get-node.result.now c.get-node.ensures
    c.move_past.new.at c.move_past.ensures.row c.move_past.ensures.waiting c.move_past.ensures.frame (omega (arith, c.pop.ensures.capacity, c.move_past.ensures.capacity))
