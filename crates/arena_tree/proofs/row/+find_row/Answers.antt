use Rattle.std.proofs.Common.{◌≡◌, ◌∙◌, ◌<◌, ◌≤◌, ◌+◌, ◌-◌, ap, sym, subst, arith, length}
use Rattle.std.specs.Prelude.{slice_get, Some}
use Rattle.arena_tree.specs.ChainForest.{no_chains, count_nodes, count_rows, rows_of_chains}
use Rattle.arena_tree.specs.Reading.{forest_at, LeadsToForest}
use Rattle.arena_tree.specs.ReadingOrder.{shows, row_seen}
use Rattle.arena_tree.proofs.Reading.{inside_node, none_in}
use Rattle.arena_tree.proofs.RowShows.{rows_here, nodes_here, first_here, next_here, row_of_node, row_below, row_later, left_over}
use Rattle.arena_tree.proofs.row.+find_row.Goals as goal

pub get-node-requires : goal.get-node-requires
get-node-requires t c = inside_node c.args.nodes.now.items c.loop-at.at c.loop-at.invariant.leads c.loop-at-test.true

pub returns-then-i-len-clause-found : goal.returns-then-i-len-clause-found
returns-then-i-len-clause-found t c =
    c.loop-at.invariant.same
    ∙ row_of_node c.args.nodes.now.items c.loop-at.at c.get-node.result.now c.loop-at.invariant.leads c.get-node.ensures c.args.depth c.loop-at.i c.chain_row.result
    c.chain_row.ensures.depth c.chain_row.ensures.frame c.chain_row.ensures.label c.chain_row.ensures.ends

pub find_row-requires : goal.find_row-requires
find_row-requires t c =
    let cs = c.args.nodes.now.items in
    let i = c.loop-at.invariant in
    let long : c.len-len.result ≡ length c.get-node.result.now.frames = c.len-len.ensures.len ∙ ap length c.frames.ensures in
    let same = ap (λ y. count_nodes (forest_at cs y)) c.first.ensures in
    let same_rows = ap (λ y. count_rows (forest_at cs y)) c.first.ensures in
    let nodes = nodes_here cs c.loop-at.at c.get-node.result.now i.leads c.get-node.ensures c.args.depth c.loop-at.i in
    let rows = rows_here cs c.loop-at.at c.get-node.result.now i.leads c.get-node.ensures c.args.depth c.loop-at.i in
    let falls : count_nodes (forest_at cs c.first.result) < t = omega (arith, same, nodes, i.less, c.decreases) in
    (falls, (subst (LeadsToForest cs) (sym c.first.ensures) (first_here cs c.loop-at.at c.get-node.result.now i.leads c.get-node.ensures c.args.depth c.loop-at.i), (c.requires.no_ranks, omega (arith, rows, same_rows, long, i.depth))))

pub returns-in-Ok-clause-found : goal.returns-in-Ok-clause-found
returns-in-Ok-clause-found t c =
    let cs = c.args.nodes.now.items in
    let long : c.len-len.result ≡ length c.get-node.result.now.frames = c.len-len.ensures.len ∙ ap length c.frames.ensures in
    c.loop-at.invariant.same
    ∙ row_below cs c.loop-at.at c.get-node.result.now c.loop-at.invariant.leads c.get-node.ensures c.args.depth c.loop-at.i c.first.result c.first.ensures (omega (arith, long, c.if-i-len.false)) (row_seen c.in-Ok.row)
    (subst (λ n. slice_get (shows (c.args.depth + n) (rows_of_chains (forest_at cs c.first.result))) (c.loop-at.i - n) ≡ Some (row_seen c.in-Ok.row)) long c.in-Ok.ensures.found)

pub loop-at-smaller : goal.loop-at-smaller
loop-at-smaller t c =
    let cs = c.args.nodes.now.items in
    let same = ap (λ y. count_nodes (forest_at cs y)) c.next-at.ensures in
    let nodes = nodes_here cs c.loop-at.at c.get-node.result.now c.loop-at.invariant.leads c.get-node.ensures c.args.depth c.loop-at.i in
    let less : count_nodes (forest_at cs c.next-at.result) < count_nodes (forest_at cs c.loop-at.at) = omega (arith, same, nodes) in
    less

pub loop-at-preserved : goal.loop-at-preserved
loop-at-preserved t c =
    let cs = c.args.nodes.now.items in
    let i = c.loop-at.invariant in
    let node = c.get-node.result.now in
    let long : c.len-len.result ≡ length node.frames = c.len-len.ensures.len ∙ ap length c.frames.ensures in
    let short : length node.frames ≤ c.loop-at.i = omega (arith, long, c.if-i-len.false) in
    let none : c.in-Err.left + count_rows (forest_at cs c.first.result) ≡ c.loop-at.i - length node.frames = c.in-Err.ensures.left ∙ ap (λ n. c.loop-at.i - n) long in
    let same = ap (λ y. count_nodes (forest_at cs y)) c.next-at.ensures in
    let same_rows = ap (λ y. count_rows (forest_at cs y)) c.next-at.ensures in
    let nodes = nodes_here cs c.loop-at.at node i.leads c.get-node.ensures c.args.depth c.loop-at.i in
    let rows = rows_here cs c.loop-at.at node i.leads c.get-node.ensures c.args.depth c.loop-at.i in
    record {
      leads = subst (LeadsToForest cs) (sym c.next-at.ensures) (next_here cs c.loop-at.at node i.leads c.get-node.ensures c.args.depth c.loop-at.i);
      same = i.same ∙ row_later cs c.loop-at.at node i.leads c.get-node.ensures c.args.depth c.loop-at.i c.first.result c.first.ensures short c.in-Err.left c.next-at.result c.next-at.ensures none;
      left = left_over cs c.loop-at.at node i.leads c.get-node.ensures c.args.depth c.loop-at.i c.first.result c.first.ensures short c.in-Err.left c.next-at.result _ _ c.next-at.ensures none i.left;
      less = omega (arith, same, nodes, i.less);
      depth = omega (arith, same_rows, rows, i.depth);
    }

pub returns-clause-left : goal.returns-clause-left
returns-clause-left t c =
    let cs = c.args.nodes.now.items in
    let none : forest_at cs c.loop-at.at ≡ no_chains = ap (forest_at cs) c.loop-at-test.false ∙ none_in cs c.requires.leads.within_limit in
    let zero = ap count_rows none in
    omega (arith, zero, c.loop-at.invariant.left)
