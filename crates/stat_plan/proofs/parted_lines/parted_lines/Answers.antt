use Rattle.std.proofs.Common.{◌<◌, length, sym, ap, subst, ◌∙◌, arith}
use Rattle.std.specs.List.Sorted.{IsPermutation}
use Rattle.std.specs.Vec.{with_items}
use Rattle.std.proofs.lemmas.List.{with_items_is}
use Rattle.stat_plan.specs.OwnLines.{AreReordered, ListPlacedRanks}
use Rattle.overlay_setup.specs.Tables.{rows_view}
use Rattle.stat_plan.proofs.Indexing.{rows_changed}
use Rattle.stat_plan.proofs.Sharing.{parted_reordered, reordered_more, reordered_none, spread_placed}
use Rattle.stat_plan.proofs.TableLemmas.{row_items, rows_of}
use Rattle.stat_plan.proofs.parted_lines.parted_lines.Goals as goal

pub loop-n-preserved : goal.loop-n-preserved
loop-n-preserved c =
    let n = c.loop-n.n in
    let table = c.loop-n.rows.items in
    let first = (with_items c.in_ok-rows.rows c.part_lines.new.rows).items in
    let shared = ap length (with_items_is c.in_ok-rows.rows c.part_lines.new.rows (c.part_lines.auto.rows ∙ c.deref_mut.ensures.len)) in
    let inside : n < length table =
    omega (arith, c.loop-n-test.true, c.len-n-end.ensures, rows_of table, c.loop-n.invariant.paired, rows_of first, shared, c.part_lines.auto.rows, c.deref_mut.ensures.len) in
    subst (AreReordered (rows_view first)) (sym (rows_changed table n c.sort_row.new.row))
    (reordered_more (rows_view first) (rows_view table) n c.sort_row.new.row.items (subst (λ k. n < k) (rows_of table) inside)
    (subst (λ xs. IsPermutation xs c.sort_row.new.row.items) (sym (row_items table n c.index_mut.result.now inside c.index_mut.ensures.value)) c.sort_row.ensures)
    c.loop-n.invariant)

pub line_numbers-requires-clause-lines : goal.line_numbers-requires-clause-lines
line_numbers-requires-clause-lines c =
    let placed = c.args.placed.now in
    let lines = c.args.lines.now in
    let sorted = parted_reordered placed lines c.in_ok-spread.spread.items c.sort_row-2.new.row.items (rows_view c.part_lines.new.rows) (rows_view c.part_lines.new.rows) (reordered_none (rows_view c.part_lines.new.rows)) c.in_ok-sort_row-2.ensures c.in_ok-spread.ensures in
    subst (ListPlacedRanks placed) (sym c.deref.ensures.value) (spread_placed placed lines c.sort_row-2.new.row.items (rows_view c.part_lines.new.rows) c.requires.lines sorted)

pub returns-clause-parted : goal.returns-clause-parted
returns-clause-parted c =
    let shared = c.part_lines.new.rows in
    let sorted = c.loop-n.rows.items in
    let lent = with_items_is c.in_ok-rows.rows shared (c.part_lines.auto.rows ∙ c.deref_mut.ensures.len) in
    let moved = subst (λ xs. AreReordered (rows_view xs) (rows_view sorted)) lent c.loop-n.invariant in
    parted_reordered c.args.placed.now c.args.lines.now c.in_ok-spread.spread.items c.sort_row-2.new.row.items (rows_view shared) (rows_view sorted) moved c.in_ok-sort_row-2.ensures c.in_ok-spread.ensures
