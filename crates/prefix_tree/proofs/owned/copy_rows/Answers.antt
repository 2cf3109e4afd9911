use Rattle.std.proofs.Common.{◌∙◌, ap}
use Rattle.std.proofs.lemmas.List.{take_all}
use Rattle.prefix_tree.specs.Owned.{entry_of, entries_view}
use Rattle.prefix_tree.proofs.Edits.{map_push_more}
use Rattle.prefix_tree.proofs.owned.copy_rows.Goals as goal

pub loop-row-preserved : goal.loop-row-preserved
loop-row-preserved c =
    rw c.in_ok-push.ensures.items (map_push_more entry_of c.loop-row.all.items c.args.rows.now c.loop-row.row-index _ c.row-item.result c.loop-row-test.true c.row-item.is
    (λ i. (c.in_ok-copy.ensures i, (c.in_ok-copy-2.ensures i, c.in_ok-copy-3.ensures i))) c.loop-row.invariant)

pub returns : goal.returns
returns c = c.loop-row.invariant ∙ ap entries_view (take_all c.loop-row.row-index _ c.loop-row-test.false)
