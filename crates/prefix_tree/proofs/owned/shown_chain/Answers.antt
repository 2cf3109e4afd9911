use Rattle.std.proofs.Common.{◌≡◌, suc, ◌-◌, arith, length}
use Rattle.prefix_tree.proofs.OwnedLemmas.{entry_read}
use Rattle.prefix_tree.proofs.ChainLemmas.{one_chained}
use Rattle.prefix_tree.proofs.owned.shown_chain.Goals as goal

pub returns-clause-rows : goal.returns-clause-rows
returns-clause-rows c =
    let row = c.index-rows-i.result in
    let last : suc (c.len-depth.result - 1) ≡ length row.path = omega (arith, c.len-depth.ensures.len, c.len-depth.ensures.not_empty) in
    rw (entry_read c.args.rows.now c.args.i row c.requires c.index-rows-i.is)
    (one_chained c.len-depth.result row.path (c.len-depth.result - 1) (row.label, row.ends) last c.len-depth.ensures.len)
