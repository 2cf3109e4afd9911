use Rattle.std.proofs.Common.{◌-◌, ◌<◌, ◌∙◌, sym, ap, arith, length, refl, subst}
use Rattle.rank_set.specs.Ranks.{union}
use Rattle.stat_plan.specs.LineLists.{line_view, one_rank, stack_line}
use Rattle.stat_plan.specs.OwnLines.{GainsRanks}
use Rattle.stat_plan.proofs.OneRanks.{one_rank_some}
use Rattle.stat_plan.proofs.Sharing.{gains_new, last_gains, on_ok}
use Rattle.stat_plan.proofs.parted_lines.add_rank.Goals as goal

pub returns-then-is_at : goal.returns-then-is_at
returns-then-is_at c =
    let inside : c.len-count.result - 1 < length c.args.row.now.items = (let n = c.len-count.ensures in let some = c.if-count-gt0.true in omega (arith, n, some)) in
    on_ok c.union_into.result
    (λ is. last_gains (line_view c.args.line.now) c.index.result.now c.index_mut.result.now (one_rank c.args.rank) c.union_into.new.self c.args.row.now.items (c.len-count.result - 1) inside c.index.ensures c.index_mut.ensures.value (sym c.if-is_at.ensures)
    (is ∙ ap (union c.index_mut.result.now.ranks) c.in_one_word-ranks.ensures))
    c.union_into.ensures.ok

pub returns : goal.returns
returns c =
    subst (GainsRanks (line_view c.args.line.now) (one_rank c.args.rank) c.args.row.now.items) (sym c.in_ok-push.ensures.items)
    (gains_new (line_view c.args.line.now) (stack_line c.args.line.now.time c.args.line.now.path c.in_one_word-ranks.result) (one_rank c.args.rank) c.args.row.now.items refl refl c.in_one_word-ranks.ensures (one_rank_some c.args.rank))
