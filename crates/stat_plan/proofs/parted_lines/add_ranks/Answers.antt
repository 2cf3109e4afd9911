use Rattle.std.proofs.Common.{◌-◌, ◌<◌, sym, arith, length}
use Rattle.stat_plan.specs.LineLists.{line_view}
use Rattle.stat_plan.proofs.Sharing.{last_gains, on_ok}
use Rattle.stat_plan.proofs.parted_lines.add_ranks.Goals as goal

pub returns-then-is_at : goal.returns-then-is_at
returns-then-is_at c =
    let inside : c.len-count.result - 1 < length c.args.row.now.items = (let n = c.len-count.ensures in let some = c.if-count-gt0.true in omega (arith, n, some)) in
    on_ok c.union_into.result
    (last_gains (line_view c.args.line.now) c.index.result.now c.index_mut.result.now c.args.ranks.now c.union_into.new.self c.args.row.now.items (c.len-count.result - 1) inside c.index.ensures c.index_mut.ensures.value (sym c.if-is_at.ensures))
    c.union_into.ensures.ok
