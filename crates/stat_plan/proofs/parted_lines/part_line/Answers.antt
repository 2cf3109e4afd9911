use Rattle.std.proofs.Common.{ap}
use Rattle.stat_plan.specs.LineLists.{line_view, one_rank, ranks_view}
use Rattle.stat_plan.proofs.Sharing.{on_ok, taken_by_row}
use Rattle.stat_plan.proofs.parted_lines.part_line.Goals as goal

pub returns-in-One-clause-parted : goal.returns-in-One-clause-parted
returns-in-One-clause-parted c =
    on_ok c.add_rank.result
    (taken_by_row c.args.placed.now c.args.rows.now (line_view c.args.line) (one_rank c.in-One.rank) c.node_of-node.result c.index-rows-node.result c.add_rank.new.row c.args.spread.now.lines.items c.requires.once c.requires.paired c.node_of-node.ensures.inside c.node_of-node.ensures.subset (ap ranks_view c.in-One.is))
    c.add_rank.ensures

pub returns-in-Some-clause-parted : goal.returns-in-Some-clause-parted
returns-in-Some-clause-parted c =
    on_ok c.add_ranks.result
    (taken_by_row c.args.placed.now c.args.rows.now (line_view c.args.line) c.in-Several.ranks.now c.in-Some.node c.index-rows-node-in-Some.result c.add_ranks.new.row c.args.spread.now.lines.items c.requires.once c.requires.paired c.in-Some.ensures.inside c.in-Some.ensures.subset (ap ranks_view c.in-Several.is))
    c.add_ranks.ensures
