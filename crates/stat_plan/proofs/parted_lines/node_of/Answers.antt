use Rattle.stat_plan.proofs.Indexing.{rank_has_entry, rank_node_is}
use Rattle.stat_plan.proofs.OneRanks.{has_one_rank, one_rank_within}
use Rattle.stat_plan.proofs.parted_lines.node_of.Goals as goal

pub number-requires : goal.number-requires
number-requires c = rank_has_entry c.args.placed.now c.args.rank_to_node.now c.args.rank c.requires.rank_to_node (c.requires.placed c.args.rank (has_one_rank c.args.rank))

pub returns-clause-inside : goal.returns-clause-inside
returns-clause-inside c = (rank_node_is c.args.placed.now c.args.rank_to_node.now c.args.rank c.number.result c.requires.rank_to_node (c.requires.placed c.args.rank (has_one_rank c.args.rank)) c.number.ensures).inside

pub returns-clause-subset : goal.returns-clause-subset
returns-clause-subset c = one_rank_within c.args.rank _ (rank_node_is c.args.placed.now c.args.rank_to_node.now c.args.rank c.number.result c.requires.rank_to_node (c.requires.placed c.args.rank (has_one_rank c.args.rank)) c.number.ensures).holds
