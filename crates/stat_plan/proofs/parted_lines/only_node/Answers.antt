use Rattle.std.specs.Prelude.{slice_get}
use Rattle.std.proofs.Common.{◌≡◌, ℕ, List, Some, get_or, sym, ap, ◌∙◌}
use Rattle.std.proofs.lemmas.List.{get_or_default}
use Rattle.rank_set.specs.Ranks.{Ranks, IsSubset, has, in_order, none, subset_has}
use Rattle.stat_plan.specs.Samples.{all_ranks}
use Rattle.stat_plan.specs.Tables.{AreRankNodes}
use Rattle.stat_plan.proofs.Indexing.{IsRankNode, rank_has_entry, rank_node_is}
use Rattle.stat_plan.proofs.LookupLemmas.{has_first}
use Rattle.stat_plan.proofs.parted_lines.only_node.Goals as goal

node_of : (placed : List Ranks) (rank_to_node : List ℕ) (ranks : Ranks) (first node : ℕ) → AreRankNodes placed rank_to_node → IsSubset ranks (all_ranks placed) → slice_get (in_order ranks) 0 ≡ Some first → node ≡ get_or rank_to_node first 0 → IsRankNode placed first node
node_of placed rank_to_node ranks first node are lies is = rank_node_is placed rank_to_node first node are (lies first (has_first ranks first is))

pub number-node-requires : goal.number-node-requires
number-node-requires c = rank_has_entry c.args.placed.now c.args.rank_to_node.now c.in_ok-first.first c.requires.rank_to_node (c.requires.placed c.in_ok-first.first (has_first c.args.ranks.now c.in_ok-first.first c.in_ok-first.ensures.least))

pub bounds-placed-node : goal.bounds-placed-node
bounds-placed-node c = (node_of c.args.placed.now c.args.rank_to_node.now c.args.ranks.now c.in_ok-first.first c.number-node.result c.requires.rank_to_node c.requires.placed c.in_ok-first.ensures.least c.number-node.ensures).inside

pub returns-then-is_subset-clause-inside : goal.returns-then-is_subset-clause-inside
returns-then-is_subset-clause-inside c = (node_of c.args.placed.now c.args.rank_to_node.now c.args.ranks.now c.in_ok-first.first c.number-node.result c.requires.rank_to_node c.requires.placed c.in_ok-first.ensures.least c.number-node.ensures).inside

pub returns-then-is_subset-clause-subset : goal.returns-then-is_subset-clause-subset
returns-then-is_subset-clause-subset c r there =
    let at = node_of c.args.placed.now c.args.rank_to_node.now c.args.ranks.now c.in_ok-first.first c.number-node.result c.requires.rank_to_node c.requires.placed c.in_ok-first.ensures.least c.number-node.ensures in
    ap (λ s. has s r) (sym (c.index-placed-node.is ∙ get_or_default c.args.placed.now c.number-node.result c.index-placed-node.result none at.inside))
    ∙ subset_has c.args.ranks.now c.index-placed-node.result (sym c.if-is_subset.ensures) r there
