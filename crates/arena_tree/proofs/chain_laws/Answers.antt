use Rattle.std.proofs.Common.{◌∷◌, ◌++◌}
use Rattle.rank_set.specs.Ranks.{none}
use Rattle.arena_tree.specs.ChainForest.{no_chains, chain_node, rows_of_chains}
use Rattle.arena_tree.proofs.BareForests.{rows_alike}
use Rattle.arena_tree.proofs.MergedSteps.{merge_done}
use Rattle.arena_tree.proofs.MergingChains.{cut_shows_the_same_rows, merge_rows_united}
use Rattle.arena_tree.proofs.ReadingOrders.{rows_are_read_in_order}
use Rattle.arena_tree.proofs.chain_laws.Goals as goal

pub returns : goal.returns
returns c = record {
  cut = λ a n f g fs gs m b s. rows_alike (rows_of_chains (chain_node a f (fs ++ g ∷ gs) m b s)) (rows_of_chains (chain_node a f fs (m.0, none) (chain_node n g gs m b no_chains) s)) (cut_shows_the_same_rows a n f g fs gs m b s);
  united = merge_rows_united;
  made = merge_done;
  read = rows_are_read_in_order;
}
