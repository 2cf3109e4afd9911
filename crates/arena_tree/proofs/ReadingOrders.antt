-- Rows read one after another.
use Rattle.std.proofs.Common.{suc, ◌∷◌, refl, ap}
use Rattle.std.proofs.lemmas.List.{append_assoc}
use Rattle.rank_set.specs.Ranks.{none}
use Rattle.arena_tree.specs.ChainForest.{no_chains, chain_node, rows_of_chains}
use Rattle.arena_tree.specs.ReadingOrder.{shows, waiting_rows, ReadsInOrder}

pub rows_are_read_in_order : ReadsInOrder
rows_are_read_in_order = record {
  along = λ d a f g fs m b s es. ap (λ rs. (d, f, (m.0, none)) ∷ rs) (append_assoc (shows (suc d) (rows_of_chains (chain_node a g fs m b no_chains))) (shows d (rows_of_chains s)) (waiting_rows es));
  below = λ d a f m b s es. ap (λ rs. (d, f, m) ∷ rs) (append_assoc (shows (suc d) (rows_of_chains b)) (shows d (rows_of_chains s)) (waiting_rows es));
  back = λ d es. refl;
}
