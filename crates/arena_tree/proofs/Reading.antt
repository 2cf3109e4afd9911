-- A node that is read.
use Rattle.std.proofs.Common.{◌≡◌, ◌≢◌, ℕ, zero, suc, ◌<◌, ◌≤◌, List, length, refl, sym, ap, ◌∙◌, subst, arith}
use Rattle.std.proofs.lemmas.Option.{slice_get_within, slice_get_past}
use Rattle.arena_tree.specs.NodeViews.{NodeView}
use Rattle.arena_tree.specs.ChainForest.{ChainForest, no_chains, chain_node, count_nodes}
use Rattle.arena_tree.specs.Placement.{first_place, node_view, no_place, AreNodesOf}
use Rattle.arena_tree.specs.Reading.{forest_with, forest_within, forest_at, LeadsToForest}

-- the links lead to the forest
pub forest_found : (cs : List NodeView) (k : ChainForest) (n : ℕ) → AreNodesOf cs k → count_nodes k ≤ n → length cs ≤ 4096 → forest_within n cs (first_place k) ≡ k
forest_found cs no_chains zero nodes_hold fits few = refl
forest_found cs no_chains (suc n) nodes_hold fits few = ap (forest_with (forest_within n cs) no_place) (slice_get_past cs no_place (omega (arith, few)))
forest_found cs (chain_node a f fs m b s) zero nodes_hold fits few = absurd (omega (arith, fits))
forest_found cs (chain_node a f fs m b s) (suc n) nodes_hold fits few =
    ap (forest_with (forest_within n cs) a) nodes_hold.0
    ∙ (λ i. chain_node a f fs m (forest_found cs b n nodes_hold.1 (omega (arith, fits)) few i) (forest_found cs s n nodes_hold.2 (omega (arith, fits)) few i))

-- where a forest lies, its place leads to it
pub leads_to : (cs : List NodeView) (k : ChainForest) → AreNodesOf cs k → count_nodes k ≤ length cs → length cs ≤ 4096 → forest_at cs (first_place k) ≡ k
leads_to cs k nodes_hold fits few = forest_found cs k (length cs) nodes_hold fits few

pub leads_from : (cs : List NodeView) (k : ChainForest) → AreNodesOf cs k → count_nodes k ≤ length cs → length cs ≤ 4096 → LeadsToForest cs (first_place k)
leads_from cs k nodes_hold fits few =
    let e : forest_at cs (first_place k) ≡ k = leads_to cs k nodes_hold fits few in
    record { begins = ap first_place e; nodes_hold = subst (AreNodesOf cs) (sym e) nodes_hold; no_more_nodes = subst (λ j. count_nodes j ≤ length cs) (sym e) fits; within_limit = few }

-- nothing lies nowhere
pub none_in : (cs : List NodeView) → length cs ≤ 4096 → forest_at cs no_place ≡ no_chains
none_in cs few = leads_to cs no_chains tt (omega arith) few

pub leads_nowhere : (cs : List NodeView) → length cs ≤ 4096 → LeadsToForest cs no_place
leads_nowhere cs few = leads_from cs no_chains tt (omega arith) few

inside_at : (cs : List NodeView) (at : ℕ) (k : ChainForest) → first_place k ≡ at → AreNodesOf cs k → at ≢ no_place → at < length cs
inside_at cs at no_chains from nodes_hold off = absurd (off (sym from))
inside_at cs at (chain_node a f fs m b s) from nodes_hold off = subst (λ x. x < length cs) from (slice_get_within cs a (node_view f fs m b s) nodes_hold.0)

-- a place that leads somewhere is that of a node
pub inside_node : (cs : List NodeView) (at : ℕ) → LeadsToForest cs at → at ≢ no_place → at < length cs
inside_node cs at to off = inside_at cs at (forest_at cs at) to.begins to.nodes_hold off
