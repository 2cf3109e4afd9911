-- Parts of a forest, and the siblings in them.
use Rattle.std.proofs.Common.{◌≡◌, inl, inr, ℕ, ◌≤◌, List, sym, ap, ◌∙◌, subst, arith}
use Rattle.std.proofs.lemmas.List.Elements.{All-weaker}
use Rattle.call_path.specs.Path.{Path}
use Rattle.prefix_tree.specs.Tree.{Marks}
use Rattle.arena_tree.specs.declared.target.MergeTarget.{MergeTarget}
use Rattle.arena_tree.specs.declared.trail.Hint.{Hint}
use Rattle.arena_tree.specs.NodeViews.{NodeView}
use Rattle.arena_tree.specs.ChainForest.{ChainForest, no_chains, chain_node, rows_of_chains, HasIncreasingChains}
use Rattle.arena_tree.specs.Placement.{first_place, count_place, HasDistinctPlaces}
use Rattle.arena_tree.specs.Reading.{forest_at}
use Rattle.arena_tree.specs.Targets.{target_forest}
use Rattle.arena_tree.specs.Trail.{IsAmong, IsLaterSibling, AreOwnHints, HasSiblings, below_first, LeadsToOrdered}
use Rattle.arena_tree.specs.Growth.{CanGrow}
use Rattle.arena_tree.proofs.Counting.{agrees}
use Rattle.arena_tree.proofs.Trails.{siblings_from, siblings_within, at_siblings, increasing_below}
use Rattle.arena_tree.proofs.GrowingPlaces.{leads_at, whole_forest}

-- the siblings of a part are siblings, those of its nodes are all in it, and they rise
pub record IsPart (k j : ChainForest) : Type 0 where
  pub siblings : (x t : ℕ) → IsLaterSibling j x t → IsLaterSibling k x t
  pub keeps : (x t : ℕ) → IsLaterSibling j x x → IsLaterSibling k x t → IsLaterSibling j x t
  pub ordered : HasIncreasingChains k → HasIncreasingChains j

later_counted : (k : ChainForest) (x t : ℕ) → IsLaterSibling k x t → 1 ≤ count_place x k
later_counted no_chains x t i = absurd i
later_counted (chain_node a f fs m b s) x t (inl i) = let own = agrees x a i.0 in omega (arith, own)
later_counted (chain_node a f fs m b s) x t (inr (inl i)) = let some = later_counted b x t i in omega (arith, some)
later_counted (chain_node a f fs m b s) x t (inr (inr i)) = let some = later_counted s x t i in omega (arith, some)

part_itself : (k : ChainForest) → IsPart k k
part_itself k = record { siblings = λ x t i. i; keeps = λ x t own i. i; ordered = λ up. up }

part_trans : (k j l : ChainForest) → IsPart k j → IsPart j l → IsPart k l
part_trans k j l one two = record {
  siblings = λ x t i. one.siblings x t (two.siblings x t i);
  keeps = λ x t own i. two.keeps x t own (one.keeps x t (two.siblings x x own) i);
  ordered = λ up. two.ordered (one.ordered up);
}

module _ (a : ℕ) (f : List ℕ) (fs : Path) (m : Marks) (b s : ChainForest) (distinct : HasDistinctPlaces (chain_node a f fs m b s)) where
  keeps_rest : (x t : ℕ) → IsLaterSibling s x x → IsLaterSibling (chain_node a f fs m b s) x t → IsLaterSibling s x t
  keeps_rest x t own (inl i) = let some = later_counted s x x own in let here = agrees x a i.0 in let one = distinct x in absurd (omega (arith, some, here, one))
  keeps_rest x t own (inr (inl i)) = let some = later_counted s x x own in let here = later_counted b x t i in let one = distinct x in absurd (omega (arith, some, here, one))
  keeps_rest x t own (inr (inr i)) = i

  keeps_below : (x t : ℕ) → IsLaterSibling b x x → IsLaterSibling (chain_node a f fs m b s) x t → IsLaterSibling b x t
  keeps_below x t own (inl i) = let some = later_counted b x x own in let here = agrees x a i.0 in let one = distinct x in absurd (omega (arith, some, here, one))
  keeps_below x t own (inr (inl i)) = i
  keeps_below x t own (inr (inr i)) = let some = later_counted b x x own in let here = later_counted s x t i in let one = distinct x in absurd (omega (arith, some, here, one))

  part_rest : IsPart (chain_node a f fs m b s) s
  part_rest = record { siblings = λ x t i. inr (inr i); keeps = keeps_rest; ordered = λ up. up.2 }

  part_below : IsPart (chain_node a f fs m b s) b
  part_below = record { siblings = λ x t i. inr (inl i); keeps = keeps_below; ordered = λ up. increasing_below a fs m (rows_of_chains b) up.1 }

part_siblings : (t : ℕ) (k : ChainForest) (i : IsAmong t k) → HasDistinctPlaces k → IsPart k (siblings_from t k i)
part_siblings t no_chains i distinct = part_itself no_chains
part_siblings t (chain_node a f fs m b s) (inl e) distinct = part_itself (chain_node a f fs m b s)
part_siblings t (chain_node a f fs m b s) (inr i) distinct =
    part_trans (chain_node a f fs m b s) s (siblings_from t s i) (part_rest a f fs m b s distinct) (part_siblings t s i (λ x. let one = distinct x in omega (arith, one)))

part_first : (k : ChainForest) → HasDistinctPlaces k → IsPart k (below_first k)
part_first no_chains distinct = part_itself no_chains
part_first (chain_node a f fs m b s) distinct = part_below a f fs m b s distinct

-- a later sibling of the first node is one of its siblings
among_first : (k : ChainForest) (x t : ℕ) → HasDistinctPlaces k → x ≡ first_place k → IsLaterSibling k x t → IsAmong t k
among_first no_chains x t distinct e i = absurd i
among_first (chain_node a f fs m b s) x t distinct e (inl i) = i.1
among_first (chain_node a f fs m b s) x t distinct e (inr (inl i)) = let some = later_counted b x t i in let here = agrees x a e in let one = distinct x in absurd (omega (arith, some, here, one))
among_first (chain_node a f fs m b s) x t distinct e (inr (inr i)) = let some = later_counted s x t i in let here = agrees x a e in let one = distinct x in absurd (omega (arith, some, here, one))

-- what is below a node that was found among siblings
module _ (cs : List NodeView) (into new : MergeTarget) (grows : CanGrow cs into) (tree : LeadsToOrdered cs into.node) (whole : new.skip ≡ 0) (later : IsLaterSibling (forest_at cs into.node) into.node new.node)
    (cs1 : List NodeView) (below : MergeTarget) (there : forest_at cs1 below.node ≡ below_first (target_forest cs new)) where
  abbrev k0 : ChainForest
  k0 = forest_at cs into.node

  distinct0 : HasDistinctPlaces k0
  distinct0 = subst HasDistinctPlaces (whole_forest cs into grows.whole) grows.distinct

  among : IsAmong new.node k0
  among = among_first k0 into.node new.node distinct0 (sym tree.leads.begins) later

  abbrev on : ChainForest
  on = siblings_from new.node k0 among

  new_forest : target_forest cs new ≡ on
  new_forest = whole_forest cs new whole ∙ at_siblings cs tree.leads.within_limit new.node k0 among tree.leads.nodes_hold tree.leads.no_more_nodes

  part : IsPart k0 (forest_at cs1 below.node)
  part =
      subst (λ j. IsPart k0 j) (ap below_first (sym new_forest) ∙ sym there)
      (part_trans k0 on (below_first on) (part_siblings new.node k0 among distinct0) (part_first on (λ x. let less = siblings_within new.node k0 among x in let one = distinct0 x in omega (arith, less, one))))

  pub below_ordered : CanGrow cs1 below → LeadsToOrdered cs1 below.node
  below_ordered more = record { leads = leads_at cs1 below.node below.place below.skip more.whole more.leads; ordered = part.ordered tree.ordered }

  pub below_hints : (hs : List Hint) → AreOwnHints k0 hs → AreOwnHints (forest_at cs1 below.node) hs
  below_hints hs own =
      All-weaker (λ h. IsLaterSibling k0 h.first h.first → IsLaterSibling k0 h.first h.later) (λ h. IsLaterSibling (forest_at cs1 below.node) h.first h.first → IsLaterSibling (forest_at cs1 below.node) h.first h.later)
      (λ h right i. part.keeps h.first h.later i (right (part.siblings h.first h.first i))) hs own

  pub below_siblings : (k : ChainForest) → HasSiblings k k0 → HasSiblings k (forest_at cs1 below.node)
  below_siblings k all x t i = all x t (part.siblings x t i)
