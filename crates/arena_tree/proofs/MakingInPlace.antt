-- What a tree is after a change in place.
use Rattle.std.proofs.Common.{◌≡◌, ◌≢◌, true, ℕ, ◌+◌, ◌≤◌, List, [], ◌∷◌, length, refl, sym, ◌∙◌, subst, arith}
use Rattle.rank_set.specs.Ranks.{Ranks, none, union, is_subset}
use Rattle.call_path.specs.Path.{Path}
use Rattle.call_path.specs.Good.{IsGoodPath}
use Rattle.prefix_tree.specs.Tree.{Tree, merged, added, count_below}
use Rattle.arena_tree.specs.declared.node.Link.TheVariants.{Top}
use Rattle.arena_tree.specs.declared.trail.Hint.{Hint}
use Rattle.arena_tree.specs.NodeViews.{NodeView}
use Rattle.arena_tree.specs.ChainForest.{ChainForest, no_chains, count_rows}
use Rattle.arena_tree.specs.ChainMerge.{new_rows}
use Rattle.arena_tree.specs.Links.{LinkedNodes, linked}
use Rattle.arena_tree.specs.Reading.{chain_of, forest_at}
use Rattle.arena_tree.specs.TreeView.{tree_view, IsArenaTree, path_forest}
use Rattle.arena_tree.specs.Trail.{AreHints}
use Rattle.arena_tree.specs.Growth.{all_at, CanGrow, grown, rows_grown}
use Rattle.arena_tree.proofs.Totals.{merge_rows}
use Rattle.arena_tree.proofs.Growing.{nodes_within_rows}
use Rattle.arena_tree.proofs.Trees.{Makes, leads_first, count_merged, count_added, steps_make_the_merged_tree, steps_make_the_added_tree, added_forest}
use Rattle.arena_tree.proofs.Making.{rows_made}
use Rattle.arena_tree.proofs.KeptSiblings.{hints_kept}

-- a tree can grow
module _ (A : Ranks) (cs : List NodeView) (first : ℕ) (holds : IsArenaTree A cs first) where
  pub tree_grows : CanGrow cs (all_at Top first)
  tree_grows = record { whole = refl; leads = (leads_first A cs first holds, refl); distinct = holds.distinct; outside = tt }

  pub tree_few : length cs ≤ 2048
  tree_few = let all = holds.count in let few = holds.within_limit in let less = nodes_within_rows (forest_at cs first) in omega (arith, all, few, less)

  abbrev more : ChainForest → ℕ
  more o = rows_grown (linked first cs) (all_at Top first) o

  pub more_is : (o : ChainForest) → more o ≡ new_rows [] (forest_at cs first) [] o
  more_is o = merge_rows Top (length cs) (forest_at cs first) o

  -- another tree is merged
  module _ (B : Ranks) (os : List NodeView) (other : ℕ) (t u : Tree) (seen : tree_view A cs first ≡ t) (seen_other : tree_view B os other ≡ u) (others : IsArenaTree B os other) (rows : ℕ) (rows_are : rows ≡ count_rows (forest_at cs first)) where
    abbrev o : ChainForest
    o = forest_at os other

    pub grown_merge_counted : count_below (merged t u) ≡ rows + more o
    grown_merge_counted =
        let all : count_below (merged t u) ≡ count_rows (forest_at cs first) + new_rows [] (forest_at cs first) [] o =
        (λ i. count_below (merged (sym seen i) (sym seen_other i))) ∙ count_merged A B cs os first other holds others in
        omega (arith, all, more_is o, rows_are)

    pub grown_merge_made : (C : Ranks) (h : LinkedNodes) → h ≡ grown (linked first cs) (all_at Top first) o → rows + more o ≤ 2048 → C ≡ union A B → Makes C h.nodes h.first (merged t u)
    grown_merge_made C h done few united =
        subst (λ (C : Ranks). Makes C h.nodes h.first (merged t u)) (sym united)
        (subst (λ (v : Tree). Makes (union A B) h.nodes h.first v) (λ i. merged (seen i) (seen_other i))
        (steps_make_the_merged_tree A B cs os first other holds others h done (omega (arith, more_is o, rows_are, few))))

    pub grown_merge_rows : (C : Ranks) (cs1 : List NodeView) (first1 rows1 : ℕ) → Makes C cs1 first1 (merged t u) → rows1 ≡ rows + more o → rows1 ≡ count_rows (forest_at cs1 first1)
    grown_merge_rows C cs1 first1 rows1 makes is = let all = rows_made C cs1 first1 (merged t u) makes in omega (arith, all, grown_merge_counted, is)

  -- a path is added
  module _ (C : Ranks) (path : Path) (t : Tree) (seen : tree_view A cs first ≡ t) (some : C ≢ none) (within : is_subset C t.coverage ≡ true) (good : IsGoodPath path) (rows : ℕ) (rows_are : rows ≡ count_rows (forest_at cs first)) where
    abbrev one : ChainForest
    one = path_forest C path

    pub grown_add_counted : count_below (added t C path) ≡ rows + more one
    grown_add_counted = let all = count_added A C path cs first t seen holds some within good in omega (arith, all, more_is one, rows_are)

    module _ (h : LinkedNodes) (done : h ≡ grown (linked first cs) (all_at Top first) one) (few : rows + more one ≤ 2048) where
      few_rows : count_rows (forest_at cs first) + new_rows [] (forest_at cs first) [] one ≤ 2048
      few_rows = omega (arith, more_is one, rows_are, few)

      pub grown_add_made : Makes A h.nodes h.first (added t C path)
      grown_add_made = steps_make_the_added_tree A C path cs first t seen holds some within good h done few_rows

      pub grown_add_hints : (hs : List Hint) → AreHints (forest_at cs first) hs → AreHints (forest_at h.nodes h.first) hs
      grown_add_hints hs right =
          subst (λ k. AreHints k hs) (sym (added_forest A C path cs first t seen holds some within good h done few_rows)) (hints_kept (length cs) (forest_at cs first) one hs right)

      pub grown_add_rows : (rows1 : ℕ) → rows1 ≡ rows + more one → rows1 ≡ count_rows (forest_at h.nodes h.first)
      grown_add_rows rows1 is = let all = rows_made A h.nodes h.first (added t C path) grown_add_made in omega (arith, all, grown_add_counted, is)

-- a path as a forest
pub path_chain : (C : Ranks) (path : Path) → chain_of 0 path (C, C) no_chains no_chains ≡ path_forest C path
path_chain C [] = refl
path_chain C (f ∷ fs) = refl
