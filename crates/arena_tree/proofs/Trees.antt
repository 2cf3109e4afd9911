-- Arena trees, and what changes make of them.
use Rattle.std.proofs.Common.{◌≡◌, ◌≢◌, true, ℕ, ◌+◌, ◌≤◌, List, [], ◌∷◌, ◌++◌, length, map, refl, sym, ap, ◌∙◌, subst, arith, inl, inr, append-nil}
use Rattle.std.specs.Prelude.{All}
use Rattle.std.specs.FinMap as finmap
use Rattle.std.proofs.lemmas.Bool.{cases_lt}
use Rattle.std.proofs.lemmas.List.Elements.{All-nil}
use Rattle.rank_set.proofs.SomeMember.{some_member}
use Rattle.rank_set.specs.Ranks.{Ranks, none, has, union, in_order, is_subset}
use Rattle.call_path.specs.Path.{Path, path_cmp}
use Rattle.call_path.specs.Good.{IsGoodPath}
use Rattle.prefix_tree.specs.Tree.{Tree, IsTree, IsLawful, tree_of, merged, covered, added, count_below, pairs_of}
use Rattle.call_path.specs.Pairs.{Pairs, pairs_at}
use Rattle.prefix_tree.specs.Joined.{below_frame, insert_rows, last_marks, path_rows}
use Rattle.prefix_tree.proofs.TreeLemmas.{IsTree-tree_of, tree_merged, tree_covered, tree_added}
use Rattle.prefix_tree.proofs.OwnedLemmas.{lies_in, tree_in-none}
use Rattle.prefix_tree.proofs.GoodPaths.{put_rows_good, path_rows_good}
use Rattle.arena_tree.specs.declared.node.Link.TheVariants.{Top}
use Rattle.arena_tree.specs.NodeViews.{NodeView}
use Rattle.arena_tree.specs.RowForest.{no_rows, forest_rows, HasIncreasingRows}
use Rattle.arena_tree.specs.ChainForest.{ChainForest, row_marks, rows_below, rows_of_chains, HasIncreasingChains, count_nodes, count_rows}
use Rattle.arena_tree.specs.Placement.{first_place, count_place, HasDistinctPlaces, AreNodesOf}
use Rattle.arena_tree.specs.ChainMerge.{new_nodes, new_rows, merge_chains}
use Rattle.arena_tree.specs.Links.{LinkedNodes, linked}
use Rattle.arena_tree.specs.Steps.{apply_steps, merge_steps, count_among, Becomes}
use Rattle.arena_tree.specs.Reading.{forest_at, LeadsToForest}
use Rattle.arena_tree.specs.TreeView.{tree_view, IsArenaTree, path_forest}
use Rattle.arena_tree.proofs.Counting.{count_among-below, count_among-one, inside}
use Rattle.arena_tree.proofs.MergedSteps.{merge_done}
use Rattle.arena_tree.proofs.Growing.{nodes_within_rows, count_rows-merge_chains, length-shown}
use Rattle.arena_tree.proofs.Orders.{rows_sorted}
use Rattle.arena_tree.proofs.MergingChains.{increasing-merge_sides, merge_rows_united}
use Rattle.arena_tree.proofs.Reading.{leads_to}

ends_last : (C : Ranks) (q : Path) → row_marks q (C, C) ≡ last_marks q C
ends_last C [] = refl
ends_last C (g ∷ q) = refl

rows_of_rest : (C : Ranks) (q : Path) → forest_rows (rows_below 0 q (C, C) no_rows) ≡ path_rows C q
rows_of_rest C [] = refl
rows_of_rest C (g ∷ q) = (λ i. (g ∷ [], ends_last C q i) ∷ map (below_frame g) (rows_of_rest C q i) ++ []) ∙ ap (λ es. (g ∷ [], last_marks q C) ∷ es) (append-nil (map (below_frame g) (path_rows C q)))

pub rows_path : (C : Ranks) (p : Path) → forest_rows (rows_of_chains (path_forest C p)) ≡ path_rows C p
rows_path C [] = refl
rows_path C (f ∷ q) = (λ i. (f ∷ [], ends_last C q i) ∷ map (below_frame f) (rows_of_rest C q i) ++ []) ∙ ap (λ es. (f ∷ [], last_marks q C) ∷ es) (append-nil (map (below_frame f) (path_rows C q)))

increasing_rest : (C : Ranks) (q : Path) → HasIncreasingRows (rows_below 0 q (C, C) no_rows)
increasing_rest C [] = tt
increasing_rest C (g ∷ q) = (tt, increasing_rest C q, tt)

pub increasing_path : (C : Ranks) (p : Path) → HasIncreasingChains (path_forest C p)
increasing_path C [] = tt
increasing_path C (f ∷ p) = (tt, increasing_rest C p, tt)

-- places stay distinct
pub distinct_united : (cs : List NodeView) (k new : ChainForest) (m : ℕ) → AreNodesOf cs k → HasDistinctPlaces k → ((y : ℕ) → count_place y new ≡ count_place y k + count_among y (length cs) m) → HasDistinctPlaces new
distinct_united cs k new m nodes_hold no_common is y =
    let count = is y in
    elim (cases_lt y (length cs)) [
      | inl lt ↦ (let none = count_among-below y (length cs) m lt in let old = no_common y in omega (arith, count, none, old))
      | inr ge ↦ (let one = count_among-one y (length cs) m in let old = inside cs k y nodes_hold ge in omega (arith, count, one, old))
    ]

-- the nodes make a tree, which is this one
pub record Makes (C : Ranks) (cs : List NodeView) (first : ℕ) (t : Tree) : Type 0 where
  pub is : tree_view C cs first ≡ t
  pub tree : IsArenaTree C cs first

-- a tree of chains, and what is read of it
module _ (C : Ranks) (cs : List NodeView) (first : ℕ) (holds : IsArenaTree C cs first) where
  abbrev own : ChainForest
  own = forest_at cs first

  pub leads_first : LeadsToForest cs first
  leads_first = let all = holds.count in let few = holds.within_limit in let less = nodes_within_rows own in record { begins = holds.begins; nodes_hold = holds.nodes_hold; no_more_nodes = omega (arith, all); within_limit = omega (arith, all, few, less) }

  pub entries_are : finmap.entries (tree_view C cs first).below ≡ forest_rows (rows_of_chains own)
  entries_are = finmap.entries-from_sorted path_cmp (forest_rows (rows_of_chains own)) (rows_sorted (rows_of_chains own) holds.ordered)

  pub entry_count : length (finmap.entries (tree_view C cs first).below) ≡ count_rows own
  entry_count = ap length entries_are ∙ length-shown own

  pub lawful : IsLawful (tree_view C cs first)
  lawful = record {
    tree = holds.tree;
    within_limit = let e = finmap.len-entries (tree_view C cs first).below in let few = holds.within_limit in omega (arith, e, entry_count, few);
    good = subst (λ es. All (λ e. IsGoodPath e.0) es) (sym entries_are) holds.good_paths;
  }

  -- the same nodes over other ranks
  pub over_ranks : (D : Ranks) (P : Pairs) (E : Ranks) → tree_view D cs first ≡ tree_of P E → Makes D cs first (tree_of P E)
  over_ranks D P E is = record {
    is = is;
    tree = record { begins = holds.begins; nodes_hold = holds.nodes_hold; distinct = holds.distinct; count = holds.count; within_limit = holds.within_limit; ordered = holds.ordered; tree = subst IsTree (sym is) (IsTree-tree_of P E); good_paths = holds.good_paths };
  }

  pub makes_covered : (D : Ranks) → Makes (union C D) cs first (covered (tree_view C cs first) D)
  makes_covered D = over_ranks (union C D) (pairs_of (tree_view C cs first)) (union C D) (tree_covered (tree_view C cs first) holds.tree D)

  -- other rows put in
  module _ (o : ChainForest) (up : HasIncreasingChains o) (good : All (λ e. IsGoodPath e.0) (forest_rows (rows_of_chains o))) (D : Ranks) (P : Pairs)
      (is : record { coverage = D; below = insert_rows (tree_view C cs first).below (forest_rows (rows_of_chains o)) } ≡ tree_of P D) where
    abbrev whole : ChainForest
    whole = merge_chains (length cs) own o

    rows_are : finmap.from_sorted {R = path_cmp} (forest_rows (rows_of_chains whole)) ≡ insert_rows (tree_view C cs first).below (forest_rows (rows_of_chains o))
    rows_are = merge_rows_united (length cs) own o holds.ordered up

    same_entries : finmap.entries (insert_rows (tree_view C cs first).below (forest_rows (rows_of_chains o))) ≡ forest_rows (rows_of_chains whole)
    same_entries = ap finmap.entries (sym rows_are) ∙ finmap.entries-from_sorted path_cmp (forest_rows (rows_of_chains whole)) (rows_sorted (rows_of_chains whole) (increasing-merge_sides (length cs) own o holds.ordered up))

    pub count_united : count_below (tree_of P D) ≡ count_rows own + new_rows [] own [] o
    count_united =
        let one : count_below (tree_of P D) ≡ finmap.len (insert_rows (tree_view C cs first).below (forest_rows (rows_of_chains o))) = ap count_below (sym is) in
        let two = finmap.len-entries (insert_rows (tree_view C cs first).below (forest_rows (rows_of_chains o))) in
        let by_three = ap length same_entries in
        omega (arith, one, two, by_three, length-shown whole, count_rows-merge_chains (length cs) own o)

    -- after the steps
    module _ (h : LinkedNodes) (done : h ≡ apply_steps (linked first cs) (merge_steps Top (length cs) own o)) (few : count_rows own + new_rows [] own [] o ≤ 2048) where
      became : Becomes Top own whole (new_nodes [] own [] o) (linked first cs) h
      became = subst (Becomes Top own whole (new_nodes [] own [] o) (linked first cs)) (sym done) (merge_done Top (length cs) own o (linked first cs) refl holds.nodes_hold holds.distinct tt (sym holds.begins))

      nodes_whole : count_nodes whole ≡ length h.nodes
      nodes_whole = let e = became.size in let count = became.count in let all = holds.count in omega (arith, e, count, all)

      rows_whole : count_rows whole ≤ 2048
      rows_whole = omega (arith, few, count_rows-merge_chains (length cs) own o)

      pub found : forest_at h.nodes h.first ≡ whole
      found = ap (forest_at h.nodes) became.first ∙ leads_to h.nodes whole became.nodes_hold (omega (arith, nodes_whole)) (let less = nodes_within_rows whole in omega (arith, nodes_whole, less, rows_whole))

      pub makes_united : Makes D h.nodes h.first (tree_of P D)
      makes_united = record {
        is = same;
        tree = record {
          begins = ap first_place found ∙ sym became.first;
          nodes_hold = subst (AreNodesOf h.nodes) (sym found) became.nodes_hold;
          distinct = subst HasDistinctPlaces (sym found) (distinct_united cs own whole (new_nodes [] own [] o) holds.nodes_hold holds.distinct became.places);
          count = ap count_nodes found ∙ nodes_whole;
          within_limit = subst (λ (k : ChainForest). count_rows k ≤ 2048) (sym found) rows_whole;
          ordered = subst HasIncreasingChains (sym found) (increasing-merge_sides (length cs) own o holds.ordered up);
          tree = subst IsTree (sym same) (IsTree-tree_of P D);
          good_paths = subst (λ es. All (λ e. IsGoodPath e.0) es) (same_entries ∙ ap (λ k. forest_rows (rows_of_chains k)) (sym found))
              (put_rows_good (tree_view C cs first).below (forest_rows (rows_of_chains o)) (subst (λ es. All (λ e. IsGoodPath e.0) es) (sym entries_are) holds.good_paths) good);
        };
      }
        where
          same : tree_view D h.nodes h.first ≡ tree_of P D
          same = (λ i. record { coverage = D; below = (ap (λ k. finmap.from_sorted {R = path_cmp} (forest_rows (rows_of_chains k))) found ∙ rows_are) i }) ∙ is

-- another tree's rows put in
module _ (A B : Ranks) (cs os : List NodeView) (first other : ℕ) (holds_own : IsArenaTree A cs first) (holds_other : IsArenaTree B os other) where
  abbrev both : Tree
  both = merged (tree_view A cs first) (tree_view B os other)

  is_merged : record { coverage = union A B; below = insert_rows (tree_view A cs first).below (forest_rows (rows_of_chains (forest_at os other))) } ≡ both
  is_merged =
      ap (λ es. record { coverage = union A B; below = insert_rows (tree_view A cs first).below es }) (sym (entries_are B os other holds_other))
      ∙ tree_merged (tree_view A cs first) holds_own.tree (tree_view B os other) holds_other.tree

  pub count_merged : count_below both ≡ count_rows (forest_at cs first) + new_rows [] (forest_at cs first) [] (forest_at os other)
  count_merged = count_united A cs first holds_own (forest_at os other) holds_other.ordered holds_other.good_paths (union A B) (pairs_of (tree_view A cs first) ++ pairs_of (tree_view B os other)) is_merged

  pub steps_make_the_merged_tree : (h : LinkedNodes) → h ≡ apply_steps (linked first cs) (merge_steps Top (length cs) (forest_at cs first) (forest_at os other)) → count_rows (forest_at cs first) + new_rows [] (forest_at cs first) [] (forest_at os other) ≤ 2048 → Makes (union A B) h.nodes h.first both
  steps_make_the_merged_tree h done few = makes_united A cs first holds_own (forest_at os other) holds_other.ordered holds_other.good_paths (union A B) (pairs_of (tree_view A cs first) ++ pairs_of (tree_view B os other)) is_merged h done few

-- no nodes
pub makes_none : Makes none [] 4294967295 (tree_of [] none)
makes_none = record {
  is = tree_in-none;
  tree = record { begins = refl; nodes_hold = tt; distinct = λ x. omega arith; count = refl; within_limit = omega arith; ordered = tt; tree = subst IsTree (sym tree_in-none) (IsTree-tree_of [] none); good_paths = All-nil (λ e. IsGoodPath e.0) };
}

-- a path's rows put in
module _ (A C : Ranks) (p : Path) (cs : List NodeView) (first : ℕ) (t : Tree) (seen : tree_view A cs first ≡ t) (holds_own : IsArenaTree A cs first) (other : C ≢ none) (within : is_subset C t.coverage ≡ true) (good : IsGoodPath p) where
  abbrev o : ChainForest
  o = path_forest C p

  some : (r : ℕ) × (has C r ≡ true)
  some = some_member C other

  covers_each : (q : ℕ) → has C q ≡ true → has A q ≡ true
  covers_each = lies_in C A (ap (λ (t : Tree). is_subset C t.coverage) seen ∙ within)

  is_added : record { coverage = A; below = insert_rows (tree_view A cs first).below (forest_rows (rows_of_chains o)) } ≡ added (tree_view A cs first) C p
  is_added =
      ap (λ es. record { coverage = A; below = insert_rows (tree_view A cs first).below es }) (rows_path C p)
      ∙ tree_added (tree_view A cs first) holds_own.tree C p some.0 some.1 covers_each

  good_rows : All (λ e. IsGoodPath e.0) (forest_rows (rows_of_chains o))
  good_rows = subst (λ es. All (λ e. IsGoodPath e.0) es) (sym (rows_path C p)) (path_rows_good C some.0 some.1 p good)

  abbrev pairs : Pairs
  pairs = pairs_of (tree_view A cs first) ++ pairs_at (in_order C) p

  pub count_added : count_below (added t C p) ≡ count_rows (forest_at cs first) + new_rows [] (forest_at cs first) [] o
  count_added = ap (λ t. count_below (added t C p)) (sym seen) ∙ count_united A cs first holds_own o (increasing_path C p) good_rows A pairs is_added

  pub steps_make_the_added_tree : (h : LinkedNodes) → h ≡ apply_steps (linked first cs) (merge_steps Top (length cs) (forest_at cs first) o) → count_rows (forest_at cs first) + new_rows [] (forest_at cs first) [] o ≤ 2048 → Makes A h.nodes h.first (added t C p)
  steps_make_the_added_tree h done few =
      subst (λ (u : Tree). Makes A h.nodes h.first (added u C p)) seen
      (makes_united A cs first holds_own o (increasing_path C p) good_rows A pairs is_added h done few)

  -- the forest then
  pub added_forest : (h : LinkedNodes) → h ≡ apply_steps (linked first cs) (merge_steps Top (length cs) (forest_at cs first) o) → count_rows (forest_at cs first) + new_rows [] (forest_at cs first) [] o ≤ 2048 → forest_at h.nodes h.first ≡ merge_chains (length cs) (forest_at cs first) o
  added_forest h done few = found A cs first holds_own o (increasing_path C p) good_rows A pairs is_added h done few
