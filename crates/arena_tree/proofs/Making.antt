-- What is planned for a whole tree, and what the tree has then.
use Rattle.std.proofs.Common.{◌≡◌, ◌≢◌, true, ℕ, suc, ◌+◌, ◌-◌, ◌≤◌, List, [], ◌∷◌, ◌++◌, length, drop, refl, sym, ap, ◌∙◌, subst, arith, append-nil}
use Rattle.std.specs.Prelude.{slice_get}
use Rattle.std.specs.FinMap as finmap
use Rattle.rank_set.specs.Ranks.{Ranks, none, union, is_subset}
use Rattle.call_path.specs.Path.{Path}
use Rattle.call_path.specs.Good.{IsGoodPath}
use Rattle.prefix_tree.specs.Tree.{Tree, count_below, rows_of, merged, added}
use Rattle.arena_tree.specs.declared.node.Link.TheVariants.{Top}
use Rattle.arena_tree.specs.declared.node.ChangeStep.{ChangeStep}
use Rattle.arena_tree.specs.declared.target.MergeTarget.{MergeTarget}
use Rattle.arena_tree.specs.declared.trail.Hint.{Hint}
use Rattle.arena_tree.specs.NodeViews.{NodeView}
use Rattle.arena_tree.specs.RowForest.{forest_rows}
use Rattle.arena_tree.specs.ChainForest.{ChainForest, no_chains, rows_of_chains, count_rows}
use Rattle.arena_tree.specs.ChainMerge.{new_nodes, new_rows}
use Rattle.arena_tree.specs.Steps.{nodes_added, rows_added, merge_steps, apply_steps}
use Rattle.arena_tree.specs.Links.{LinkedNodes, linked}
use Rattle.arena_tree.specs.Reading.{chain_of, forest_at}
use Rattle.arena_tree.specs.Targets.{target_forest}
use Rattle.arena_tree.specs.Plans.{PlanView, plan_with, next_place, HasRoom, PlansChain}
use Rattle.arena_tree.specs.TreeView.{tree_view, IsArenaTree, path_forest}
use Rattle.arena_tree.specs.Trail.{AreHints}
use Rattle.arena_tree.proofs.TurnSteps.{side_steps-none}
use Rattle.arena_tree.proofs.Totals.{merge_rows}
use Rattle.arena_tree.proofs.Trees.{Makes, leads_first, entries_are, entry_count, count_added, count_merged, steps_make_the_added_tree, added_forest, steps_make_the_merged_tree}
use Rattle.arena_tree.proofs.KeptSiblings.{hints_kept}

-- an empty plan for a tree
module _ (cs : List NodeView) (n : ℕ) (p0 : PlanView) (base : p0.base ≡ n) (none : p0.steps ≡ []) (len : n ≡ length cs) where
  pub next_is : next_place p0 ≡ length cs
  next_is = let zero = ap nodes_added none in omega (arith, base, zero, len)

  pub room_first : (C : Ranks) (first : ℕ) → IsArenaTree C cs first → (k : ℕ) → k ≤ 2048 → HasRoom p0 k
  room_first C first holds k le =
      let few = (leads_first C cs first holds).within_limit in
      let zero = ap rows_added none in
      record { places = omega (arith, next_is, few, le); rows = omega (arith, zero, le) }

  -- a merge is planned
  pub merge_planned : (p : PlanView) (k o : ChainForest) → p ≡ plan_with p0 (merge_steps Top (next_place p0) k o) → p.steps ≡ merge_steps Top (length cs) k o
  merge_planned p k o is = ap (λ (p : PlanView). p.steps) is ∙ (λ i. none i ++ merge_steps Top (next_is i) k o)

  -- a path is planned
  pub add_planned : (first : ℕ) (rest below : MergeTarget) (C : Ranks) (path : Path) (p : PlanView) → PlansChain cs (record { link = Top; node = first; skip = 0; place = first }) rest below (drop 0 path) (C, C) p0 p
      → p.steps ≡ merge_steps Top (length cs) (forest_at cs first) (path_forest C path)
  add_planned first rest below C path p it =
      ap (λ (p : PlanView). p.steps) it.plan ∙ ap (λ (ss : List ChangeStep). ss ++ it.steps) none
      ∙ sym ((λ i. merge_steps Top (sym next_is i) (forest_at cs first) (sym (path_chain path) i)) ∙ it.steps_split 0 no_chains no_chains
      ∙ (λ i. it.steps ++ side_steps-none below.link (next_place p0 + nodes_added it.steps) (target_forest cs below) i
      ++ side_steps-none rest.link (next_place p0 + nodes_added it.steps + new_nodes [] (target_forest cs below) [] no_chains) (target_forest cs rest) i)
      ∙ append-nil (it.steps ++ []) ∙ append-nil it.steps)
    where
      path_chain : (path : Path) → chain_of 0 path (C, C) no_chains no_chains ≡ path_forest C path
      path_chain [] = refl
      path_chain (f ∷ fs) = refl

-- how many rows are planned
pub rows_planned : (n : ℕ) (k o : ChainForest) (ss : List ChangeStep) → ss ≡ merge_steps Top n k o → rows_added ss ≡ new_rows [] k [] o
rows_planned n k o ss is = ap rows_added is ∙ merge_rows Top n k o

-- how many rows a tree has
pub rows_made : (C : Ranks) (cs : List NodeView) (first : ℕ) (t : Tree) → Makes C cs first t → count_rows (forest_at cs first) ≡ count_below t
rows_made C cs first t makes =
    let entries = entry_count C cs first makes.tree in
    let len = finmap.len-entries (tree_view C cs first).below in
    let same = ap count_below makes.is in
    omega (arith, entries, len, same)

-- the rows of a tree, past the root
pub rows_past : (C : Ranks) (cs : List NodeView) (first : ℕ) (t : Tree) → tree_view C cs first ≡ t → IsArenaTree C cs first → length (rows_of t) ≡ suc (count_rows (forest_at cs first))
rows_past C cs first t seen holds = ap (λ t. length (rows_of t)) (sym seen) ∙ ap suc (entry_count C cs first holds)

before : (i : ℕ) → (i ≡ 0 → ⊥) → i ≡ suc (i - 1)
before i lt = omega (arith, lt)

pub row_past : (C : Ranks) (cs : List NodeView) (first : ℕ) (t : Tree) → tree_view C cs first ≡ t → IsArenaTree C cs first → (i : ℕ) → (i ≡ 0 → ⊥) → slice_get (forest_rows (rows_of_chains (forest_at cs first))) (i - 1) ≡ slice_get (rows_of t) i
row_past C cs first t seen holds i lt =
    ap (λ es. slice_get es (i - 1)) (sym (entries_are C cs first holds) ∙ ap (λ (t : Tree). finmap.entries t.below) seen)
    ∙ sym (ap (slice_get (rows_of t)) (before i lt))

-- a path is added to a tree
module _ (A C : Ranks) (path : Path) (cs : List NodeView) (first : ℕ) (t : Tree) (seen : tree_view A cs first ≡ t) (holds : IsArenaTree A cs first) (other : C ≢ none) (within : is_subset C t.coverage ≡ true) (good : IsGoodPath path)
    (n rows : ℕ) (p0 p : PlanView) (base : p0.base ≡ n) (empty : p0.steps ≡ []) (len : n ≡ length cs) (rows_are : rows ≡ count_rows (forest_at cs first))
    (rest below : MergeTarget) (plans : PlansChain cs (record { link = Top; node = first; skip = 0; place = first }) rest below (drop 0 path) (C, C) p0 p) where
  add_steps : p.steps ≡ merge_steps Top (length cs) (forest_at cs first) (path_forest C path)
  add_steps = add_planned cs n p0 base empty len first rest below C path p plans

  pub add_counted : count_below (added t C path) ≡ rows + rows_added p.steps
  add_counted =
      let all = count_added A C path cs first t seen holds other within good in
      let new = rows_planned (length cs) (forest_at cs first) (path_forest C path) p.steps add_steps in
      omega (arith, all, new, rows_are)

  pub add_made : (cs1 : List NodeView) (ss : List ChangeStep) (h : LinkedNodes) → h ≡ apply_steps (linked first cs1) ss → cs1 ≡ cs → ss ≡ p.steps → rows + rows_added p.steps ≤ 2048 → Makes A h.nodes h.first (added t C path)
  add_made cs1 ss h done same steps few =
      let new = rows_planned (length cs) (forest_at cs first) (path_forest C path) p.steps add_steps in
      steps_make_the_added_tree A C path cs first t seen holds other within good h (done ∙ (λ i. apply_steps (linked first (same i)) ((steps ∙ add_steps) i))) (omega (arith, new, rows_are, few))

  pub add_hints : (cs1 : List NodeView) (ss : List ChangeStep) (h : LinkedNodes) → h ≡ apply_steps (linked first cs1) ss → cs1 ≡ cs → ss ≡ p.steps → rows + rows_added p.steps ≤ 2048 → (hs : List Hint) → AreHints (forest_at cs first) hs → AreHints (forest_at h.nodes h.first) hs
  add_hints cs1 ss h done same steps few hs right =
      let new = rows_planned (length cs) (forest_at cs first) (path_forest C path) p.steps add_steps in
      subst (λ k. AreHints k hs)
      (sym (added_forest A C path cs first t seen holds other within good h (done ∙ (λ i. apply_steps (linked first (same i)) ((steps ∙ add_steps) i))) (omega (arith, new, rows_are, few))))
      (hints_kept (length cs) (forest_at cs first) (path_forest C path) hs right)

  pub add_rows : (cs1 : List NodeView) (first1 more : ℕ) → Makes A cs1 first1 (added t C path) → more ≡ rows_added p.steps → rows + more ≡ count_rows (forest_at cs1 first1)
  add_rows cs1 first1 more makes is = let all = rows_made A cs1 first1 (added t C path) makes in omega (arith, all, add_counted, is)

-- two trees are merged
module _ (A B : Ranks) (cs os : List NodeView) (first other : ℕ) (t u : Tree) (seen : tree_view A cs first ≡ t) (seen_other : tree_view B os other ≡ u) (holds : IsArenaTree A cs first) (others : IsArenaTree B os other)
    (n rows : ℕ) (p0 p : PlanView) (base : p0.base ≡ n) (empty : p0.steps ≡ []) (len : n ≡ length cs) (rows_are : rows ≡ count_rows (forest_at cs first))
    (plans : p ≡ plan_with p0 (merge_steps Top (next_place p0) (forest_at cs first) (forest_at os other))) where
  both_steps : p.steps ≡ merge_steps Top (length cs) (forest_at cs first) (forest_at os other)
  both_steps = merge_planned cs n p0 base empty len p (forest_at cs first) (forest_at os other) plans

  pub merge_counted : count_below (merged t u) ≡ rows + rows_added p.steps
  merge_counted =
      let all : count_below (merged t u) ≡ count_rows (forest_at cs first) + new_rows [] (forest_at cs first) [] (forest_at os other) =
      (λ i. count_below (merged (sym seen i) (sym seen_other i))) ∙ count_merged A B cs os first other holds others in
      let new = rows_planned (length cs) (forest_at cs first) (forest_at os other) p.steps both_steps in
      omega (arith, all, new, rows_are)

  pub merge_made : (C : Ranks) (cs1 : List NodeView) (ss : List ChangeStep) (h : LinkedNodes) → h ≡ apply_steps (linked first cs1) ss → cs1 ≡ cs → ss ≡ p.steps → rows + rows_added p.steps ≤ 2048 → C ≡ union A B → Makes C h.nodes h.first (merged t u)
  merge_made C cs1 ss h done same steps few united =
      let new = rows_planned (length cs) (forest_at cs first) (forest_at os other) p.steps both_steps in
      subst (λ (C : Ranks). Makes C h.nodes h.first (merged t u)) (sym united)
      (subst (λ (v : Tree). Makes (union A B) h.nodes h.first v) (λ i. merged (seen i) (seen_other i))
      (steps_make_the_merged_tree A B cs os first other holds others h (done ∙ (λ i. apply_steps (linked first (same i)) ((steps ∙ both_steps) i))) (omega (arith, new, rows_are, few))))

  pub merge_has_rows : (C : Ranks) (cs1 : List NodeView) (first1 more : ℕ) → Makes C cs1 first1 (merged t u) → more ≡ rows_added p.steps → rows + more ≡ count_rows (forest_at cs1 first1)
  merge_has_rows C cs1 first1 more makes is = let all = rows_made C cs1 first1 (merged t u) makes in omega (arith, all, merge_counted, is)
