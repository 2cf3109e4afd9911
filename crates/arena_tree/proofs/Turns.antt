-- A turn of planning a merge: a node of the other tree is planned, with all that is below it.
use Rattle.std.proofs.Common.{◌≡◌, ℕ, suc, ◌+◌, ◌<◌, ◌≤◌, List, [], ◌∷◌, ◌++◌, length, drop, sym, ap, ◌∙◌, subst, arith, append-nil}
use Rattle.std.specs.Prelude.{slice_get, Some}
use Rattle.std.proofs.lemmas.List.{append_assoc}
use Rattle.rank_set.specs.Ranks.{Ranks}
use Rattle.call_path.specs.Path.{Path}
use Rattle.prefix_tree.specs.Tree.{Marks}
use Rattle.arena_tree.specs.declared.node.ChangeStep.{ChangeStep}
use Rattle.arena_tree.specs.declared.target.MergeTarget.{MergeTarget}
use Rattle.arena_tree.specs.NodeViews.{NodeView}
use Rattle.arena_tree.specs.ChainForest.{ChainForest, count_nodes, count_rows}
use Rattle.arena_tree.specs.ChainMerge.{new_nodes}
use Rattle.arena_tree.specs.Steps.{nodes_added, rows_added, merge_steps}
use Rattle.arena_tree.specs.Reading.{forest_at, LeadsToForest}
use Rattle.arena_tree.specs.Targets.{target_forest, IsTarget}
use Rattle.arena_tree.specs.Plans.{PlanView, plan_with, next_place, HasRoom, PlansChain}
use Rattle.arena_tree.proofs.Totals.{nodes_added-append, rows_added-append, merge_nodes}
use Rattle.arena_tree.proofs.Planning.{Reads, reads}
use Rattle.arena_tree.proofs.PlanningChains.{next_place-with, plan_with-twice}

-- the chain of the node that was read is planned
module _ (cs os : List NodeView) (other : ℕ) (to : LeadsToForest os other) (c : NodeView) (there : slice_get os other ≡ Some c)
    (into rest below : MergeTarget) (frames : Path) (label ends : Ranks) (frames_are : frames ≡ c.frames) (label_is : label ≡ c.label) (ends_are : ends ≡ c.ends)
    (p0 p1 : PlanView) (planned : PlansChain cs into rest below (drop 0 frames) (label, ends) p0 p1) where
  it : Reads os other c
  it = reads os other c to there

  abbrev b : ChainForest
  b = forest_at os c.first

  abbrev s : ChainForest
  s = forest_at os c.next

  abbrev w : Marks
  w = (c.label, c.ends)

  chain : PlansChain cs into rest below (it.frame ∷ it.behind) w p0 p1
  chain =
      subst (λ (fs : Path). PlansChain cs into rest below fs w p0 p1) (frames_are ∙ it.frames)
      (subst (λ (m : Marks). PlansChain cs into rest below (drop 0 frames) m p0 p1) (λ i. (label_is i, ends_are i)) planned)

  pub leads_first : LeadsToForest os c.first
  leads_first = it.first

  rows_are : count_rows (forest_at os other) ≡ suc (length it.behind + (count_rows b + count_rows s))
  rows_are = ap count_rows it.is

  pub nodes_are : count_nodes (forest_at os other) ≡ suc (count_nodes b + count_nodes s)
  nodes_are = ap count_nodes it.is

  next_is : next_place p1 ≡ next_place p0 + nodes_added chain.steps
  next_is = next_place-with p0 p1 chain.steps chain.plan

  rows_is : rows_added p1.steps ≡ rows_added p0.steps + rows_added chain.steps
  rows_is = ap (λ (p : PlanView). rows_added p.steps) chain.plan ∙ rows_added-append p0.steps chain.steps

  nodes_is : nodes_added p1.steps ≡ nodes_added p0.steps + nodes_added chain.steps
  nodes_is = ap (λ (p : PlanView). nodes_added p.steps) chain.plan ∙ nodes_added-append p0.steps chain.steps

  -- there is room for what is below it
  pub room_below : HasRoom p0 (count_rows (forest_at os other)) → HasRoom p1 (count_rows b)
  room_below room =
      let places = room.places in
      let rows = room.rows in
      let few = chain.places in
      let few_rows = chain.rows in
      record { places = omega (arith, places, rows_are, next_is, few); rows = omega (arith, rows, rows_are, rows_is, few_rows) }

  -- and then what is below it
  module _ (first : ℕ) (first_is : first ≡ c.first) (p2 : PlanView) (merged : p2 ≡ plan_with p1 (merge_steps below.link (next_place p1) (target_forest cs below) (forest_at os first)))
      (places : nodes_added p2.steps ≤ nodes_added p1.steps + count_rows (forest_at os first)) (rows : rows_added p2.steps ≤ rows_added p1.steps + count_rows (forest_at os first))
      (next : ℕ) (later_is : next ≡ c.next) where
    abbrev below_steps : List ChangeStep
    below_steps = merge_steps below.link (next_place p0 + nodes_added chain.steps) (target_forest cs below) b

    abbrev all_steps : List ChangeStep
    all_steps = chain.steps ++ below_steps

    all_are : p2 ≡ plan_with p0 all_steps
    all_are =
        merged ∙ (λ i. plan_with p1 (merge_steps below.link (next_is i) (target_forest cs below) (forest_at os (first_is i))))
        ∙ ap (λ (p : PlanView). plan_with p below_steps) chain.plan ∙ plan_with-twice p0 chain.steps below_steps

    first_rows : count_rows (forest_at os first) ≡ count_rows b
    first_rows = ap (λ y. count_rows (forest_at os y)) first_is

    later_rows : count_rows (forest_at os next) ≡ count_rows s
    later_rows = ap (λ y. count_rows (forest_at os y)) later_is

    pub leads_later : LeadsToForest os next
    leads_later = subst (LeadsToForest os) (sym later_is) it.next

    pub rest_leads : IsTarget cs rest
    rest_leads = chain.rest_leads

    pub base_same : p2.base ≡ p0.base
    base_same = ap (λ (p : PlanView). p.base) all_are

    pub places_left : nodes_added p2.steps + count_rows (forest_at os next) ≤ nodes_added p0.steps + count_rows (forest_at os other)
    places_left = let few = chain.places in omega (arith, places, first_rows, later_rows, rows_are, nodes_is, few)

    pub rows_left : rows_added p2.steps + count_rows (forest_at os next) ≤ rows_added p0.steps + count_rows (forest_at os other)
    rows_left = let few = chain.rows in omega (arith, rows, first_rows, later_rows, rows_are, rows_is, few)

    pub fewer : count_nodes (forest_at os next) < count_nodes (forest_at os other)
    fewer = let later = ap (λ y. count_nodes (forest_at os y)) later_is in omega (arith, later, nodes_are)

    far : next_place p0 + nodes_added chain.steps + new_nodes [] (target_forest cs below) [] b ≡ next_place p2
    far =
        let e = next_place-with p0 p2 all_steps all_are in
        let sum = nodes_added-append chain.steps below_steps in
        let count = merge_nodes below.link (next_place p0 + nodes_added chain.steps) (target_forest cs below) b in
        omega (arith, e, sum, count)

    pub turn_same : p2.steps ++ merge_steps rest.link (next_place p2) (target_forest cs rest) (forest_at os next)
        ≡ p0.steps ++ merge_steps into.link (next_place p0) (target_forest cs into) (forest_at os other)
    turn_same =
        (λ i. (all_are i).steps ++ merge_steps rest.link (sym far i) (target_forest cs rest) (forest_at os (later_is i)))
        ∙ append_assoc p0.steps all_steps (merge_steps rest.link (next_place p0 + nodes_added chain.steps + new_nodes [] (target_forest cs below) [] b) (target_forest cs rest) s)
        ∙ ap (λ (ss : List ChangeStep). p0.steps ++ ss) (sym (chain.steps_split other b s) ∙ ap (merge_steps into.link (next_place p0) (target_forest cs into)) (sym it.is))

-- the room that is left in a later turn
pub room_in_turn : (p p0 : PlanView) (k k0 : ℕ) → p.base ≡ p0.base → nodes_added p.steps + k ≤ nodes_added p0.steps + k0 → rows_added p.steps + k ≤ rows_added p0.steps + k0 → HasRoom p0 k0 → HasRoom p k
room_in_turn p p0 k k0 base places rows room =
    let one = room.places in
    let two = room.rows in
    record { places = omega (arith, base, places, one); rows = omega (arith, rows, two) }

pub room_less : (p : PlanView) (k j : ℕ) → HasRoom p k → j ≤ k → HasRoom p j
room_less p k j room le =
    let one = room.places in
    let two = room.rows in
    record { places = omega (arith, one, le); rows = omega (arith, two, le) }

pub rows_of_chain : (os : List NodeView) (other : ℕ) (c : NodeView) → LeadsToForest os other → slice_get os other ≡ Some c → (0 < length c.frames) × (length c.frames ≤ count_rows (forest_at os other))
rows_of_chain os other c to there =
    let it = reads os other c to there in
    let long = ap length it.frames in
    let rows = ap count_rows it.is in
    (omega (arith, long), omega (arith, long, rows))

-- the end
pub turns_end : (p p0 : PlanView) (xs ys : List ChangeStep) → p.base ≡ p0.base → p.steps ++ xs ≡ p0.steps ++ ys → xs ≡ [] → p ≡ plan_with p0 ys
turns_end p p0 xs ys base same none =
    let steps : p.steps ≡ p0.steps ++ ys = sym (append-nil p.steps) ∙ ap (λ (ss : List ChangeStep). p.steps ++ ss) (sym none) ∙ same in
    λ i. record { base = base i; steps = steps i }
