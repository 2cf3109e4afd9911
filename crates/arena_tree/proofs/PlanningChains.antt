-- A chain is planned.
use Rattle.std.proofs.Common.{◌≡◌, ℕ, zero, suc, ◌+◌, ◌<◌, ◌≤◌, List, [], ◌∷◌, ◌++◌, length, drop, refl, sym, ap, ◌∙◌, subst, arith, append-nil}
use Rattle.std.specs.Prelude.{slice_get, Some}
use Rattle.std.specs.declared.cmp.Ordering.TheVariants.{Less}
use Rattle.std.proofs.lemmas.List.{append_assoc, length-drop}
use Rattle.call_path.specs.Path.{Path}
use Rattle.call_path.proofs.Orders.{from_frame}
use Rattle.prefix_tree.specs.Tree.{Marks}
use Rattle.arena_tree.specs.declared.node.Link.{Link}
use Rattle.arena_tree.specs.declared.node.Link.TheVariants.{FirstOf, NextOf}
use Rattle.arena_tree.specs.declared.node.ChangeStep.{ChangeStep}
use Rattle.arena_tree.specs.declared.node.ChangeStep.TheVariants.{New}
use Rattle.arena_tree.specs.declared.target.MergeTarget.{MergeTarget}
use Rattle.arena_tree.specs.NodeViews.{NodeView, view_of}
use Rattle.arena_tree.specs.ChainForest.{ChainForest, no_chains, chain_node, count_nodes}
use Rattle.arena_tree.specs.ChainMerge.{new_nodes}
use Rattle.arena_tree.specs.Placement.{first_place}
use Rattle.arena_tree.specs.Steps.{new_view, nodes_added_by, nodes_added, rows_added, rest_over, merge_steps}
use Rattle.arena_tree.specs.Reading.{chain_of, forest_at, frame_side}
use Rattle.arena_tree.specs.Targets.{rest_of, forest_behind, target_forest, LeadsBehind, IsTarget}
use Rattle.arena_tree.specs.Plans.{PlanView, plan_with, next_place, HasRoom, SharesChain, PlansChain}
use Rattle.arena_tree.proofs.TurnSteps.{steps_new, side_steps-none}
use Rattle.arena_tree.proofs.Totals.{nodes_added-append, rows_added-append, merge_nodes}
use Rattle.arena_tree.proofs.Reading.{none_in, leads_nowhere}
use Rattle.arena_tree.proofs.Planning.{target_few}

-- the place that a new node gets after more steps
pub next_place-with : (old new : PlanView) (ss : List ChangeStep) → new ≡ plan_with old ss → next_place new ≡ next_place old + nodes_added ss
next_place-with old new ss is = let e = nodes_added-append old.steps ss in let same = ap next_place is in omega (arith, e, same)

pub plan_with-twice : (p : PlanView) (ss ts : List ChangeStep) → plan_with (plan_with p ss) ts ≡ plan_with p (ss ++ ts)
plan_with-twice p ss ts = ap (λ (us : List ChangeStep). record { base = p.base; steps = us }) (append_assoc p.steps ss ts)

-- the same steps from there on
abbrev pub Sought : List NodeView → MergeTarget → MergeTarget → Path → Marks → ℕ → Type 0
Sought cs into0 into fs w n = (x : ℕ) (c t : ChainForest) → merge_steps into0.link n (target_forest cs into0) (chain_of x fs w c t) ≡ merge_steps into.link n (target_forest cs into) (chain_of x fs w c t)

-- all frames of the chain are shared
pub plans_one : (cs : List NodeView) (into0 into rest below : MergeTarget) (fs gs : Path) (w : Marks) (old new : PlanView) → Sought cs into0 into fs w (next_place old) → SharesChain cs into rest below fs gs w old new → gs ≡ [] → 0 < length fs → PlansChain cs into0 rest below fs w old new
plans_one cs into0 into rest below fs gs w old new sought it none lt = record {
  steps = it.step ∷ [];
  plan = it.plan;
  rest_leads = it.rest_leads;
  below_leads = it.below_leads;
  places = let few = it.places in omega (arith, few, lt);
  rows = let few = it.rows in omega (arith, few, lt);
  steps_split = λ x c t. sought x c t ∙ it.steps_split x c t
      ∙ (λ i. it.step ∷ merge_steps below.link (next_place old + one i) (target_forest cs below) (rest_over 0 (none i) w c)
      ++ merge_steps rest.link (next_place old + one i + new_nodes [] (target_forest cs below) [] (rest_over 0 (none i) w c)) (target_forest cs rest) t);
}
  where
    one : nodes_added_by it.step ≡ nodes_added (it.step ∷ [])
    one = omega arith

chain_alone : (gs : Path) (w : Marks) (c : ChainForest) → 0 < length gs → rest_over 0 gs w c ≡ chain_of 0 gs w c no_chains
chain_alone [] w c lt = absurd (omega (arith, lt))
chain_alone (g ∷ gs) w c lt = refl

-- some are, and the others are planned below them
module _ (cs : List NodeView) (into0 into rest below0 rest0 below : MergeTarget) (fs gs : Path) (w : Marks) (old mid new : PlanView) (sought : Sought cs into0 into fs w (next_place old))
    (it : SharesChain cs into rest below0 fs gs w old mid) (more : PlansChain cs below0 rest0 below gs w mid new) (lt : 0 < length gs) (shorter : length gs < length fs) where
  next_is : next_place mid ≡ next_place old + nodes_added_by it.step
  next_is = let e = next_place-with old mid (it.step ∷ []) it.plan in omega (arith, e)

  abbrev below_steps : ChainForest → List ChangeStep
  below_steps c = merge_steps below.link (next_place old + nodes_added (it.step ∷ more.steps)) (target_forest cs below) c

  inner : (c : ChainForest) → merge_steps below0.link (next_place old + nodes_added_by it.step) (target_forest cs below0) (rest_over 0 gs w c) ≡ more.steps ++ below_steps c
  inner c =
      let far : next_place mid + nodes_added more.steps ≡ next_place old + nodes_added (it.step ∷ more.steps) = omega (arith, next_is) in
      (λ i. merge_steps below0.link (sym next_is i) (target_forest cs below0) (chain_alone gs w c lt i))
      ∙ more.steps_split 0 c no_chains
      ∙ (λ i. more.steps ++ merge_steps below.link (far i) (target_forest cs below) c
      ++ side_steps-none rest0.link (next_place mid + nodes_added more.steps + new_nodes [] (target_forest cs below) [] c) (target_forest cs rest0) i)
      ∙ append-nil (more.steps ++ below_steps c)

  counted : (c : ChainForest) → new_nodes [] (target_forest cs below0) [] (rest_over 0 gs w c) ≡ nodes_added more.steps + new_nodes [] (target_forest cs below) [] c
  counted c =
      let one = merge_nodes below0.link (next_place old + nodes_added_by it.step) (target_forest cs below0) (rest_over 0 gs w c) in
      let two = merge_nodes below.link (next_place old + nodes_added (it.step ∷ more.steps)) (target_forest cs below) c in
      let sum = nodes_added-append more.steps (below_steps c) in
      let same = ap nodes_added (inner c) in
      omega (arith, one, two, sum, same)

  pub plans_more : PlansChain cs into0 rest below fs w old new
  plans_more = record {
    steps = it.step ∷ more.steps;
    plan = more.plan ∙ ap (λ p. plan_with p more.steps) it.plan ∙ plan_with-twice old (it.step ∷ []) more.steps;
    rest_leads = it.rest_leads;
    below_leads = more.below_leads;
    places = let one = it.places in let few = more.places in omega (arith, one, few, shorter);
    rows = let one = it.rows in let few = more.rows in omega (arith, one, few, shorter);
    steps_split = λ x c t.
        let far : next_place old + nodes_added_by it.step + new_nodes [] (target_forest cs below0) [] (rest_over 0 gs w c)
        ≡ next_place old + nodes_added (it.step ∷ more.steps) + new_nodes [] (target_forest cs below) [] c = let e = counted c in omega (arith, e) in
        sought x c t ∙ it.steps_split x c t
        ∙ (λ i. it.step ∷ inner c i ++ merge_steps rest.link (far i) (target_forest cs rest) t);
  }

-- a new node
pub new_turn : (l : Link) (n x : ℕ) (g : List ℕ) (gs : Path) (w : Marks) (k c t : ChainForest) → frame_side g k ≡ Less
    → merge_steps l n k (chain_node x g gs w c t) ≡ New l (new_view g gs w (first_place k)) ∷ merge_steps (FirstOf n) (suc n) no_chains c ++ merge_steps (NextOf n) (suc n + count_nodes c) k t
new_turn l n x g gs w no_chains c t e = refl
new_turn l n x g gs w (chain_node a f fs m b s) c t e = steps_new l n a x f g fs gs m w b s c t e

chain_place : (place : ℕ) (p : Path) (m : Marks) (b : ChainForest) → 0 < length p → first_place (chain_of place p m b no_chains) ≡ place
chain_place place [] m b lt = absurd (omega (arith, lt))
chain_place place (g ∷ gs) m b lt = refl

pub target_place : (cs : List NodeView) (node place skip : ℕ) → LeadsBehind cs node place skip → first_place (forest_behind cs node place skip) ≡ place
target_place cs node place zero to = to.0.begins ∙ sym to.1
target_place cs node place (suc i) to =
    let long = length-drop (suc i) to.0.frames in
    let within = to.2 in
    ap (λ o. first_place (rest_of cs place (suc i) o)) to.1
    ∙ chain_place place (drop (suc i) to.0.frames) (to.0.label, to.0.ends) (forest_at cs to.0.first) (omega (arith, long, within))

module _ (cs : List NodeView) (into0 into rest below : MergeTarget) (p : Path) (skip : ℕ) (g : List ℕ) (here : slice_get p skip ≡ Some g) (w : Marks) (old new : PlanView)
    (sought : Sought cs into0 into (drop skip p) w (next_place old)) (to : IsTarget cs into) (less : frame_side g (target_forest cs into) ≡ Less)
    (node : NodeView) (node_is : node ≡ view_of (drop skip p) w 4294967295 into.place) (place : ℕ) (place_is : place ≡ next_place old) (planned : new ≡ plan_with old (New into.link node ∷ []))
    (rest_is : rest ≡ record { link = NextOf place; node = into.node; skip = into.skip; place = into.place })
    (below_is : below ≡ record { link = FirstOf place; node = 4294967295; skip = 0; place = 4294967295 }) where
  few : length cs ≤ 4096
  few = target_few cs into.node into.place into.skip to

  abbrev n : ℕ
  n = next_place old

  split_here : drop skip p ≡ g ∷ drop (skip + 1) p
  split_here = from_frame p skip g here

  step_is : New into.link (new_view g (drop (skip + 1) p) w (first_place (target_forest cs into))) ≡ New into.link node
  step_is =
      ap (New into.link) (sym (node_is
      ∙ (λ i. view_of (split_here i) w 4294967295 (sym (target_place cs into.node into.place into.skip to) i))))

  nothing : no_chains ≡ target_forest cs below
  nothing = sym (ap (target_forest cs) below_is ∙ none_in cs few)

  one : suc n ≡ n + nodes_added (New into.link node ∷ [])
  one = omega arith

  rest_forest : target_forest cs into ≡ target_forest cs rest
  rest_forest = sym (ap (target_forest cs) rest_is)

  below_link : FirstOf n ≡ below.link
  below_link = ap FirstOf (sym place_is) ∙ sym (ap (λ (t : MergeTarget). t.link) below_is)

  rest_link : NextOf n ≡ rest.link
  rest_link = ap NextOf (sym place_is) ∙ sym (ap (λ (t : MergeTarget). t.link) rest_is)

  long : 0 < length (drop skip p)
  long = let e = ap length split_here in omega (arith, e)

  pub plans_new : PlansChain cs into0 rest below (drop skip p) w old new
  plans_new = record {
    steps = New into.link node ∷ [];
    plan = planned;
    rest_leads = subst (IsTarget cs) (sym rest_is) to;
    below_leads = subst (IsTarget cs) (sym below_is) (leads_nowhere cs few, refl);
    places = omega (arith, long);
    rows = let e = ap (λ (c : NodeView). length c.frames) node_is in omega (arith, e);
    steps_split = λ x c t. sought x c t
        ∙ ap (λ fs. merge_steps into.link n (target_forest cs into) (chain_of x fs w c t)) split_here
        ∙ new_turn into.link n x g (drop (skip + 1) p) w (target_forest cs into) c t less
        ∙ (λ i. step_is i ∷ merge_steps (below_link i) (one i) (nothing i) c ++ merge_steps (rest_link i) (one i + new_nodes [] (nothing i) [] c) (rest_forest i) t);
  }

-- what is sought by its first frame
pub sought_all : (cs : List NodeView) (into0 into : MergeTarget) (p : Path) (skip : ℕ) (g : List ℕ) (w : Marks) (n : ℕ) → slice_get p skip ≡ Some g
    → ((x : ℕ) (gs : Path) (c t : ChainForest) → merge_steps into0.link n (target_forest cs into0) (chain_node x g gs w c t) ≡ merge_steps into.link n (target_forest cs into) (chain_node x g gs w c t))
    → Sought cs into0 into (drop skip p) w n
sought_all cs into0 into p skip g w n here same x c t =
    let is = from_frame p skip g here in
    ap (λ fs. merge_steps into0.link n (target_forest cs into0) (chain_of x fs w c t)) is ∙ same x (drop (skip + 1) p) c t ∙ ap (λ fs. merge_steps into.link n (target_forest cs into) (chain_of x fs w c t)) (sym is)

-- what is left to count
pub room_left : (cs : List NodeView) (into rest below : MergeTarget) (fs gs : Path) (w : Marks) (old new : PlanView) (k j : ℕ) → SharesChain cs into rest below fs gs w old new → HasRoom old k → j < k → HasRoom new j
room_left cs into rest below fs gs w old new k j it room lt =
    let next = next_place-with old new (it.step ∷ []) it.plan in
    let few = it.places in
    let none = it.rows in
    let same = ap (λ (p : PlanView). rows_added p.steps) it.plan in
    let sum = rows_added-append old.steps (it.step ∷ []) in
    let places = room.places in
    let rows = room.rows in
    record { places = omega (arith, next, few, places, lt); rows = omega (arith, none, same, sum, rows, lt) }

-- a chain is planned where the search for it went on
pub plans_sought : (cs : List NodeView) (into0 into rest below : MergeTarget) (fs : Path) (w : Marks) (old new : PlanView) → Sought cs into0 into fs w (next_place old) → PlansChain cs into rest below fs w old new → PlansChain cs into0 rest below fs w old new
plans_sought cs into0 into rest below fs w old new sought it = record {
  steps = it.steps;
  plan = it.plan;
  rest_leads = it.rest_leads;
  below_leads = it.below_leads;
  places = it.places;
  rows = it.rows;
  steps_split = λ x c t. sought x c t ∙ it.steps_split x c t;
}
