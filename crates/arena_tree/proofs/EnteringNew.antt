-- A chain is merged as a new node.
use Rattle.std.proofs.Common.{◌≡◌, ℕ, suc, ◌+◌, ◌<◌, ◌≤◌, List, [], ◌∷◌, ◌++◌, length, drop, refl, sym, ap, ◌∙◌, subst, arith}
use Rattle.std.specs.Prelude.{slice_get, Some}
use Rattle.std.specs.declared.cmp.Ordering.TheVariants.{Less}
use Rattle.rank_set.specs.Ranks.{none}
use Rattle.call_path.specs.Path.{Path}
use Rattle.call_path.proofs.Orders.{from_frame}
use Rattle.prefix_tree.specs.Tree.{Marks}
use Rattle.arena_tree.specs.declared.node.Link.TheVariants.{FirstOf, NextOf}
use Rattle.arena_tree.specs.declared.node.ChangeStep.{ChangeStep}
use Rattle.arena_tree.specs.declared.node.ChangeStep.TheVariants.{New}
use Rattle.arena_tree.specs.declared.target.MergeTarget.{MergeTarget}
use Rattle.arena_tree.specs.NodeViews.{view_of}
use Rattle.arena_tree.specs.ChainForest.{ChainForest, no_chains, count_nodes}
use Rattle.arena_tree.specs.ChainMerge.{new_nodes, merge_chains}
use Rattle.arena_tree.specs.Placement.{first_place, AreNodesOf}
use Rattle.arena_tree.specs.Links.{LinkedNodes}
use Rattle.arena_tree.specs.Steps.{new_view, apply_step, apply_steps, rows_added, merge_steps, Becomes}
use Rattle.arena_tree.specs.Reading.{chain_of, frame_side}
use Rattle.arena_tree.specs.Targets.{target_forest}
use Rattle.arena_tree.specs.Growth.{all_at, led_by, CanGrow, grown, rows_grown, GoesOn, Enters}
use Rattle.arena_tree.proofs.Cases.{Premises, len1, len2, lies_k, off_n}
use Rattle.arena_tree.proofs.MergedSteps.{merge_done}
use Rattle.arena_tree.proofs.GrowingPlaces.{holds_at, fits_at, place_at, Stands, stands}
use Rattle.arena_tree.proofs.PlanningChains.{Sought, new_turn, target_place}
use Rattle.arena_tree.proofs.Entering.{goes_on_after}

-- a chain that was looked for from an earlier node on
pub enters_sought : (h h1 : LinkedNodes) (into0 into rest below : MergeTarget) (fs gs : Path) (w : Marks) (r r1 : ℕ) → Sought h.nodes into0 into fs w (length h.nodes) → Enters h h1 into rest below fs gs w r r1 → Enters h h1 into0 rest below fs gs w r r1
enters_sought h h1 into0 into rest below fs gs w r r1 sought it = record {
  below_grows = it.below_grows;
  places = it.places;
  rows = it.rows;
  goes_on = λ y c h2 r2 is rows few.
      let on : GoesOn h h2 into rest fs w c r r2 = it.goes_on y c h2 r2 is rows few in
      record {
        rest_grows = on.rest_grows;
        same = λ x t. ap (apply_steps h) (sought x c t) ∙ on.same x t;
        rows = λ x t. ap (λ ss. r + rows_added ss) (sought x c t) ∙ on.rows x t;
      };
}

-- a new node
module _ (h : LinkedNodes) (into : MergeTarget) (grows : CanGrow h.nodes into) (p : Path) (skip : ℕ) (g : List ℕ) (here : slice_get p skip ≡ Some g) (w : Marks) (less : frame_side g (target_forest h.nodes into) ≡ Less) (few : length h.nodes < 4096)
    (h1 : LinkedNodes) (made : h1 ≡ apply_step h (New into.link (view_of (drop skip p) w 4294967295 into.place)))
    (below rest : MergeTarget) (below_is : below ≡ all_at (FirstOf (length h.nodes)) 4294967295) (rest_is : rest ≡ led_by (NextOf (length h.nodes)) into) (r r1 : ℕ) (rows : r1 ≡ r + length (drop skip p)) where
  abbrev n : ℕ
  n = length h.nodes

  abbrev k : ChainForest
  k = target_forest h.nodes into

  abbrev gs : Path
  gs = drop (skip + 1) p

  abbrev step : ChangeStep
  step = New into.link (view_of (drop skip p) w 4294967295 into.place)

  frames_so : drop skip p ≡ g ∷ gs
  frames_so = from_frame p skip g here

  place_so : first_place k ≡ into.place
  place_so = target_place h.nodes into.node into.place into.skip grows.leads

  step_so : New into.link (new_view g gs w (first_place k)) ≡ step
  step_so = λ i. New into.link (view_of (sym frames_so i) w 4294967295 (place_so i))

  abbrev g1 : LinkedNodes
  g1 = apply_step h (New into.link (new_view g gs w (first_place k)))

  same1 : h1 ≡ g1
  same1 = made ∙ ap (apply_step h) (sym step_so)

  nodes_hold : AreNodesOf h.nodes k
  nodes_hold = holds_at h.nodes into.node into.place into.skip grows.whole grows.leads

  becomes : (o : ChainForest) → Premises (FirstOf n) (suc n) no_chains g1 (Becomes (FirstOf n) no_chains (merge_chains (suc n) no_chains o) (new_nodes [] no_chains [] o) g1 (apply_steps g1 (merge_steps (FirstOf n) (suc n) no_chains o)))
  becomes o = merge_done (FirstOf n) (suc n) no_chains o g1

  one_more : length h1.nodes ≡ suc n
  one_more =
      let g2 : LinkedNodes = apply_steps g1 (merge_steps (FirstOf n) (suc n) no_chains no_chains) in
      ap (λ (g : LinkedNodes). length g.nodes) same1
      ∙ len1 into.link n g gs w k (merge_chains (suc n) no_chains no_chains) k (new_nodes [] no_chains [] no_chains) 0 h g2 g2 refl nodes_hold grows.distinct grows.outside (becomes no_chains)

  below_stands : Stands h1.nodes no_chains below
  below_stands = stands h1.nodes (FirstOf n) no_chains 4294967295 below refl tt (omega arith) (omega (arith, one_more, few)) (λ x. omega arith) refl below_is

  module _ (u : ChainForest) (h2 : LinkedNodes) (r2 : ℕ) (h2_is : h2 ≡ grown h1 below u) (r2_is : r2 ≡ r1 + rows_grown h1 below u) (few2 : length h2.nodes ≤ 4096) where
    abbrev mb : ℕ
    mb = count_nodes u

    abbrev g2 : LinkedNodes
    g2 = apply_steps g1 (merge_steps (FirstOf n) (suc n) no_chains u)

    link_is : below.link ≡ FirstOf n
    link_is = ap (λ (t : MergeTarget). t.link) below_is

    same2 : h2 ≡ g2
    same2 = h2_is ∙ (λ i. apply_steps (same1 i) (merge_steps (link_is i) (one_more i) (below_stands.is i) u))

    long : length h1.nodes + mb ≡ length h2.nodes
    long =
        let all = len2 into.link n g gs w k (merge_chains (suc n) no_chains u) k mb 0 h g2 g2 refl nodes_hold grows.distinct grows.outside (becomes u) in
        let one = ap (λ (g : LinkedNodes). length g.nodes) same2 in
        omega (arith, one_more, all, one)

    rest_stands : Stands h2.nodes k rest
    rest_stands =
        stands h2.nodes (NextOf n) k into.node rest (place_so ∙ place_at h.nodes into.node into.place into.skip grows.whole grows.leads)
        (subst (λ (g : LinkedNodes). AreNodesOf g.nodes k) (sym same2) (lies_k into.link n g gs w k (merge_chains (suc n) no_chains u) k mb 0 h g2 g2 refl nodes_hold grows.distinct grows.outside (becomes u)))
        (let fits = fits_at h.nodes into.node into.place into.skip grows.whole grows.leads in omega (arith, fits, one_more, long)) few2 grows.distinct
        (off_n into.link n g gs w k (merge_chains (suc n) no_chains u) k mb 0 h g2 g2 refl nodes_hold grows.distinct grows.outside (becomes u) n (omega arith))
        (rest_is ∙ (λ i. record { link = NextOf n; node = into.node; skip = grows.whole i; place = place_at h.nodes into.node into.place into.skip grows.whole grows.leads i }))

    split : (x : ℕ) (t : ChainForest) → merge_steps into.link n k (chain_of x (drop skip p) w u t) ≡ step ∷ merge_steps (FirstOf n) (length h1.nodes) no_chains u ++ merge_steps (NextOf n) (length h1.nodes + mb) k t
    split x t =
        ap (λ fs. merge_steps into.link n k (chain_of x fs w u t)) frames_so
        ∙ new_turn into.link n x g gs w k u t less
        ∙ (λ i. step_so i ∷ merge_steps (FirstOf n) (sym one_more i) no_chains u ++ merge_steps (NextOf n) (sym one_more i + mb) k t)

    goes_on_new : GoesOn h h2 into rest (drop skip p) w u r r2
    goes_on_new =
        goes_on_after h h1 h2 into rest below (drop skip p) [] w 0 u r r1 r2 step no_chains k (FirstOf n) (NextOf n) (length h1.nodes + mb) made
        rows link_is below_stands.is split h2_is r2_is (ap (λ (t : MergeTarget). t.link) rest_is) rest_stands long

  pub enters_new : (left : Path) → left ≡ [] → Enters h h1 into rest below (drop skip p) left w r r1
  enters_new left none =
      let all = ap length frames_so in
      subst (λ left. Enters h h1 into rest below (drop skip p) left w r r1) (sym none) (record {
        below_grows = below_stands.grows;
        places = omega (arith, one_more, all);
        rows = omega (arith, rows);
        goes_on = λ y. goes_on_new;
      })
