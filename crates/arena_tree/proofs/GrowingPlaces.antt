-- Targets whose nodes may be changed.
use Rattle.std.proofs.Common.{◌≡◌, ℕ, zero, suc, ◌≤◌, List, length, refl, sym, ap, ◌∙◌, subst, arith}
use Rattle.std.specs.Prelude.{slice_get, Some}
use Rattle.arena_tree.specs.declared.node.Link.{Link}
use Rattle.arena_tree.specs.declared.node.Link.TheVariants.{Top, FirstOf, NextOf}
use Rattle.arena_tree.specs.declared.target.MergeTarget.{MergeTarget}
use Rattle.arena_tree.specs.NodeViews.{NodeView}
use Rattle.arena_tree.specs.ChainForest.{ChainForest, count_nodes}
use Rattle.arena_tree.specs.Placement.{first_place, count_place, HasDistinctPlaces, AreNodesOf}
use Rattle.arena_tree.specs.Links.{IsOutside}
use Rattle.arena_tree.specs.Reading.{forest_at, LeadsToForest}
use Rattle.arena_tree.specs.Targets.{forest_behind, target_forest, LeadsBehind, IsAfter}
use Rattle.arena_tree.specs.Growth.{all_at, CanGrow}
use Rattle.arena_tree.proofs.Counting.{agrees}
use Rattle.arena_tree.proofs.Reading.{leads_to, leads_from}
use Rattle.arena_tree.proofs.SharedFrames.{some_at}
use Rattle.arena_tree.proofs.Planning.{ReadsBehind, reads_behind, target_frame, after_forest, after_target}

-- after a node
pub after_grows : (cs : List NodeView) (t after : MergeTarget) (c : NodeView) → slice_get cs t.node ≡ Some c → IsAfter t c.next after → CanGrow cs t → CanGrow cs after
after_grows cs t after c there is grows =
    let at : (f : List ℕ) × (slice_get c.frames t.skip ≡ Some f) = some_at c.frames t.skip (target_frame cs t.node t.place t.skip c grows.leads there) in
    let it : ReadsBehind cs t.node t.place t.skip c at.0 = reads_behind cs t.node t.place t.skip c at.0 grows.leads there at.1 in
    let to = after_forest cs t after c.next is in
    record {
      whole = is.skip;
      leads = after_target cs t after c.next is it.next;
      distinct = λ y. let one = grows.distinct y in let whole = ap (count_place y) it.is in let rest = ap (count_place y) to in omega (arith, one, whole, rest);
      outside = subst (λ (l : Link). IsOutside l (target_forest cs after)) (sym is.link)
          (let one = grows.distinct t.place in let whole = ap (count_place t.place) it.is in let rest = ap (count_place t.place) to in let own = agrees t.place t.place refl in omega (arith, one, whole, rest, own));
    }

-- whole nodes
pub holds_at : (cs : List NodeView) (node place skip : ℕ) → skip ≡ 0 → LeadsBehind cs node place skip → AreNodesOf cs (forest_behind cs node place skip)
holds_at cs node place zero e to = to.0.nodes_hold
holds_at cs node place (suc k) e to = absurd (omega (arith, e))

pub fits_at : (cs : List NodeView) (node place skip : ℕ) → skip ≡ 0 → LeadsBehind cs node place skip → count_nodes (forest_behind cs node place skip) ≤ length cs
fits_at cs node place zero e to = to.0.no_more_nodes
fits_at cs node place (suc k) e to = absurd (omega (arith, e))

pub place_at : (cs : List NodeView) (node place skip : ℕ) → skip ≡ 0 → LeadsBehind cs node place skip → place ≡ node
place_at cs node place zero e to = to.1
place_at cs node place (suc k) e to = absurd (omega (arith, e))

-- a target at a forest that the nodes hold
pub record Stands (cs : List NodeView) (k : ChainForest) (t : MergeTarget) : Type 0 where
  pub grows : CanGrow cs t
  pub is : target_forest cs t ≡ k

pub stands : (cs : List NodeView) (l : Link) (k : ChainForest) (q : ℕ) (t : MergeTarget) → first_place k ≡ q → AreNodesOf cs k → count_nodes k ≤ length cs → length cs ≤ 4096 → HasDistinctPlaces k → IsOutside l k → t ≡ all_at l q → Stands cs k t
stands cs l k q t from nodes_hold fits few distinct outside is =
    let there : target_forest cs (all_at l q) ≡ k = ap (λ x. target_forest cs (all_at l x)) (sym from) ∙ leads_to cs k nodes_hold fits few in
    subst (λ (t : MergeTarget). Stands cs k t) (sym is) (record {
      grows = record {
        whole = refl;
        leads = (subst (LeadsToForest cs) from (leads_from cs k nodes_hold fits few), refl);
        distinct = subst HasDistinctPlaces (sym there) distinct;
        outside = subst (IsOutside l) (sym there) outside;
      };
      is = there;
    })

-- a part of the nodes
outside_less : (l : Link) (k j : ChainForest) → ((y : ℕ) → count_place y j ≤ count_place y k) → IsOutside l k → IsOutside l j
outside_less Top k j less off = tt
outside_less (FirstOf a) k j less off = let le = less a in omega (arith, le, off)
outside_less (NextOf a) k j less off = let le = less a in omega (arith, le, off)

pub grows_later : (cs : List NodeView) (t new : MergeTarget) → LeadsToForest cs new.node → new.place ≡ new.node → new.skip ≡ t.skip → new.link ≡ t.link → ((y : ℕ) → count_place y (forest_at cs new.node) ≤ count_place y (forest_at cs t.node)) → CanGrow cs t → CanGrow cs new
grows_later cs t new to place skip link less grows =
    let zero : new.skip ≡ 0 = skip ∙ grows.whole in
    let from : target_forest cs t ≡ forest_at cs t.node = ap (forest_behind cs t.node t.place) grows.whole in
    let there : target_forest cs new ≡ forest_at cs new.node = ap (forest_behind cs new.node new.place) zero in
    let fewer : (y : ℕ) → count_place y (target_forest cs new) ≤ count_place y (target_forest cs t) = (λ y. let one = ap (count_place y) from in let two = ap (count_place y) there in let le = less y in omega (arith, one, two, le)) in
    record {
      whole = zero;
      leads = subst (LeadsBehind cs new.node new.place) (sym zero) (to, place);
      distinct = λ y. let le = fewer y in let one = grows.distinct y in omega (arith, le, one);
      outside = subst (λ l. IsOutside l (target_forest cs new)) (sym link) (outside_less t.link (target_forest cs t) (target_forest cs new) fewer grows.outside);
    }

-- where whole nodes begin
pub leads_at : (cs : List NodeView) (node place skip : ℕ) → skip ≡ 0 → LeadsBehind cs node place skip → LeadsToForest cs node
leads_at cs node place zero e to = to.0
leads_at cs node place (suc k) e to = absurd (omega (arith, e))

pub whole_forest : (cs : List NodeView) (t : MergeTarget) → t.skip ≡ 0 → target_forest cs t ≡ forest_at cs t.node
whole_forest cs t e = ap (forest_behind cs t.node t.place) e
