-- A target that is read.
use Rattle.std.proofs.Common.{◌≡◌, ◌≢◌, ℕ, zero, suc, ◌+◌, ◌<◌, ◌≤◌, List, ◌∷◌, length, drop, refl, sym, ap, ◌∙◌, subst, arith}
use Rattle.std.specs.Prelude.{slice_get, Some}
use Rattle.std.proofs.lemmas.Option.{slice_get_past, slice_get_within, same_Some}
use Rattle.std.specs.declared.cmp.Ordering.TheVariants.{Greater}
use Rattle.call_path.specs.Path.{Path}
use Rattle.call_path.proofs.Orders.{from_frame}
use Rattle.prefix_tree.specs.Tree.{Marks}
use Rattle.arena_tree.specs.declared.node.Link.{Link}
use Rattle.arena_tree.specs.declared.node.Link.TheVariants.{NextOf}
use Rattle.arena_tree.specs.NodeViews.{NodeView}
use Rattle.arena_tree.specs.RowForest.{frame_cmp}
use Rattle.arena_tree.specs.ChainForest.{ChainForest, no_chains, chain_node, count_nodes}
use Rattle.arena_tree.specs.Placement.{first_place, node_view, no_place, AreNodesOf}
use Rattle.arena_tree.specs.Reading.{chain_of, forest_at, LeadsToForest, frame_side}
use Rattle.arena_tree.specs.declared.target.MergeTarget.{MergeTarget}
use Rattle.arena_tree.specs.Targets.{rest_of, forest_behind, target_forest, LeadsBehind, IsTarget, IsAfter, next_of}
use Rattle.arena_tree.specs.Steps.{merge_steps}
use Rattle.arena_tree.proofs.Changes.{none_some}
use Rattle.arena_tree.proofs.Reading.{leads_to, leads_from, leads_nowhere, none_in, inside_node}
use Rattle.arena_tree.proofs.TurnSteps.{steps_pass}

-- the node that was read, and what its links lead to
pub record Reads (cs : List NodeView) (at : ℕ) (c : NodeView) : Type 0 where
  pub frame : List ℕ
  pub behind : Path
  pub frames : c.frames ≡ frame ∷ behind
  pub is : forest_at cs at ≡ chain_node at frame behind (c.label, c.ends) (forest_at cs c.first) (forest_at cs c.next)
  pub first : LeadsToForest cs c.first
  pub next : LeadsToForest cs c.next

reads_at : (cs : List NodeView) (at : ℕ) (c : NodeView) (k : ChainForest) → forest_at cs at ≡ k → first_place k ≡ at → AreNodesOf cs k → count_nodes k ≤ length cs → length cs ≤ 4096 → slice_get cs at ≡ Some c → Reads cs at c
reads_at cs at c no_chains is from nodes_hold fits few there =
    absurd (none_some c (sym (slice_get_past cs at (omega (arith, few, from))) ∙ there))
reads_at cs at c (chain_node a f fs m b s) is from nodes_hold fits few there =
    let same : c ≡ node_view f fs m b s = same_Some c (node_view f fs m b s) (sym there ∙ ap (slice_get cs) (sym from) ∙ nodes_hold.0) in
    let at_b : forest_at cs (first_place b) ≡ b = leads_to cs b nodes_hold.1 (omega (arith, fits)) few in
    let at_s : forest_at cs (first_place s) ≡ s = leads_to cs s nodes_hold.2 (omega (arith, fits)) few in
    subst (λ (x : NodeView). Reads cs at x) (sym same) (record {
      frame = f;
      behind = fs;
      frames = refl;
      is = is ∙ (λ i. chain_node (from i) f fs m (sym at_b i) (sym at_s i));
      first = leads_from cs b nodes_hold.1 (omega (arith, fits)) few;
      next = leads_from cs s nodes_hold.2 (omega (arith, fits)) few;
    })

pub reads : (cs : List NodeView) (at : ℕ) (c : NodeView) → LeadsToForest cs at → slice_get cs at ≡ Some c → Reads cs at c
reads cs at c to there = reads_at cs at c (forest_at cs at) refl to.begins to.nodes_hold to.no_more_nodes to.within_limit there

-- a target's first node
pub record ReadsBehind (cs : List NodeView) (node place skip : ℕ) (c : NodeView) (f : List ℕ) : Type 0 where
  pub is : forest_behind cs node place skip ≡ chain_node place f (drop (skip + 1) c.frames) (c.label, c.ends) (forest_at cs c.first) (forest_at cs (next_of skip c.next))
  pub first : LeadsToForest cs c.first
  pub next : LeadsToForest cs (next_of skip c.next)

pub target_few : (cs : List NodeView) (node place skip : ℕ) → LeadsBehind cs node place skip → length cs ≤ 4096
target_few cs node place zero to = to.0.within_limit
target_few cs node place (suc i) to = to.4

pub target_inside : (cs : List NodeView) (node place skip : ℕ) → LeadsBehind cs node place skip → node ≢ no_place → node < length cs
target_inside cs node place zero to off = inside_node cs node to.0 off
target_inside cs node place (suc i) to off = slice_get_within cs node to.0 to.1

pub target_frame : (cs : List NodeView) (node place skip : ℕ) (c : NodeView) → LeadsBehind cs node place skip → slice_get cs node ≡ Some c → skip < length c.frames
target_frame cs node place zero c to there = let it = reads cs node c to.0 there in let long = ap length it.frames in omega (arith, long)
target_frame cs node place (suc i) c to there =
    subst (λ (x : NodeView). suc i < length x.frames) (same_Some to.0 c (sym to.1 ∙ there)) to.2

pub reads_behind : (cs : List NodeView) (node place skip : ℕ) (c : NodeView) (f : List ℕ) → LeadsBehind cs node place skip → slice_get cs node ≡ Some c → slice_get c.frames skip ≡ Some f → ReadsBehind cs node place skip c f
reads_behind cs node place zero c f to there one =
    let it = reads cs node c to.0 there in
    let frame : it.frame ≡ f = same_Some it.frame f (sym (ap (λ p. slice_get p 0) it.frames) ∙ one) in
    record {
      is = it.is ∙ (λ i. chain_node (sym to.1 i) (frame i) (ap (drop 1) (sym it.frames) i) (c.label, c.ends) (forest_at cs c.first) (forest_at cs c.next));
      first = it.first;
      next = it.next;
    }
reads_behind cs node place (suc i) c f to there one =
    let none : no_chains ≡ forest_at cs 4294967295 = sym (none_in cs to.4) in
    record {
      is = ap (rest_of cs place (suc i)) there ∙ ap (λ p. chain_of place p (c.label, c.ends) (forest_at cs c.first) no_chains) (from_frame c.frames (suc i) f one)
          ∙ ap (λ s. chain_node place f (drop (suc i + 1) c.frames) (c.label, c.ends) (forest_at cs c.first) s) none;
      first = subst (λ (x : NodeView). LeadsToForest cs x.first) (same_Some to.0 c (sym to.1 ∙ there)) to.3;
      next = leads_nowhere cs to.4;
    }

-- a target is none where its node is none
pub target_none : (cs : List NodeView) (node place skip : ℕ) → LeadsBehind cs node place skip → node ≡ no_place → forest_behind cs node place skip ≡ no_chains
target_none cs node place zero to e = ap (forest_at cs) e ∙ none_in cs to.0.within_limit
target_none cs node place (suc i) to e = let within = slice_get_within cs node to.0 to.1 in absurd (omega (arith, within, e, to.4))

-- what a read node says of a frame that is looked for
module _ (cs : List NodeView) (node place skip : ℕ) (c : NodeView) (f : List ℕ) (it : ReadsBehind cs node place skip c f) (g : List ℕ) where
  pub side_at : frame_side g (forest_behind cs node place skip) ≡ frame_cmp g f
  side_at = ap (frame_side g) it.is

  pub passes_on : frame_cmp g f ≡ Greater → (l : Link) (n x : ℕ) (gs : Path) (w : Marks) (u t : ChainForest)
      → merge_steps l n (forest_behind cs node place skip) (chain_node x g gs w u t) ≡ merge_steps (NextOf place) n (forest_at cs (next_of skip c.next)) (chain_node x g gs w u t)
  passes_on e l n x gs w u t =
      ap (λ k. merge_steps l n k (chain_node x g gs w u t)) it.is
      ∙ steps_pass l n place x f g (drop (skip + 1) c.frames) gs (c.label, c.ends) w (forest_at cs c.first) (forest_at cs (next_of skip c.next)) u t e

  pub shorter : count_nodes (forest_at cs (next_of skip c.next)) < count_nodes (forest_behind cs node place skip)
  shorter = let e = ap count_nodes it.is in omega (arith, e)

-- what follows a node
pub after_forest : (cs : List NodeView) (t after : MergeTarget) (next : ℕ) → IsAfter t next after → target_forest cs after ≡ forest_at cs (next_of t.skip next)
after_forest cs t after next e = λ i. forest_behind cs (e.node i) (e.place i) (e.skip i)

pub after_target : (cs : List NodeView) (t after : MergeTarget) (next : ℕ) → IsAfter t next after → LeadsToForest cs (next_of t.skip next) → IsTarget cs after
after_target cs t after next e to =
    subst (λ k. LeadsBehind cs after.node after.place k) (sym e.skip) (subst (LeadsToForest cs) (sym e.node) to, e.place ∙ sym e.node)
