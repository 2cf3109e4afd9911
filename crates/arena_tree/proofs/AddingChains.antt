-- A chain is added in place.
use Rattle.std.proofs.Common.{◌≡◌, ℕ, ◌+◌, ◌≤◌, [], ◌∷◌, length, refl, sym, ap, ◌∙◌, arith}
use Rattle.call_path.specs.Path.{Path}
use Rattle.prefix_tree.specs.Tree.{Marks}
use Rattle.arena_tree.specs.declared.target.MergeTarget.{MergeTarget}
use Rattle.arena_tree.specs.ChainForest.{no_chains}
use Rattle.arena_tree.specs.Links.{LinkedNodes}
use Rattle.arena_tree.specs.Steps.{rest_over, rows_added, apply_steps}
use Rattle.arena_tree.specs.Reading.{chain_of}
use Rattle.arena_tree.specs.Growth.{grown, rows_grown, GoesOn, Enters, GrowsBy}
use Rattle.arena_tree.proofs.PlanningChains.{Sought}
use Rattle.arena_tree.proofs.MergingIn.{grown_none, rows_grown_none}

alone : (gs : Path) (w : Marks) → chain_of 0 gs w no_chains no_chains ≡ rest_over 0 gs w no_chains
alone [] w = refl
alone (g ∷ gs) w = refl

-- its first frames are merged, and the others are added below
pub grows_more : (h h1 h2 : LinkedNodes) (into rest below : MergeTarget) (fs gs : Path) (w : Marks) (r r1 r2 : ℕ) → Enters h h1 into rest below fs gs w r r1 → GrowsBy h1 h2 below gs w r1 r2 → length h.nodes + length fs ≤ 4096 → GrowsBy h h2 into fs w r r2
grows_more h h1 h2 into rest below fs gs w r r1 r2 enters more few =
    let places = enters.places in
    let rows = enters.rows in
    let few_nodes = more.few_nodes in
    let few_rows = more.few_rows in
    let on : GoesOn h h2 into rest fs w no_chains r r2 =
    enters.goes_on 0 no_chains h2 r2 (more.made ∙ ap (grown h1 below) (alone gs w)) (more.rows ∙ ap (λ o. r1 + rows_grown h1 below o) (alone gs w)) (omega (arith, places, few_nodes, few)) in
    record {
      made = sym (on.same 0 no_chains ∙ grown_none h2 rest);
      rows = let e = on.rows 0 no_chains in let none = rows_grown_none h2 rest in omega (arith, e, none);
      few_nodes = omega (arith, places, few_nodes);
      few_rows = omega (arith, rows, few_rows);
    }

nothing_more : (h : LinkedNodes) (into : MergeTarget) (gs : Path) (w : Marks) (r : ℕ) → gs ≡ [] → GrowsBy h h into gs w r r
nothing_more h into gs w r none = record {
  made = sym (ap (λ gs. grown h into (chain_of 0 gs w no_chains no_chains)) none ∙ grown_none h into);
  rows = let e = ap (λ gs. rows_grown h into (chain_of 0 gs w no_chains no_chains)) none in let zero = rows_grown_none h into in omega (arith, e, zero);
  few_nodes = omega arith;
  few_rows = omega arith;
}

-- all its frames are merged
pub grows_all : (h h1 : LinkedNodes) (into rest below : MergeTarget) (fs gs : Path) (w : Marks) (r r1 : ℕ) → Enters h h1 into rest below fs gs w r r1 → gs ≡ [] → length h.nodes + length fs ≤ 4096 → GrowsBy h h1 into fs w r r1
grows_all h h1 into rest below fs gs w r r1 enters none few = grows_more h h1 h1 into rest below fs gs w r r1 r1 enters (nothing_more h1 below gs w r1 none) few

-- a chain that was looked for from an earlier node on
pub grows_sought : (h h2 : LinkedNodes) (into0 into : MergeTarget) (fs : Path) (w : Marks) (r r2 : ℕ) → Sought h.nodes into0 into fs w (length h.nodes) → GrowsBy h h2 into fs w r r2 → GrowsBy h h2 into0 fs w r r2
grows_sought h h2 into0 into fs w r r2 sought it = record {
  made = it.made ∙ ap (apply_steps h) (sym (sought 0 no_chains no_chains));
  rows = it.rows ∙ ap (λ ss. r + rows_added ss) (sym (sought 0 no_chains no_chains));
  few_nodes = it.few_nodes;
  few_rows = it.few_rows;
}
