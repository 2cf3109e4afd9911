-- A tree that grows in one pass.
-- No clause of a public call cites this file: it says how a change is done.
use Rattle.std.specs.Prelude.{◌≡◌, ℕ, ◌+◌, ◌≤◌, List, [], ◌∷◌, length, drop}
use Rattle.call_path.specs.Path.{Path}
use Rattle.prefix_tree.specs.Tree.{Marks}
use Rattle.arena_tree.specs.declared.node.Link.{Link}
use Rattle.arena_tree.specs.declared.node.Link.TheVariants.{Top, FirstOf}
use Rattle.arena_tree.specs.declared.node.ChangeStep.{ChangeStep}
use Rattle.arena_tree.specs.declared.grow.Growth.{Growth}
use Rattle.arena_tree.specs.declared.merge.NewChain.{NewChain}
use Rattle.arena_tree.specs.declared.target.MergeTarget.{MergeTarget}
use Rattle.arena_tree.specs.NodeViews.{NodeView}
use Rattle.arena_tree.specs.ChainForest.{ChainForest, no_chains}
use Rattle.arena_tree.specs.Placement.{HasDistinctPlaces}
use Rattle.arena_tree.specs.Links.{LinkedNodes, linked, IsOutside}
use Rattle.arena_tree.specs.Steps.{rows_added, merge_steps, apply_step, apply_steps, rest_over}
use Rattle.arena_tree.specs.Reading.{chain_of}
use Rattle.arena_tree.specs.Targets.{IsTarget, target_forest}
use Rattle.arena_tree.specs.NewChains.{new_marks, new_frames}

-- the nodes of a tree that grows
abbrev pub growth_view : Growth → LinkedNodes
growth_view g = linked g.first g.nodes.items

-- the nodes from a place on
abbrev pub all_at : Link → ℕ → MergeTarget
all_at l at = record { link = l; node = at; skip = 0; place = at }

-- what follows a new node: the nodes before which it was put
abbrev pub led_by : Link → MergeTarget → MergeTarget
led_by l t = record { link = l; node = t.node; skip = t.skip; place = t.place }

-- where the nodes below a node begin: with the new node that has its lower frames, if it has any
abbrev pub place_below : Path → ℕ → ℕ → ℕ
place_below [] new first = first
place_below (g ∷ gs) new first = new

-- the target below the frames of a target that its node c keeps, where a new node gets the place
abbrev pub below_shared : MergeTarget → ℕ → ℕ → NodeView → MergeTarget
below_shared into shared new c =
    all_at (FirstOf into.place) (place_below (drop (into.skip + shared) c.frames) new c.first)

-- all nodes of a tree that grows
abbrev pub whole_tree : Growth → MergeTarget
whole_tree g = all_at Top g.first

-- a step was done in a tree that grows
abbrev pub DoesStep : Growth → Growth → ChangeStep → Type 0
DoesStep old new step = growth_view new ≡ apply_step (growth_view old) step

-- a target whose nodes may be changed: whole nodes, each once, and the link is of none of them
pub record CanGrow (cs : List NodeView) (into : MergeTarget) : Type 0 where
  pub whole : into.skip ≡ 0
  pub leads : IsTarget cs into
  pub distinct : HasDistinctPlaces (target_forest cs into)
  pub outside : IsOutside into.link (target_forest cs into)

-- the nodes with a forest merged into a target
abbrev pub grown : LinkedNodes → MergeTarget → ChainForest → LinkedNodes
grown h into o = apply_steps h (merge_steps into.link (length h.nodes) (target_forest h.nodes into) o)

-- how many rows that adds
abbrev pub rows_grown : LinkedNodes → MergeTarget → ChainForest → ℕ
rows_grown h into o = rows_added (merge_steps into.link (length h.nodes) (target_forest h.nodes into) o)

-- a chain is merged with what is below it, where there were r rows and are r2; then come its siblings
pub record GoesOn (h h2 : LinkedNodes) (into rest : MergeTarget) (fs : Path) (w : Marks) (c : ChainForest) (r r2 : ℕ) : Type 0 where
  pub rest_grows : CanGrow h2.nodes rest
  pub same : (x : ℕ) (t : ChainForest) → grown h into (chain_of x fs w c t) ≡ grown h2 rest t
  pub rows : (x : ℕ) (t : ChainForest) → r + rows_grown h into (chain_of x fs w c t) ≡ r2 + rows_grown h2 rest t

-- the first frames of a chain are merged, where there were r rows and are r1; then come the frames behind them, below, with what is below the chain
pub record Enters (h h1 : LinkedNodes) (into rest below : MergeTarget) (fs gs : Path) (w : Marks) (r r1 : ℕ) : Type 0 where
  pub below_grows : CanGrow h1.nodes below
  pub places : length h1.nodes + length gs ≤ length h.nodes + length fs
  pub rows : r1 + length gs ≤ r + length fs
  pub goes_on : (y : ℕ) (c : ChainForest) (h2 : LinkedNodes) (r2 : ℕ) → h2 ≡ grown h1 below (rest_over y gs w c) → r2 ≡ r1 + rows_grown h1 below (rest_over y gs w c) → length h2.nodes ≤ 4096
      → GoesOn h h2 into rest fs w c r r2

-- a chain was added, and so were its rows, where there were r and are r2
pub record GrowsBy (h h2 : LinkedNodes) (into : MergeTarget) (fs : Path) (w : Marks) (r r2 : ℕ) : Type 0 where
  pub made : h2 ≡ grown h into (chain_of 0 fs w no_chains no_chains)
  pub rows : r2 ≡ r + rows_grown h into (chain_of 0 fs w no_chains no_chains)
  pub few_nodes : length h2.nodes ≤ length h.nodes + length fs
  pub few_rows : r2 ≤ r + length fs

-- a tree that grows gets the first frames of a chain: all but those behind so many of its path, which come in the
-- target below
abbrev pub EntersChain : Growth → Growth → MergeTarget → MergeTarget → NewChain → MergeTarget × ℕ → Type 0
EntersChain old new into rest chain r =
    Enters (growth_view old) (growth_view new) into rest r.0 (new_frames chain) (drop r.1 chain.path.now)
    (new_marks chain.marks) old.rows new.rows

-- a tree that grows gets a chain
abbrev pub GrowsByChain : Growth → Growth → MergeTarget → NewChain → Type 0
GrowsByChain old new into chain =
    GrowsBy (growth_view old) (growth_view new) into (new_frames chain) (new_marks chain.marks) old.rows new.rows
