-- Later siblings, and what may be skipped before them.
use Rattle.std.proofs.Common.{◌≡◌, ◌≢◌, inl, inr, ℕ, zero, suc, ◌<◌, ◌≤◌, false, true≢false, List, [], ◌∷◌, length, refl, sym, ap, ◌∙◌, subst, arith}
use Rattle.std.specs.Prelude.{slice_get, Some}
use Rattle.std.specs.declared.cmp.Ordering.{Ordering}
use Rattle.std.specs.declared.cmp.Ordering.TheVariants.{Less, Equal, Greater}
use Rattle.std.specs.Ordering.{is_lt}
use Rattle.std.specs.Cmp.Lexicographic.{nat_list_cmp_total}
use Rattle.std.proofs.lemmas.Option.{slice_get_within, same_Some}
use Rattle.call_path.specs.Path.{Path}
use Rattle.prefix_tree.specs.Tree.{Marks}
use Rattle.arena_tree.specs.declared.node.Link.{Link}
use Rattle.arena_tree.specs.declared.node.Link.TheVariants.{NextOf}
use Rattle.arena_tree.specs.NodeViews.{NodeView}
use Rattle.arena_tree.specs.RowForest.{RowForest, frame_cmp, IsBefore, HasIncreasingRows}
use Rattle.arena_tree.specs.ChainForest.{ChainForest, no_chains, chain_node, rows_below, rows_of_chains, HasIncreasingChains, count_nodes}
use Rattle.arena_tree.specs.Placement.{first_place, count_place, node_view, AreNodesOf}
use Rattle.arena_tree.specs.Steps.{merge_steps}
use Rattle.arena_tree.specs.Reading.{forest_at, LeadsToForest, frame_side}
use Rattle.arena_tree.specs.declared.target.MergeTarget.{MergeTarget}
use Rattle.arena_tree.specs.Trail.{IsAmong, IsLaterSibling, LeadsToOrdered, IsInTree, IsBelow}
use Rattle.arena_tree.proofs.Orders.{frame_exact, before_less}
use Rattle.arena_tree.proofs.TurnSteps.{steps_same, steps_pass}
use Rattle.arena_tree.proofs.Reading.{leads_to, leads_from}
use Rattle.arena_tree.proofs.Planning.{reads, ReadsBehind, reads_behind, side_at, shorter}

-- the siblings from one of them on
abbrev pub siblings_from : (t : ℕ) (k : ChainForest) → IsAmong t k → ChainForest
siblings_from t no_chains i = no_chains
siblings_from t (chain_node a f fs m b s) (inl e) = chain_node a f fs m b s
siblings_from t (chain_node a f fs m b s) (inr i) = siblings_from t s i

pub siblings_within : (t : ℕ) (k : ChainForest) (i : IsAmong t k) (y : ℕ) → count_place y (siblings_from t k i) ≤ count_place y k
siblings_within t no_chains i y = omega arith
siblings_within t (chain_node a f fs m b s) (inl e) y = omega arith
siblings_within t (chain_node a f fs m b s) (inr i) y = let less = siblings_within t s i y in omega (arith, less)

-- they are what the place leads to
module _ (cs : List NodeView) (few : length cs ≤ 4096) where
  pub at_siblings : (t : ℕ) (k : ChainForest) (i : IsAmong t k) → AreNodesOf cs k → count_nodes k ≤ length cs → forest_at cs t ≡ siblings_from t k i
  at_siblings t no_chains i nodes_hold fits = absurd i
  at_siblings t (chain_node a f fs m b s) (inl e) nodes_hold fits = ap (forest_at cs) e ∙ leads_to cs (chain_node a f fs m b s) nodes_hold fits few
  at_siblings t (chain_node a f fs m b s) (inr i) nodes_hold fits = at_siblings t s i nodes_hold.2 (omega (arith, fits))

  among_leads : (t : ℕ) (k : ChainForest) (i : IsAmong t k) → AreNodesOf cs k → count_nodes k ≤ length cs → LeadsToForest cs t
  among_leads t no_chains i nodes_hold fits = absurd i
  among_leads t (chain_node a f fs m b s) (inl e) nodes_hold fits = subst (LeadsToForest cs) (sym e) (leads_from cs (chain_node a f fs m b s) nodes_hold fits few)
  among_leads t (chain_node a f fs m b s) (inr i) nodes_hold fits = among_leads t s i nodes_hold.2 (omega (arith, fits))

-- a frame before the first is before each
before_siblings : (g : List ℕ) (t : ℕ) (k : ChainForest) (i : IsAmong t k) → IsBefore g (rows_of_chains k) → HasIncreasingChains k → frame_side g (siblings_from t k i) ≡ Less
before_siblings g t no_chains i is up = absurd i
before_siblings g t (chain_node a f fs m b s) (inl e) is up = is
before_siblings g t (chain_node a f fs m b s) (inr i) is up = before_siblings g t s i (before_less g f (rows_of_chains s) is up.0) up.2

side_trans : (g f : List ℕ) (k : ChainForest) → frame_cmp g f ≡ Less → frame_side f k ≡ Less → frame_side g k ≡ Less
side_trans g f no_chains lt e = refl
side_trans g f (chain_node a h fs m b s) lt e = nat_list_cmp_total.trans g f h lt e

-- a frame that isn't before a later sibling is after an earlier one
passed : (g f : List ℕ) (k : ChainForest) → frame_side f k ≡ Less → frame_side g k ≢ Less → frame_cmp g f ≡ Greater
passed g f k before off =
    elim (frame_cmp g f) as (λ r. frame_cmp g f ≡ r → r ≡ Greater) [
      | Less ↦ λ e. absurd (off (side_trans g f k e before))
      | Equal ↦ λ e. absurd (off (ap (λ h. frame_side h k) (frame_exact g f e) ∙ before))
      | Greater ↦ λ e. refl
    ] refl

-- no link matters where nothing is put before the first node
any_link : (l k : Link) (n x : ℕ) (g : List ℕ) (gs : Path) (w : Marks) (j c u : ChainForest) → frame_side g j ≢ Less → merge_steps l n j (chain_node x g gs w c u) ≡ merge_steps k n j (chain_node x g gs w c u)
any_link l k n x g gs w no_chains c u off = absurd (off refl)
any_link l k n x g gs w (chain_node a f fs m b s) c u off =
    elim (frame_cmp g f) as (λ r. frame_cmp g f ≡ r → merge_steps l n (chain_node a f fs m b s) (chain_node x g gs w c u) ≡ merge_steps k n (chain_node a f fs m b s) (chain_node x g gs w c u)) [
      | Less ↦ λ e. absurd (off e)
      | Equal ↦ λ e. steps_same l n a x f g fs gs m w b s c u e ∙ sym (steps_same k n a x f g fs gs m w b s c u e)
      | Greater ↦ λ e. steps_pass l n a x f g fs gs m w b s c u e ∙ sym (steps_pass k n a x f g fs gs m w b s c u e)
    ] refl

steps_from : (l : Link) (n x : ℕ) (g : List ℕ) (gs : Path) (w : Marks) (c u : ChainForest) (t : ℕ) (k : ChainForest) (i : IsAmong t k) → HasIncreasingChains k → frame_side g (siblings_from t k i) ≢ Less
    → merge_steps l n k (chain_node x g gs w c u) ≡ merge_steps l n (siblings_from t k i) (chain_node x g gs w c u)
steps_from l n x g gs w c u t no_chains i up off = absurd i
steps_from l n x g gs w c u t (chain_node a f fs m b s) (inl e) up off = refl
steps_from l n x g gs w c u t (chain_node a f fs m b s) (inr i) up off =
    steps_pass l n a x f g fs gs m w b s c u (passed g f (siblings_from t s i) (before_siblings f t s i up.0 up.2) off)
    ∙ steps_from (NextOf a) n x g gs w c u t s i up.2 off
    ∙ any_link (NextOf a) l n x g gs w (siblings_from t s i) c u off

pub increasing_below : (a : ℕ) (fs : Path) (m : Marks) (k : RowForest) → HasIncreasingRows (rows_below a fs m k) → HasIncreasingRows k
increasing_below a [] m k up = up
increasing_below a (f ∷ fs) m k up = increasing_below a fs m k up.1

-- a node of the tree
module _ (cs : List NodeView) where
  among_inside : (t : ℕ) (k : ChainForest) (i : IsAmong t k) → AreNodesOf cs k → t < length cs
  among_inside t no_chains i nodes_hold = absurd i
  among_inside t (chain_node a f fs m b s) (inl e) nodes_hold = subst (λ a. a < length cs) (sym e) (slice_get_within cs a (node_view f fs m b s) nodes_hold.0)
  among_inside t (chain_node a f fs m b s) (inr i) nodes_hold = among_inside t s i nodes_hold.2

  pub later_inside : (k : ChainForest) (x t : ℕ) → AreNodesOf cs k → IsLaterSibling k x t → t < length cs
  later_inside no_chains x t nodes_hold i = absurd i
  later_inside (chain_node a f fs m b s) x t nodes_hold (inl i) = among_inside t (chain_node a f fs m b s) i.1 nodes_hold
  later_inside (chain_node a f fs m b s) x t nodes_hold (inr (inl i)) = later_inside b x t nodes_hold.1 i
  later_inside (chain_node a f fs m b s) x t nodes_hold (inr (inr i)) = later_inside s x t nodes_hold.2 i

module _ (cs : List NodeView) (few : length cs ≤ 4096) where
  pub later_leads : (k : ChainForest) (x t : ℕ) → AreNodesOf cs k → count_nodes k ≤ length cs → IsLaterSibling k x t → LeadsToForest cs t
  later_leads no_chains x t nodes_hold fits i = absurd i
  later_leads (chain_node a f fs m b s) x t nodes_hold fits (inl i) = among_leads cs few t (chain_node a f fs m b s) i.1 nodes_hold fits
  later_leads (chain_node a f fs m b s) x t nodes_hold fits (inr (inl i)) = later_leads b x t nodes_hold.1 (omega (arith, fits)) i
  later_leads (chain_node a f fs m b s) x t nodes_hold fits (inr (inr i)) = later_leads s x t nodes_hold.2 (omega (arith, fits)) i

  -- the steps from an earlier sibling on are those from a later one on
  pub later_steps : (l : Link) (n y : ℕ) (g : List ℕ) (gs : Path) (w : Marks) (c u : ChainForest) (k : ChainForest) (x t : ℕ) → AreNodesOf cs k → count_nodes k ≤ length cs → HasIncreasingChains k → IsLaterSibling k x t → frame_side g (forest_at cs t) ≢ Less
      → merge_steps l n (forest_at cs x) (chain_node y g gs w c u) ≡ merge_steps l n (forest_at cs t) (chain_node y g gs w c u)
  later_steps l n y g gs w c u no_chains x t nodes_hold fits up i off = absurd i
  later_steps l n y g gs w c u (chain_node a f fs m b s) x t nodes_hold fits up (inl i) off =
      let whole : ChainForest = chain_node a f fs m b s in
      let there : forest_at cs t ≡ siblings_from t (chain_node a f fs m b s) i.1 = at_siblings cs few t (chain_node a f fs m b s) i.1 nodes_hold fits in
      ap (λ k. merge_steps l n k (chain_node y g gs w c u)) (ap (forest_at cs) i.0 ∙ leads_to cs (chain_node a f fs m b s) nodes_hold fits few)
      ∙ steps_from l n y g gs w c u t (chain_node a f fs m b s) i.1 up (subst (λ k. frame_side g k ≢ Less) there off)
      ∙ ap (λ k. merge_steps l n k (chain_node y g gs w c u)) (sym there)
  later_steps l n y g gs w c u (chain_node a f fs m b s) x t nodes_hold fits up (inr (inl i)) off = later_steps l n y g gs w c u b x t nodes_hold.1 (omega (arith, fits)) (increasing_below a fs m (rows_of_chains b) up.1) i off
  later_steps l n y g gs w c u (chain_node a f fs m b s) x t nodes_hold fits up (inr (inr i)) off = later_steps l n y g gs w c u s x t nodes_hold.2 (omega (arith, fits)) up.2 i off

  -- what a later sibling leads to is a part of what an earlier one leads to
  pub later_within : (k : ChainForest) (x t : ℕ) → AreNodesOf cs k → count_nodes k ≤ length cs → IsLaterSibling k x t → (y : ℕ) → count_place y (forest_at cs t) ≤ count_place y (forest_at cs x)
  later_within no_chains x t nodes_hold fits i y = absurd i
  later_within (chain_node a f fs m b s) x t nodes_hold fits (inl i) y =
      let there = ap (count_place y) (at_siblings cs few t (chain_node a f fs m b s) i.1 nodes_hold fits) in
      let here = ap (count_place y) (ap (forest_at cs) i.0 ∙ leads_to cs (chain_node a f fs m b s) nodes_hold fits few) in
      let less = siblings_within t (chain_node a f fs m b s) i.1 y in
      omega (arith, there, here, less)
  later_within (chain_node a f fs m b s) x t nodes_hold fits (inr (inl i)) y = later_within b x t nodes_hold.1 (omega (arith, fits)) i y
  later_within (chain_node a f fs m b s) x t nodes_hold fits (inr (inr i)) y = later_within s x t nodes_hold.2 (omega (arith, fits)) i y

first_among : (k : ChainForest) (x : ℕ) → x ≡ first_place k → x ≢ 4294967295 → IsAmong x k
first_among no_chains x e off = absurd (off e)
first_among (chain_node a f fs m b s) x e off = inl e

first_later : (k : ChainForest) (x : ℕ) → x ≡ first_place k → x ≢ 4294967295 → IsLaterSibling k x x
first_later no_chains x e off = absurd (off e)
first_later (chain_node a f fs m b s) x e off = inl (e, inl e)

-- the first node of a tree is of the tree
pub first_there : (cs : List NodeView) (root : ℕ) → LeadsToForest cs root → root ≢ 4294967295 → IsLaterSibling (forest_at cs root) root root
first_there cs root to off = first_later (forest_at cs root) root (sym to.begins) off

-- what the links of a node lead to
module _ (cs : List NodeView) (t : ℕ) (c : NodeView) (there : slice_get cs t ≡ Some c) where
  node_is : (a : ℕ) (f : List ℕ) (fs : Path) (m : Marks) (b s : ChainForest) → t ≡ a → slice_get cs a ≡ Some (node_view f fs m b s) → c ≡ node_view f fs m b s
  node_is a f fs m b s e nodes_hold = same_Some c (node_view f fs m b s) (sym there ∙ ap (slice_get cs) e ∙ nodes_hold)

  next_among : (k : ChainForest) → AreNodesOf cs k → IsAmong t k → c.next ≢ 4294967295 → IsAmong c.next k
  next_among no_chains nodes_hold i off = absurd i
  next_among (chain_node a f fs m b s) nodes_hold (inl e) off = inr (first_among s c.next (ap (λ (c : NodeView). c.next) (node_is a f fs m b s e nodes_hold.0)) off)
  next_among (chain_node a f fs m b s) nodes_hold (inr i) off = inr (next_among s nodes_hold.2 i off)

  child_among : (k : ChainForest) → AreNodesOf cs k → IsAmong t k → c.first ≢ 4294967295 → IsLaterSibling k c.first c.first
  child_among no_chains nodes_hold i off = absurd i
  child_among (chain_node a f fs m b s) nodes_hold (inl e) off = inr (inl (first_later b c.first (ap (λ (c : NodeView). c.first) (node_is a f fs m b s e nodes_hold.0)) off))
  child_among (chain_node a f fs m b s) nodes_hold (inr i) off = inr (inr (child_among s nodes_hold.2 i off))

  pub next_later : (k : ChainForest) (x : ℕ) → AreNodesOf cs k → IsLaterSibling k x t → c.next ≢ 4294967295 → IsLaterSibling k x c.next
  next_later no_chains x nodes_hold i off = absurd i
  next_later (chain_node a f fs m b s) x nodes_hold (inl i) off = inl (i.0, next_among (chain_node a f fs m b s) nodes_hold i.1 off)
  next_later (chain_node a f fs m b s) x nodes_hold (inr (inl i)) off = inr (inl (next_later b x nodes_hold.1 i off))
  next_later (chain_node a f fs m b s) x nodes_hold (inr (inr i)) off = inr (inr (next_later s x nodes_hold.2 i off))

  pub child_later : (k : ChainForest) (x : ℕ) → AreNodesOf cs k → IsLaterSibling k x t → c.first ≢ 4294967295 → IsLaterSibling k c.first c.first
  child_later no_chains x nodes_hold i off = absurd i
  child_later (chain_node a f fs m b s) x nodes_hold (inl i) off = child_among (chain_node a f fs m b s) nodes_hold i.1 off
  child_later (chain_node a f fs m b s) x nodes_hold (inr (inl i)) off = inr (inl (child_later b x nodes_hold.1 i off))
  child_later (chain_node a f fs m b s) x nodes_hold (inr (inr i)) off = inr (inr (child_later s x nodes_hold.2 i off))

among_itself : (t : ℕ) (k : ChainForest) → IsAmong t k → IsLaterSibling k t t
among_itself t no_chains i = absurd i
among_itself t (chain_node a f fs m b s) (inl e) = inl (e, inl e)
among_itself t (chain_node a f fs m b s) (inr i) = inr (inr (among_itself t s i))

-- a later sibling is one of itself
pub later_itself : (k : ChainForest) (x t : ℕ) → IsLaterSibling k x t → IsLaterSibling k t t
later_itself no_chains x t i = absurd i
later_itself (chain_node a f fs m b s) x t (inl i) = among_itself t (chain_node a f fs m b s) i.1
later_itself (chain_node a f fs m b s) x t (inr (inl i)) = inr (inl (later_itself b x t i))
later_itself (chain_node a f fs m b s) x t (inr (inr i)) = inr (inr (later_itself s x t i))

pub not_less : (r o : Ordering) → r ≡ o → is_lt o ≡ false → r ≢ Less
not_less r o is other less = absurd (true≢false (ap is_lt (sym less ∙ is) ∙ other))

-- a place in a tree
module _ (cs : List NodeView) (root : ℕ) (tree : LeadsToOrdered cs root) where
  abbrev all : ChainForest
  all = forest_at cs root

  pub leads_there : (x t : ℕ) → IsLaterSibling all x t → LeadsToForest cs t
  leads_there x t i = later_leads cs tree.leads.within_limit all x t tree.leads.nodes_hold tree.leads.no_more_nodes i

  pub within_there : (x t : ℕ) → IsLaterSibling all x t → (y : ℕ) → count_place y (forest_at cs t) ≤ count_place y (forest_at cs x)
  within_there x t i y = later_within cs tree.leads.within_limit all x t tree.leads.nodes_hold tree.leads.no_more_nodes i y

  pub inside_there : (x t : ℕ) → IsLaterSibling all x t → t < length cs
  inside_there x t i = later_inside cs all x t tree.leads.nodes_hold i

  pub steps_there : (l : Link) (x t : ℕ) → IsLaterSibling all x t → (g : List ℕ) → frame_side g (forest_at cs t) ≢ Less → (n y : ℕ) (gs : Path) (w : Marks) (c u : ChainForest)
      → merge_steps l n (forest_at cs x) (chain_node y g gs w c u) ≡ merge_steps l n (forest_at cs t) (chain_node y g gs w c u)
  steps_there l x t i g off n y gs w c u = later_steps cs tree.leads.within_limit l n y g gs w c u all x t tree.leads.nodes_hold tree.leads.no_more_nodes tree.ordered i off

  -- a node that is read there
  module _ (x t : ℕ) (i : IsLaterSibling all x t) (c : NodeView) (there : slice_get cs t ≡ Some c) where
    pub frames_there : 0 < length c.frames
    frames_there = let it = reads cs t c (leads_there x t i) there in let long = ap length it.frames in omega (arith, long)

    pub next_there : c.next ≢ 4294967295 → IsLaterSibling all x c.next
    next_there off = next_later cs t c there all x tree.leads.nodes_hold i off

    pub child_there : c.first ≢ 4294967295 → IsLaterSibling all c.first c.first
    child_there off = child_later cs t c there all x tree.leads.nodes_hold i off

    module _ (f : List ℕ) (one : slice_get c.frames 0 ≡ Some f) where
      it : ReadsBehind cs t t 0 c f
      it = reads_behind cs t t 0 c f (leads_there x t i, refl) there one

      pub side_there : (g : List ℕ) → frame_side g (forest_at cs t) ≡ frame_cmp g f
      side_there g = side_at cs t t 0 c f it g

      pub fewer_there : count_nodes (forest_at cs c.next) < count_nodes (forest_at cs t)
      fewer_there = shorter cs t t 0 c f it f

some_node : (cs : List NodeView) (t : ℕ) → t < length cs → (c : NodeView) × (slice_get cs t ≡ Some c)
some_node [] t lt = absurd (omega (arith, lt))
some_node (c ∷ cs) zero lt = (c, refl)
some_node (c ∷ cs) (suc t) lt = some_node cs t (omega (arith, lt))

-- what is below a node of the tree is of the tree
pub below_there : (cs : List NodeView) (root : ℕ) (tree : LeadsToOrdered cs root) (t : ℕ) (below : MergeTarget) → IsLaterSibling (forest_at cs root) t t → IsBelow cs t below → IsInTree cs root below
below_there cs root tree t below i is whole off =
    let c = some_node cs t (inside_there cs root tree t t i) in
    let first : below.node ≡ c.0.first = is c.0 c.1 whole in
    subst (λ x. IsLaterSibling (forest_at cs root) x x) (sym first) (child_there cs root tree t t i c.0 c.1 (subst (λ x. x ≢ 4294967295) first off))
