-- The step of a node that begins with the frames that are looked for.
use Rattle.std.proofs.Common.{◌≡◌, ℕ, zero, suc, ◌+◌, ◌-◌, ◌<◌, ◌≤◌, List, [], ◌∷◌, ◌++◌, length, drop, take, refl, sym, ap, ◌∙◌, subst, arith}
use Rattle.std.specs.Prelude.{slice_get, Some}
use Rattle.std.specs.declared.cmp.Ordering.TheVariants.{Equal}
use Rattle.std.proofs.lemmas.List.{length-drop, length-take-le}
use Rattle.std.proofs.lemmas.Option.{same_Some}
use Rattle.rank_set.specs.Ranks.{Ranks, union, union-none}
use Rattle.call_path.specs.Path.{Path}
use Rattle.call_path.proofs.Orders.{from_frame}
use Rattle.prefix_tree.specs.Tree.{Marks}
use Rattle.arena_tree.specs.declared.node.Link.{Link}
use Rattle.arena_tree.specs.declared.node.Link.TheVariants.{FirstOf, NextOf}
use Rattle.arena_tree.specs.declared.node.ChangeStep.{ChangeStep}
use Rattle.arena_tree.specs.declared.node.ChangeStep.TheVariants.{Cut}
use Rattle.arena_tree.specs.declared.target.MergeTarget.{MergeTarget}
use Rattle.arena_tree.specs.NodeViews.{NodeView, view_of}
use Rattle.arena_tree.specs.RowForest.{frame_cmp}
use Rattle.arena_tree.specs.ChainForest.{ChainForest, no_chains, chain_node, row_ends, FrameSplit, split_frames, split_parts, cut_count}
use Rattle.arena_tree.specs.ChainMerge.{added_marks, new_nodes}
use Rattle.arena_tree.specs.Placement.{first_place}
use Rattle.arena_tree.specs.Steps.{nodes_added_by, rows_added_by, shared_step, rest_over, merge_steps}
use Rattle.arena_tree.specs.Reading.{chain_of, forest_at, LeadsToForest}
use Rattle.arena_tree.specs.Targets.{rest_of, forest_behind, target_forest, LeadsBehind, IsTarget, IsAfter, next_of}
use Rattle.arena_tree.specs.Plans.{PlanView, plan_with, next_place, BeginsAt, step_at, target_below, SharesChain}
use Rattle.arena_tree.specs.Trail.{IsBelow}
use Rattle.arena_tree.proofs.MergingChains.{parted}
use Rattle.arena_tree.proofs.Orders.{frame_exact}
use Rattle.arena_tree.proofs.SharedFrames.{some_at}
use Rattle.arena_tree.proofs.TurnSteps.{steps_same, new_nodes_rest}
use Rattle.arena_tree.proofs.Planning.{ReadsBehind, reads_behind, target_few, target_frame, side_at, after_forest, after_target}

-- a list without an item
nothing_left : (p : Path) → length p ≡ 0 → p ≡ []
nothing_left [] e = refl
nothing_left (f ∷ p) e = absurd (omega (arith, e))

pub drop_all : (p : Path) (k : ℕ) → k ≡ length p → drop k p ≡ []
drop_all p k e = let long = length-drop k p in nothing_left (drop k p) (omega (arith, long, e))

pub drop_some : (p : Path) (k : ℕ) → k < length p → 0 < length (drop k p)
drop_some p k lt = let long = length-drop k p in omega (arith, long, lt)

-- where no frames are left
pub below_old : (into : MergeTarget) (lower : Path) (kept place first : ℕ) → lower ≡ []
    → record { link = FirstOf into.place; node = first; skip = 0; place = first } ≡ target_below into lower kept place first
below_old into lower kept place first is = ap (λ p. target_below into p kept place first) (sym is)

-- where some are
pub step_cut : (a more : ℕ) (lower : Path) (m w : Marks) (first : ℕ) → 0 < length lower
    → Cut a more (union m.0 w.0) w.1 (view_of lower m first 4294967295) ≡ step_at a more lower w m first
step_cut a more [] m w first lt = absurd (omega (arith, lt))
step_cut a more (g ∷ gs) m w first lt = ap (λ e. Cut a more (union m.0 w.0) e (view_of (g ∷ gs) m first 4294967295)) (sym (union-none w.1))

pub below_cut : (into : MergeTarget) (lower : Path) (kept place first : ℕ) → 0 < length lower
    → record { link = FirstOf into.place; node = into.node; skip = kept; place = place } ≡ target_below into lower kept place first
below_cut into [] kept place first lt = absurd (omega (arith, lt))
below_cut into (g ∷ gs) kept place first lt = refl

-- the step, by what it is of
pub step_shared : (a : ℕ) (own common : Path) (w m : Marks) (b : ChainForest) → shared_step a own common w m b ≡ step_at a (length common) own w m (first_place b)
step_shared a [] common w m b = refl
step_shared a (g ∷ gs) common w m b = refl

nodes_at : (a more : ℕ) (own : Path) (w m : Marks) (first : ℕ) → nodes_added_by (step_at a more own w m first) ≡ cut_count own
nodes_at a more [] w m first = refl
nodes_at a more (g ∷ gs) w m first = refl

pub few_cuts : (own : Path) → cut_count own ≤ 1
few_cuts [] = omega arith
few_cuts (g ∷ gs) = omega arith

pub rows_at : (a more : ℕ) (own : Path) (w m : Marks) (first : ℕ) → rows_added_by (step_at a more own w m first) ≡ 0
rows_at a more [] w m first = refl
rows_at a more (g ∷ gs) w m first = refl

-- the target below
link_below : (into : MergeTarget) (own : Path) (kept place first : ℕ) → (target_below into own kept place first).link ≡ FirstOf into.place
link_below into [] kept place first = refl
link_below into (g ∷ gs) kept place first = refl

behind_some : (cs : List NodeView) (node place k : ℕ) → 0 < k → forest_behind cs node place k ≡ rest_of cs place k (slice_get cs node)
behind_some cs node place zero lt = absurd (omega (arith, lt))
behind_some cs node place (suc k) lt = refl

leads_behind : (cs : List NodeView) (node place k : ℕ) (c : NodeView) → 0 < k → slice_get cs node ≡ Some c → k < length c.frames → LeadsToForest cs c.first → length cs ≤ 4096 → LeadsBehind cs node place k
leads_behind cs node place zero c lt there within to few = absurd (omega (arith, lt))
leads_behind cs node place (suc k) c lt there within to few = (c, there, within, to, few)

pub forest_below : (cs : List NodeView) (into : MergeTarget) (c : NodeView) (own : Path) (kept place : ℕ) → drop kept c.frames ≡ own → 0 < kept → slice_get cs into.node ≡ Some c
    → target_forest cs (target_below into own kept place c.first) ≡ rest_over place own (c.label, c.ends) (forest_at cs c.first)
forest_below cs into c [] kept place is lt there = refl
forest_below cs into c (g ∷ gs) kept place is lt there =
    behind_some cs into.node place kept lt ∙ ap (rest_of cs place kept) there ∙ ap (λ p. chain_of place p (c.label, c.ends) (forest_at cs c.first) no_chains) is

pub leads_below : (cs : List NodeView) (into : MergeTarget) (c : NodeView) (own : Path) (kept place : ℕ) → drop kept c.frames ≡ own → 0 < kept → slice_get cs into.node ≡ Some c → LeadsToForest cs c.first → length cs ≤ 4096
    → IsTarget cs (target_below into own kept place c.first)
leads_below cs into c [] kept place is lt there to few = (to, refl)
leads_below cs into c (g ∷ gs) kept place is lt there to few =
    let long = length-drop kept c.frames in
    let same = ap length is in
    leads_behind cs into.node place kept c lt there (omega (arith, long, same)) to few

-- the steps of a node that begins with the same frame, where the parts of both chains are known
pub parts_known : (l : Link) (n a x : ℕ) (f g : List ℕ) (fs gs : Path) (m w : Marks) (b s c t : ChainForest) (z : FrameSplit) → split_frames fs gs ≡ z → frame_cmp g f ≡ Equal
    → merge_steps l n (chain_node a f fs m b s) (chain_node x g gs w c t)
    ≡ shared_step a z.own z.common (added_marks z w) m b ∷ merge_steps (FirstOf a) (n + cut_count z.own) (rest_over n z.own m b) (rest_over 0 z.other w c)
    ++ merge_steps (NextOf a) (n + cut_count z.own + new_nodes [] (rest_over n z.own m b) [] (rest_over 0 z.other w c)) s t
parts_known l n a x f g fs gs m w b s c t z is e =
    subst (λ (z : FrameSplit). merge_steps l n (chain_node a f fs m b s) (chain_node x g gs w c t)
    ≡ shared_step a z.own z.common (added_marks z w) m b ∷ merge_steps (FirstOf a) (n + cut_count z.own) (rest_over n z.own m b) (rest_over 0 z.other w c)
    ++ merge_steps (NextOf a) (n + cut_count z.own + new_nodes [] (rest_over n z.own m b) [] (rest_over 0 z.other w c)) s t) is
    (steps_same l n a x f g fs gs m w b s c t e
    ∙ (λ i. shared_step a (split_frames fs gs).own (split_frames fs gs).common (added_marks (split_frames fs gs) w) m b
    ∷ merge_steps (FirstOf a) (turned i) (rest_over n (split_frames fs gs).own m b) (rest_over 0 (split_frames fs gs).other w c)
    ++ merge_steps (NextOf a) (turned i + counted i) s t))
  where
    turned : cut_count (split_frames fs gs).own + n ≡ n + cut_count (split_frames fs gs).own
    turned = omega arith

    counted : new_nodes (split_frames fs gs).own b (split_frames fs gs).other c ≡ new_nodes [] (rest_over n (split_frames fs gs).own m b) [] (rest_over 0 (split_frames fs gs).other w c)
    counted = new_nodes_rest n 0 (split_frames fs gs).own m b (split_frames fs gs).other w c (parted fs gs)

-- the first frames of a chain are shared with a node
module _ (cs : List NodeView) (into : MergeTarget) (c : NodeView) (to : IsTarget cs into) (there : slice_get cs into.node ≡ Some c)
    (p : Path) (skip n0 : ℕ) (begins : BeginsAt cs into p skip)
    (is_split : split_frames (drop (into.skip + 1) c.frames) (drop (skip + 1) p) ≡ split_parts (take n0 (drop (into.skip + 1) c.frames)) (drop (into.skip + 1 + n0) c.frames) (drop (skip + 1 + n0) p))
    (within : into.skip + 1 + n0 ≤ length c.frames)
    (label ends more : Ranks) (more_is : more ≡ row_ends (drop (skip + (1 + n0)) p) ends) where
  abbrev k : ℕ
  k = into.skip + (1 + n0)

  abbrev own : Path
  own = drop k c.frames

  abbrev other : Path
  other = drop (skip + (1 + n0)) p

  abbrev m : Marks
  m = (c.label, c.ends)

  abbrev b : ChainForest
  b = forest_at cs c.first

  abbrev g : List ℕ
  g = begins.frame

  abbrev w : Marks
  w = (label, more)

  abbrev step : ChangeStep
  step = step_at into.place (1 + n0 - 1) own w m c.first

  pub f_at : (f : List ℕ) × (slice_get c.frames into.skip ≡ Some f)
  f_at = some_at c.frames into.skip (target_frame cs into.node into.place into.skip c to there)

  abbrev f : List ℕ
  f = f_at.0

  pub it : ReadsBehind cs into.node into.place into.skip c f
  it = reads_behind cs into.node into.place into.skip c f to there f_at.1

  abbrev s : ChainForest
  s = forest_at cs (next_of into.skip c.next)

  pub equal : frame_cmp g f ≡ Equal
  equal = sym (side_at cs into.node into.place into.skip c f it g) ∙ begins.side

  kept_same : into.skip + 1 + n0 ≡ k
  kept_same = omega arith

  other_same : skip + 1 + n0 ≡ skip + (1 + n0)
  other_same = omega arith

  abbrev common : Path
  common = take n0 (drop (into.skip + 1) c.frames)

  pub parts : split_frames (drop (into.skip + 1) c.frames) (drop (skip + 1) p) ≡ split_parts common own other
  parts = is_split ∙ (λ i. split_parts common (drop (kept_same i) c.frames) (drop (other_same i) p))

  common_long : length common ≡ 1 + n0 - 1
  common_long =
      let long = length-drop (into.skip + 1) c.frames in
      length-take-le n0 (drop (into.skip + 1) c.frames) (omega (arith, long, within)) ∙ omega arith

  pub step_is : shared_step into.place own common (added_marks (split_parts common own other) (label, ends)) m b ≡ step
  step_is =
      step_shared into.place own common (added_marks (split_parts common own other) (label, ends)) m b
      ∙ (λ i. step_at into.place (common_long i) own (label, sym more_is i) m (it.first.begins i))

  positive : 0 < k
  positive = omega arith

  module _ (after below : MergeTarget) (old new : PlanView)
      (planned : new ≡ plan_with old (step_at into.place (1 + n0 - 1) (drop (into.skip + (1 + n0)) c.frames)
      (label, more) (c.label, c.ends) c.first ∷ []))
      (below_is : below ≡ target_below into (drop (into.skip + (1 + n0)) c.frames) (into.skip + (1 + n0)) (next_place old) c.first)
      (after_is : IsAfter into c.next after) where
    below_forest : rest_over (next_place old) own m b ≡ target_forest cs below
    below_forest = sym (ap (target_forest cs) below_is ∙ forest_below cs into c own k (next_place old) refl positive there)

    added : cut_count own ≡ nodes_added_by step
    added = sym (nodes_at into.place (1 + n0 - 1) own w m c.first)

    link_is : FirstOf into.place ≡ below.link
    link_is = sym (ap (λ (t : MergeTarget). t.link) below_is ∙ link_below into own k (next_place old) c.first)

    same : (x : ℕ) (u t : ChainForest) → merge_steps into.link (next_place old) (target_forest cs into) (chain_of x (drop skip p) (label, ends) u t)
        ≡ step ∷ merge_steps below.link (next_place old + nodes_added_by step) (target_forest cs below) (rest_over 0 other (label, ends) u)
        ++ merge_steps after.link (next_place old + nodes_added_by step + new_nodes [] (target_forest cs below) [] (rest_over 0 other (label, ends) u)) (target_forest cs after) t
    same x u t =
        (λ i. merge_steps into.link (next_place old) (it.is i) (chain_of x (from_frame p skip g begins.is i) (label, ends) u t))
        ∙ parts_known into.link (next_place old) into.place x f g (drop (into.skip + 1) c.frames) (drop (skip + 1) p) m (label, ends) b s u t (split_parts common own other) parts equal
        ∙ (λ i. step_is i ∷ merge_steps (link_is i) (next_place old + added i) (below_forest i) (rest_over 0 other (label, ends) u)
        ++ merge_steps (sym after_is.link i) (next_place old + added i + new_nodes [] (below_forest i) [] (rest_over 0 other (label, ends) u)) (sym (after_forest cs into after c.next after_is) i) t)

    pub shares : SharesChain cs into after below (drop skip p) other (label, ends) old new
    shares = record {
      step = step;
      plan = planned;
      rest_leads = after_target cs into after c.next after_is it.next;
      below_leads = subst (IsTarget cs) (sym below_is) (leads_below cs into c own k (next_place old) refl positive there it.first (target_few cs into.node into.place into.skip to));
      places = let few = few_cuts own in omega (arith, few, added);
      rows = rows_at into.place (1 + n0 - 1) own w m c.first;
      steps_split = same;
    }

-- the frame that a target begins with is the path's
pub frames_same : (cs : List NodeView) (into : MergeTarget) (c : NodeView) → IsTarget cs into → slice_get cs into.node ≡ Some c → (p : Path) (skip : ℕ) → BeginsAt cs into p skip → slice_get c.frames into.skip ≡ slice_get p skip
frames_same cs into c to there p skip begins =
    let at : (f : List ℕ) × (slice_get c.frames into.skip ≡ Some f) = some_at c.frames into.skip (target_frame cs into.node into.place into.skip c to there) in
    let it : ReadsBehind cs into.node into.place into.skip c at.0 = reads_behind cs into.node into.place into.skip c at.0 to there at.1 in
    let equal : frame_cmp begins.frame at.0 ≡ Equal = sym (side_at cs into.node into.place into.skip c at.0 it begins.frame) ∙ begins.side in
    at.1 ∙ ap Some (sym (frame_exact begins.frame at.0 equal)) ∙ sym begins.is

-- a target below a node begins with the node's first child, or within the node
pub child_below : (cs : List NodeView) (into below : MergeTarget) (node : NodeView) (gs : Path) (kept place : ℕ) → slice_get cs into.node ≡ Some node → 0 < kept → below ≡ target_below into gs kept place node.first → IsBelow cs into.node below
child_below cs into below node [] kept place there some is c at whole = ap (λ (t : MergeTarget). t.node) is ∙ ap (λ (v : NodeView). v.first) (same_Some node c (sym there ∙ at))
child_below cs into below node (g ∷ gs) kept place there some is c at whole = let e = ap (λ (t : MergeTarget). t.skip) is in absurd (omega (arith, e, whole, some))
