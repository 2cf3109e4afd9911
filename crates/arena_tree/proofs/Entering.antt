-- The first frames of a chain are merged into nodes.
use Rattle.std.proofs.Common.{◌≡◌, ℕ, suc, ◌+◌, ◌-◌, ◌<◌, ◌≤◌, List, [], ◌∷◌, ◌++◌, length, drop, take, refl, sym, ap, ◌∙◌, subst, arith}
use Rattle.std.specs.Prelude.{slice_get, Some}
use Rattle.std.specs.declared.cmp.Ordering.{Ordering}
use Rattle.std.specs.declared.cmp.Ordering.TheVariants.{Less, Equal, Greater}
use Rattle.std.proofs.lemmas.List.{length-drop}
use Rattle.rank_set.specs.Ranks.{Ranks}
use Rattle.call_path.specs.Path.{Path}
use Rattle.call_path.proofs.Orders.{from_frame}
use Rattle.prefix_tree.specs.Tree.{Marks}
use Rattle.prefix_tree.specs.Owned.{by_order}
use Rattle.arena_tree.specs.declared.node.Link.{Link}
use Rattle.arena_tree.specs.declared.node.Link.TheVariants.{Top, FirstOf, NextOf}
use Rattle.arena_tree.specs.declared.node.ChangeStep.{ChangeStep}
use Rattle.arena_tree.specs.declared.target.MergeTarget.{MergeTarget}
use Rattle.arena_tree.specs.NodeViews.{NodeView}
use Rattle.arena_tree.specs.RowForest.{frame_cmp}
use Rattle.arena_tree.specs.RowMerge.{united_marks}
use Rattle.arena_tree.specs.ChainForest.{ChainForest, no_chains, chain_node, row_ends, row_marks, count_nodes, split_frames, split_parts, cut_count}
use Rattle.arena_tree.specs.ChainMerge.{added_marks, new_nodes, merge_chains}
use Rattle.arena_tree.specs.Placement.{first_place, HasDistinctPlaces, AreNodesOf}
use Rattle.arena_tree.specs.Links.{LinkedNodes}
use Rattle.arena_tree.specs.Steps.{apply_step, apply_steps, shared_step, rest_over, nodes_added, rows_added, rows_added_by, merge_steps, Becomes}
use Rattle.arena_tree.specs.Reading.{chain_of, forest_at}
use Rattle.arena_tree.specs.Targets.{target_forest, IsAfter, next_of}
use Rattle.arena_tree.specs.Plans.{BeginsAt, step_at}
use Rattle.arena_tree.specs.Trail.{below_first}
use Rattle.arena_tree.specs.Growth.{all_at, place_below, CanGrow, grown, rows_grown, GoesOn, Enters}
use Rattle.arena_tree.proofs.Cases.{Premises, Opened, node_shared, apart_kb, off_kb, off_s, lies_s, long2}
use Rattle.arena_tree.proofs.MergedSteps.{apply_steps-append, split_own, merge_done}
use Rattle.arena_tree.proofs.SharedFrames.{some_at}
use Rattle.arena_tree.proofs.Totals.{rows_added-append, merge_nodes}
use Rattle.arena_tree.proofs.Planning.{ReadsBehind, reads_behind, side_at, target_frame}
use Rattle.arena_tree.proofs.Sharing.{parts, step_is, parts_known, few_cuts, rows_at}
use Rattle.arena_tree.proofs.GrowingPlaces.{holds_at, fits_at, Stands, stands, whole_forest}

-- the place of a chain that is merged is of no account
by_three : (r : Ordering) (s1 s2 s3 t3 : List ChangeStep) → s3 ≡ t3 → by_order r s1 s2 s3 ≡ by_order r s1 s2 t3
by_three Less s1 s2 s3 t3 c = refl
by_three Equal s1 s2 s3 t3 c = refl
by_three Greater s1 s2 s3 t3 c = c

place_free : (l : Link) (n x y : ℕ) (k : ChainForest) (g : List ℕ) (gs : Path) (w : Marks) (c t : ChainForest) → merge_steps l n k (chain_node x g gs w c t) ≡ merge_steps l n k (chain_node y g gs w c t)
place_free l n x y no_chains g gs w c t = refl
place_free l n x y (chain_node a f fs m b s) g gs w c t = by_three (frame_cmp g f) _ _ _ _ (place_free (NextOf a) n x y s g gs w c t)

pub rest_free : (l : Link) (n x y : ℕ) (k : ChainForest) (gs : Path) (w : Marks) (c : ChainForest) → merge_steps l n k (rest_over x gs w c) ≡ merge_steps l n k (rest_over y gs w c)
rest_free l n x y k [] w c = refl
rest_free l n x y k (g ∷ gs) w c = place_free l n x y k g gs w c no_chains

pub chain_free : (l : Link) (n x y : ℕ) (k : ChainForest) (gs : Path) (w : Marks) (c t : ChainForest) → merge_steps l n k (chain_of x gs w c t) ≡ merge_steps l n k (chain_of y gs w c t)
chain_free l n x y k [] w c t = refl
chain_free l n x y k (g ∷ gs) w c t = place_free l n x y k g gs w c t

-- a step, what comes below, and what comes after it
module _ (h h1 h2 : LinkedNodes) (into rest below : MergeTarget) (fs gs : Path) (w : Marks) (y : ℕ) (c : ChainForest) (r r1 r2 : ℕ) (step : ChangeStep) (kb s : ChainForest) (lb lr : Link) (m2 : ℕ)
    (made : h1 ≡ apply_step h step) (rows : r1 ≡ r + rows_added_by step)
    (below_link : below.link ≡ lb) (below_stands : target_forest h1.nodes below ≡ kb)
    (split : (x : ℕ) (t : ChainForest) → merge_steps into.link (length h.nodes) (target_forest h.nodes into) (chain_of x fs w c t) ≡ step ∷ merge_steps lb (length h1.nodes) kb (rest_over y gs w c) ++ merge_steps lr m2 s t)
    (h2_is : h2 ≡ grown h1 below (rest_over y gs w c)) (r2_is : r2 ≡ r1 + rows_grown h1 below (rest_over y gs w c))
    (rest_link : rest.link ≡ lr) (rest_stands : Stands h2.nodes s rest) (long : m2 ≡ length h2.nodes) where
  abbrev later : ChainForest → List ChangeStep
  later t = merge_steps lr m2 s t

  abbrev first : List ChangeStep
  first = merge_steps lb (length h1.nodes) kb (rest_over y gs w c)

  first_is : merge_steps below.link (length h1.nodes) (target_forest h1.nodes below) (rest_over y gs w c) ≡ first
  first_is = λ i. merge_steps (below_link i) (length h1.nodes) (below_stands i) (rest_over y gs w c)

  later_is : (t : ChainForest) → later t ≡ merge_steps rest.link (length h2.nodes) (target_forest h2.nodes rest) t
  later_is t = λ i. merge_steps (sym rest_link i) (long i) (sym rest_stands.is i) t

  pub goes_on_after : GoesOn h h2 into rest fs w c r r2
  goes_on_after = record {
    rest_grows = rest_stands.grows;
    same = λ x t.
        ap (apply_steps h) (split x t)
        ∙ apply_steps-append (apply_step h step) first (later t)
        ∙ (λ i. apply_steps (apply_steps (sym made i) (sym first_is i)) (later t))
        ∙ (λ i. apply_steps (sym h2_is i) (later_is t i));
    rows = λ x t.
        let one : rows_added (merge_steps into.link (length h.nodes) (target_forest h.nodes into) (chain_of x fs w c t)) ≡ rows_added_by step + rows_added (first ++ later t) = ap rows_added (split x t) in
        let two = rows_added-append first (later t) in
        let below_rows = ap rows_added first_is in
        let later_rows = ap rows_added (later_is t) in
        omega (arith, one, two, below_rows, later_rows, rows, r2_is);
  }

first_rest : (own : Path) (n : ℕ) (m : Marks) (b : ChainForest) (x : ℕ) → first_place b ≡ x → first_place (rest_over n own m b) ≡ place_below own n x
first_rest [] n m b x e = e
first_rest (g ∷ gs) n m b x e = refl

-- a node that begins with the same frame
module _ (h : LinkedNodes) (into : MergeTarget) (c : NodeView) (grows : CanGrow h.nodes into) (there : slice_get h.nodes into.node ≡ Some c)
    (p : Path) (skip n0 : ℕ) (begins : BeginsAt h.nodes into p skip)
    (is_split : split_frames (drop (into.skip + 1) c.frames) (drop (skip + 1) p) ≡ split_parts (take n0 (drop (into.skip + 1) c.frames)) (drop (into.skip + 1 + n0) c.frames) (drop (skip + 1 + n0) p))
    (within : into.skip + 1 + n0 ≤ length c.frames)
    (label ends more : Ranks) (more_is : more ≡ row_ends (drop (skip + (1 + n0)) p) ends) (few : length h.nodes < 4096) (h1 : LinkedNodes)
    (made : h1 ≡ apply_step h (step_at into.place (1 + n0 - 1) (drop (into.skip + (1 + n0)) c.frames) (label, more) (c.label, c.ends) c.first)) where
  abbrev cs : List NodeView
  cs = h.nodes

  abbrev n : ℕ
  n = length h.nodes

  abbrev a : ℕ
  a = into.place

  abbrev fs : Path
  fs = drop (into.skip + 1) c.frames

  abbrev gs : Path
  gs = drop (skip + 1) p

  abbrev common : Path
  common = take n0 fs

  abbrev own : Path
  own = drop (into.skip + (1 + n0)) c.frames

  abbrev other : Path
  other = drop (skip + (1 + n0)) p

  abbrev m : Marks
  m = (c.label, c.ends)

  abbrev w : Marks
  w = (label, ends)

  abbrev b : ChainForest
  b = forest_at h.nodes c.first

  abbrev s : ChainForest
  s = forest_at h.nodes (next_of into.skip c.next)

  abbrev mo : ℕ
  mo = cut_count own

  abbrev kb : ChainForest
  kb = rest_over n own m b

  abbrev up : Marks
  up = added_marks (split_parts common own other) w

  abbrev v : Marks
  v = united_marks (row_marks own m) up

  abbrev step : ChangeStep
  step = step_at into.place (1 + n0 - 1) own (label, more) m c.first

  at : (f : List ℕ) × (slice_get c.frames into.skip ≡ Some f)
  at = some_at c.frames into.skip (target_frame cs into.node into.place into.skip c grows.leads there)

  abbrev f : List ℕ
  f = at.0

  read : ReadsBehind cs into.node into.place into.skip c f
  read = reads_behind cs into.node into.place into.skip c f grows.leads there at.1

  same_frame : frame_cmp begins.frame f ≡ Equal
  same_frame = sym (side_at cs into.node into.place into.skip c f read begins.frame) ∙ begins.side

  parted_so : split_frames fs gs ≡ split_parts common own other
  parted_so = parts cs into c grows.leads there p skip n0 begins is_split within label ends more more_is

  shared_so : shared_step a own common up m b ≡ step
  shared_so = step_is cs into c grows.leads there p skip n0 begins is_split within label ends more more_is

  cut_so : fs ≡ common ++ own
  cut_so = split_own fs gs ∙ (λ i. (parted_so i).common ++ (parted_so i).own)

  nodes_hold : AreNodesOf cs (chain_node a f fs m b s)
  nodes_hold = subst (AreNodesOf cs) read.is (holds_at cs into.node into.place into.skip grows.whole grows.leads)

  distinct : HasDistinctPlaces (chain_node a f fs m b s)
  distinct = subst HasDistinctPlaces read.is grows.distinct

  opened : Opened h h1 n a f common v kb b s mo
  opened =
      subst (λ (g : LinkedNodes). Opened h g n a f common v kb b s mo) (ap (apply_step h) shared_so ∙ sym made)
      (node_shared n a f fs common up m b s h refl nodes_hold distinct own cut_so)

  fits : suc (count_nodes b + count_nodes s) ≤ n
  fits = let all = fits_at cs into.node into.place into.skip grows.whole grows.leads in let e = ap count_nodes read.is in omega (arith, all, e)

  pub few_more : length h1.nodes ≤ suc n
  few_more = let e = opened.len in let one = few_cuts own in omega (arith, e, one)

  becomes : (o : ChainForest) → Premises (FirstOf a) (mo + n) kb h1 (Becomes (FirstOf a) kb (merge_chains (mo + n) kb o) (new_nodes [] kb [] o) h1 (apply_steps h1 (merge_steps (FirstOf a) (mo + n) kb o)))
  becomes o = merge_done (FirstOf a) (mo + n) kb o h1

  module _ (below : MergeTarget) (below_is : below ≡ all_at (FirstOf into.place) (place_below own n c.first)) where
    abbrev h_none : LinkedNodes
    h_none = apply_steps h1 (merge_steps (FirstOf a) (mo + n) kb no_chains)

    pub below_stands : Stands h1.nodes kb below
    below_stands =
        stands h1.nodes (FirstOf a) kb (place_below own n c.first) below (first_rest own n m b c.first read.first.begins) opened.nodes_hold
        (let e = opened.size in let long = opened.len in omega (arith, e, long, fits)) (omega (arith, few_more, few))
        (apart_kb Top n a f fs common m v b s kb (merge_chains (mo + n) kb no_chains) s mo (new_nodes [] kb [] no_chains) 0 h h1 h_none h_none refl nodes_hold distinct opened (becomes no_chains))
        (off_kb Top n a f fs common m v b s kb (merge_chains (mo + n) kb no_chains) s mo (new_nodes [] kb [] no_chains) 0 h h1 h_none h_none refl nodes_hold distinct opened (becomes no_chains))
        below_is

    -- where no node is cut
    pub below_uncut : length h1.nodes ≡ n → forest_at h1.nodes below.node ≡ below_first (target_forest cs into)
    below_uncut same =
        sym (whole_forest h1.nodes below below_stands.grows.whole) ∙ below_stands.is ∙ uncut own (let e = opened.len in omega (arith, e, same)) ∙ ap below_first (sym read.is)
      where
        uncut : (own : Path) → cut_count own ≡ 0 → rest_over n own m b ≡ b
        uncut [] e = refl
        uncut (g ∷ gs) e = absurd (omega (arith, e))

    module _ (after : MergeTarget) (after_is : IsAfter into c.next after) (r r1 : ℕ) (rows : r1 ≡ r) where
      module _ (y : ℕ) (u : ChainForest) (h2 : LinkedNodes) (r2 : ℕ) (h2_is : h2 ≡ grown h1 below (rest_over y other w u)) (r2_is : r2 ≡ r1 + rows_grown h1 below (rest_over y other w u)) (few2 : length h2.nodes ≤ 4096) where
        abbrev o : ChainForest
        o = rest_over y other w u

        abbrev mb : ℕ
        mb = new_nodes [] kb [] o

        abbrev g2 : LinkedNodes
        g2 = apply_steps h1 (merge_steps (FirstOf a) (mo + n) kb o)

        link_is : below.link ≡ FirstOf a
        link_is = ap (λ (t : MergeTarget). t.link) below_is

        same2 : h2 ≡ g2
        same2 = h2_is ∙ (λ i. apply_steps h1 (merge_steps (link_is i) (opened.len i) (below_stands.is i) o))

        long : length h1.nodes + mb ≡ length h2.nodes
        long =
            let e = opened.len in
            let all = long2 Top n a f fs common m v b s kb (merge_chains (mo + n) kb o) s mo mb 0 h h1 g2 g2 refl nodes_hold distinct opened (becomes o) in
            let one = ap (λ (g : LinkedNodes). length g.nodes) same2 in
            omega (arith, e, all, one)

        rest_stands : Stands h2.nodes s after
        rest_stands =
            stands h2.nodes (NextOf a) s (next_of into.skip c.next) after read.next.begins
            (subst (λ (g : LinkedNodes). AreNodesOf g.nodes s) (sym same2) (lies_s Top n a f fs common m v b s kb (merge_chains (mo + n) kb o) s mo mb 0 h h1 g2 g2 refl nodes_hold distinct opened (becomes o)))
            (let e = opened.len in omega (arith, fits, e, long)) few2 (λ x. let one = distinct x in omega (arith, one))
            (off_s Top n a f fs common m v b s kb (merge_chains (mo + n) kb o) s mo mb 0 h h1 g2 g2 refl nodes_hold distinct opened (becomes o))
            (λ i. record { link = after_is.link i; node = after_is.node i; skip = after_is.skip i; place = after_is.place i })

        turned : n + mo ≡ length h1.nodes
        turned = let e = opened.len in omega (arith, e)

        counted : new_nodes [] kb [] (rest_over 0 other w u) ≡ mb
        counted = sym (merge_nodes Top 0 kb (rest_over 0 other w u)) ∙ ap nodes_added (rest_free Top 0 0 y kb other w u) ∙ merge_nodes Top 0 kb o

        split : (x : ℕ) (t : ChainForest) → merge_steps into.link n (target_forest cs into) (chain_of x (drop skip p) w u t) ≡ step ∷ merge_steps (FirstOf a) (length h1.nodes) kb o ++ merge_steps (NextOf a) (length h1.nodes + mb) s t
        split x t =
            (λ i. merge_steps into.link n (read.is i) (chain_of x (from_frame p skip begins.frame begins.is i) w u t))
            ∙ parts_known into.link n a x f begins.frame fs gs m w b s u t (split_parts common own other) parted_so same_frame
            ∙ (λ i. shared_so i ∷ merge_steps (FirstOf a) (turned i) kb (rest_over 0 other w u) ++ merge_steps (NextOf a) (turned i + counted i) s t)
            ∙ (λ i. step ∷ rest_free (FirstOf a) (length h1.nodes) 0 y kb other w u i ++ merge_steps (NextOf a) (length h1.nodes + mb) s t)

        goes_on_shared : GoesOn h h2 into after (drop skip p) w u r r2
        goes_on_shared =
            goes_on_after h h1 h2 into after below (drop skip p) other w y u r r1 r2 step kb s (FirstOf a) (NextOf a) (length h1.nodes + mb) made
            (let none = rows_at into.place (1 + n0 - 1) own (label, more) m c.first in omega (arith, rows, none))
            link_is below_stands.is split h2_is r2_is after_is.link rest_stands long

      pub enters_shared : skip + (1 + n0) ≤ length p → Enters h h1 into after below (drop skip p) other w r r1
      enters_shared le =
          let all = length-drop skip p in
          let left = length-drop (skip + (1 + n0)) p in
          record {
            below_grows = below_stands.grows;
            places = omega (arith, few_more, all, left, le);
            rows = omega (arith, rows, all, left, le);
            goes_on = goes_on_shared;
          }
