-- Changes of nodes that hold a forest of chains.
use Rattle.std.proofs.Common.{◌≡◌, ◌≢◌, ℕ, suc, ◌+◌, ◌<◌, ◌≤◌, List, [], ◌∷◌, ◌++◌, length, take, refl, sym, ap, ◌∙◌, arith, inl, inr, append-nil}
use Rattle.std.specs.Prelude.{slice_get, Some}
use Rattle.std.proofs.Math.Seq.{take-append_seam}
use Rattle.std.proofs.lemmas.List.{length-append}
use Rattle.std.proofs.lemmas.Bool.{cases_lt}
use Rattle.std.proofs.lemmas.Option.{slice_get_within}
use Rattle.call_path.specs.Path.{Path}
use Rattle.prefix_tree.specs.Tree.{Marks}
use Rattle.arena_tree.specs.declared.node.Link.{Link}
use Rattle.arena_tree.specs.declared.node.Link.TheVariants.{Top, FirstOf, NextOf}
use Rattle.arena_tree.specs.declared.node.ChangeStep.TheVariants.{New}
use Rattle.arena_tree.specs.NodeViews.{NodeView}
use Rattle.arena_tree.specs.RowMerge.{united_marks}
use Rattle.arena_tree.specs.ChainForest.{ChainForest, no_chains, chain_node, row_marks, count_nodes, cut_count}
use Rattle.arena_tree.specs.Placement.{first_place, count_place, HasDistinctPlaces, node_view, AreNodesOf}
use Rattle.arena_tree.specs.Links.{LinkedNodes, with_change, with_first, with_next, relink, first_after, LeadsTo, IsOutside, IsNotAt}
use Rattle.arena_tree.specs.Steps.{new_view, more_for, with_more_marks, with_frames, apply_step, shared_step, rest_over, count_among, Becomes}
use Rattle.arena_tree.proofs.More.{more_makes_union}
use Rattle.arena_tree.proofs.Counting.{agrees, count_among-below, count_among-one, count_among-add, inside, nodes_still_hold, below_all, span_in}
use Rattle.arena_tree.proofs.Changes.{change_same, change_other, length-with_change, length-relink, relink_other, relink_same, begins_same, at_end, before_end}

pub off_else : (l : Link) (k : ChainForest) (y : ℕ) → IsOutside l k → 1 ≤ count_place y k → IsNotAt l y
off_else Top k y off some = tt
off_else (FirstOf a) k y off some = λ e. let z : count_place y k ≡ 0 = ap (λ v. count_place v k) e ∙ off in omega (arith, some, z)
off_else (NextOf a) k y off some = λ e. let z : count_place y k ≡ 0 = ap (λ v. count_place v k) e ∙ off in omega (arith, some, z)

abbrev pub Premises : Link → ℕ → ChainForest → LinkedNodes → Type 0 → Type 0
Premises l n k h X = length h.nodes ≡ n → AreNodesOf h.nodes k → HasDistinctPlaces k → IsOutside l k → LeadsTo l h (first_place k) → X

pub nothing_new : (l : Link) (k : ChainForest) (h : LinkedNodes) → AreNodesOf h.nodes k → LeadsTo l h (first_place k) → Becomes l k k 0 h h
nothing_new l k h nodes_hold to = record {
  nodes_hold = nodes_hold;
  count = omega arith;
  rest = λ y lt out. sym (relink_same l h (first_place k) y to);
  first = begins_same l h (first_place k) to;
  places = λ y. omega arith;
  size = omega arith;
}

-- a new node before the others
module _ (l : Link) (n : ℕ) (g : List ℕ) (gs : Path) (w : Marks) (k c' t' : ChainForest) (mc mt : ℕ) (h h2 h3 : LinkedNodes) where
  abbrev x : NodeView
  x = new_view g gs w (first_place k)

  abbrev h1 : LinkedNodes
  h1 = apply_step h (New l x)

  module _ (len : length h.nodes ≡ n) (nodes_hold : AreNodesOf h.nodes k) (no_common : HasDistinctPlaces k) (off : IsOutside l k)
      (ih_c : Premises (FirstOf n) (suc n) no_chains h1 (Becomes (FirstOf n) no_chains c' mc h1 h2)) where
    len0 : length (relink l (length h.nodes) h.nodes) ≡ n
    len0 = length-relink l (length h.nodes) h.nodes ∙ len

    pub len1 : length h1.nodes ≡ suc n
    len1 = let e = length-append (relink l (length h.nodes) h.nodes) (x ∷ []) in omega (arith, e, len0)

    at_n : slice_get h1.nodes n ≡ Some x
    at_n = at_end (relink l (length h.nodes) h.nodes) n x len0

    below1 : (y : ℕ) → y < n → slice_get h1.nodes y ≡ slice_get (relink l n h.nodes) y
    below1 y lt = before_end (relink l (length h.nodes) h.nodes) y x (omega (arith, lt, len0)) ∙ ap (λ v. slice_get (relink l v h.nodes) y) len

    b1 : Becomes (FirstOf n) no_chains c' mc h1 h2
    b1 = ih_c len1 tt (λ y. omega arith) refl (x, at_n, refl)

    rest1 : (y : ℕ) → y < suc n → slice_get h2.nodes y ≡ slice_get (with_change n (with_first (first_place c')) h1.nodes) y
    rest1 y lt = b1.rest y (omega (arith, lt, len1)) refl

    at_n2 : slice_get h2.nodes n ≡ Some (with_first (first_place c') x)
    at_n2 = rest1 n (omega arith) ∙ change_same h1.nodes n (with_first (first_place c')) x at_n

    below2 : (y : ℕ) → y < n → slice_get h2.nodes y ≡ slice_get (relink l n h.nodes) y
    below2 y lt = rest1 y (omega (arith, lt)) ∙ change_other h1.nodes n y (with_first (first_place c')) (λ e. omega (arith, e, lt)) ∙ below1 y lt

    pub len2 : length h2.nodes ≡ suc n + mc
    len2 = let e = b1.count in omega (arith, e, len1)

    pub lies_k : AreNodesOf h2.nodes k
    lies_k = nodes_still_hold h.nodes h2.nodes k (λ y some. below2 y (below_all h.nodes k n y len nodes_hold some) ∙ relink_other l n h.nodes y (off_else l k y off some)) nodes_hold

    pub off_n : (y : ℕ) → n ≤ y → count_place y k ≡ 0
    off_n y ge = inside h.nodes k y nodes_hold (omega (arith, len, ge))

    module _ (ih_t : Premises (NextOf n) (suc n + mc) k h2 (Becomes (NextOf n) k t' mt h2 h3)) where
      b2 : Becomes (NextOf n) k t' mt h2 h3
      b2 = ih_t len2 lies_k no_common (off_n n (omega arith)) (with_first (first_place c') x, at_n2, refl)

      rest2 : (y : ℕ) → y < suc n + mc → count_place y k ≡ 0 → slice_get h3.nodes y ≡ slice_get (with_change n (with_next (first_place t')) h2.nodes) y
      rest2 y lt out = b2.rest y (omega (arith, lt, len2)) out

      at_n3 : slice_get h3.nodes n ≡ Some (node_view g gs w c' t')
      at_n3 = rest2 n (omega arith) (off_n n (omega arith)) ∙ change_same h2.nodes n (with_next (first_place t')) (with_first (first_place c') x) at_n2

      places_c : (y : ℕ) → count_place y c' ≡ count_among y (suc n) mc
      places_c y = let e = b1.places y in let s : count_among y (length h1.nodes) mc ≡ count_among y (suc n) mc = ap (λ v. count_among y v mc) len1 in omega (arith, e, s)

      kept_c : (y : ℕ) → 1 ≤ count_place y c' → slice_get h3.nodes y ≡ slice_get h2.nodes y
      kept_c y some =
          let e = places_c y in
          let there : (suc n ≤ y) × (y < suc n + mc) = span_in y (suc n) mc (omega (arith, e, some)) in
          rest2 y there.1 (off_n y (omega (arith, there.0))) ∙ change_other h2.nodes n y (with_next (first_place t')) (λ e. omega (arith, e, there.0))

      pub new_case : Becomes l k (chain_node n g gs w c' t') (suc (mc + mt)) h h3
      new_case = record {
        nodes_hold = (at_n3, nodes_still_hold h2.nodes h3.nodes c' kept_c b1.nodes_hold, b2.nodes_hold);
        count = let e = b2.count in omega (arith, e, len, len2);
        rest = λ y lt out.
            let lt' : y < n = omega (arith, lt, len) in
            rest2 y (omega (arith, lt')) out ∙ change_other h2.nodes n y (with_next (first_place t')) (λ e. omega (arith, e, lt')) ∙ below2 y lt';
        first = b2.first ∙ b1.first ∙ ap (λ v. first_after l v h.first) len;
        places = λ y.
            let one = places_c y in
            let two = b2.places y in
            let at : count_among y (length h2.nodes) mt ≡ count_among y (suc n + mc) mt = ap (λ v. count_among y v mt) len2 in
            let all : count_among y (length h.nodes) (suc (mc + mt)) ≡ count_among y n (suc (mc + mt)) = ap (λ v. count_among y v (suc (mc + mt))) len in
            let add = count_among-add y (suc n) mc mt (mc + mt) refl in
            omega (arith, one, two, at, all, add);
        size = let one = b1.size in let two = b2.size in omega (arith, one, two);
      }

-- the first frame of a chain and those that it has in common
first_frames : (f : List ℕ) (fs common mine : Path) → fs ≡ common ++ mine → take (length common + 1) (f ∷ fs) ≡ f ∷ common
first_frames f fs common mine is =
    let long : length common + 1 ≡ suc (length common) = omega arith in
    ap (λ n. take n (f ∷ fs)) long ∙ ap (λ p. f ∷ take (length common) p) is ∙ ap (λ p. f ∷ p) (take-append_seam common mine)

-- a node with other marks, which may be cut; what stands below it then
pub record Opened (h h1 : LinkedNodes) (n a : ℕ) (f : List ℕ) (common : Path) (v : Marks) (kb b s : ChainForest) (m : ℕ) : Type 0 where
  pub len : length h1.nodes ≡ m + n
  pub here : slice_get h1.nodes a ≡ Some (node_view f common v kb s)
  pub kept : (y : ℕ) → y < n → y ≢ a → slice_get h1.nodes y ≡ slice_get h.nodes y
  pub nodes_hold : AreNodesOf h1.nodes kb
  pub places : (y : ℕ) → count_place y kb ≡ count_place y b + count_among y n m
  pub size : count_nodes kb ≡ count_nodes b + m
  pub first : h1.first ≡ h.first

module _ (n a : ℕ) (f : List ℕ) (fs common : Path) (w m : Marks) (b s : ChainForest) (h : LinkedNodes) (len : length h.nodes ≡ n) (nodes_hold : AreNodesOf h.nodes (chain_node a f fs m b s)) (no_common : HasDistinctPlaces (chain_node a f fs m b s)) where
  in_all : a < length h.nodes
  in_all = slice_get_within h.nodes a (node_view f fs m b s) nodes_hold.0

  other : (y : ℕ) → 1 ≤ count_place y b → y ≢ a
  other y some e =
      let here = no_common a in
      let o = agrees a a refl in
      let z : count_place y b ≡ count_place a b = ap (λ u. count_place u b) e in
      omega (arith, some, here, o, z)

  pub node_shared : (mine : Path) → fs ≡ common ++ mine → Opened h (apply_step h (shared_step a mine common w m b)) n a f common (united_marks (row_marks mine m) w) (rest_over n mine m b) b s (cut_count mine)
  node_shared [] is =
      let up : NodeView → NodeView = with_more_marks (more_for m.0 w.0) (more_for m.1 w.1) in
      record {
        len = let e = length-with_change h.nodes a up in omega (arith, e, len);
        here = change_same h.nodes a up (node_view f fs m b s) nodes_hold.0
            ∙ (λ i. Some (node_view f ((is ∙ append-nil common) i) (more_makes_union m.0 w.0 i, more_makes_union m.1 w.1 i) b s));
        kept = λ y lt ne. change_other h.nodes a y up ne;
        nodes_hold = nodes_still_hold h.nodes (with_change a up h.nodes) b (λ y some. change_other h.nodes a y up (other y some)) nodes_hold.1;
        places = λ y. omega arith;
        size = omega arith;
        first = refl;
      }
  node_shared (g ∷ gs) is =
      let v : Marks = united_marks (row_marks (g ∷ gs) m) w in
      let up : NodeView → NodeView = with_frames (length common) v.0 v.1 (length h.nodes) in
      let low : NodeView = record { frames = g ∷ gs; label = m.0; ends = m.1; first = first_place b; next = 4294967295 } in
      let long : length (with_change a up h.nodes) ≡ n = length-with_change h.nodes a up ∙ len in
      let same : (y : ℕ) → y < n → y ≢ a → slice_get (with_change a up h.nodes ++ low ∷ []) y ≡ slice_get h.nodes y = (λ y lt ne. before_end (with_change a up h.nodes) y low (omega (arith, lt, long)) ∙ change_other h.nodes a y up ne) in
      record {
        len = let e = length-append (with_change a up h.nodes) (low ∷ []) in omega (arith, e, long);
        here = before_end (with_change a up h.nodes) a low (omega (arith, in_all, len, long)) ∙ change_same h.nodes a up (node_view f fs m b s) nodes_hold.0
            ∙ (λ i. Some (record { frames = first_frames f fs common (g ∷ gs) is i; label = v.0; ends = v.1; first = len i; next = first_place s }));
        kept = same;
        nodes_hold = (at_end (with_change a up h.nodes) n low long, nodes_still_hold h.nodes (with_change a up h.nodes ++ low ∷ []) b (λ y some. same y (below_all h.nodes b n y len nodes_hold.1 some) (other y some)) nodes_hold.1, tt);
        places = λ y. omega arith;
        size = omega arith;
        first = refl;
      }

-- two nodes that begin with one frame
module _ (l : Link) (n a : ℕ) (f : List ℕ) (fs common : Path) (m v : Marks) (b s kb b' s' : ChainForest) (mo mb ms : ℕ) (h h1 h2 h3 : LinkedNodes) where
  module _ (len : length h.nodes ≡ n) (nodes_hold : AreNodesOf h.nodes (chain_node a f fs m b s)) (no_common : HasDistinctPlaces (chain_node a f fs m b s))
      (cut_in : Opened h h1 n a f common v kb b s mo)
      (ih_b : Premises (FirstOf a) (mo + n) kb h1 (Becomes (FirstOf a) kb b' mb h1 h2)) where
    a_in : a < n
    a_in = let e = slice_get_within h.nodes a (node_view f fs m b s) nodes_hold.0 in omega (arith, e, len)

    off_b : count_place a b ≡ 0
    off_b = let e = no_common a in let o = agrees a a refl in omega (arith, e, o)

    pub off_s : count_place a s ≡ 0
    off_s = let e = no_common a in let o = agrees a a refl in omega (arith, e, o)

    -- below the node stands nothing new with a place before n
    old_kb : (y : ℕ) → y < n → count_place y kb ≡ count_place y b
    old_kb y lt = let e = cut_in.places y in let none = count_among-below y n mo lt in omega (arith, e, none)

    pub apart_kb : HasDistinctPlaces kb
    apart_kb y = elim (cases_lt y n) [
      | inl lt ↦ (let e = old_kb y lt in let one = no_common y in omega (arith, e, one))
      | inr ge ↦ (let e = cut_in.places y in let none = inside h.nodes b y nodes_hold.1 (omega (arith, ge, len)) in let one = count_among-one y n mo in omega (arith, e, none, one))
    ]

    pub off_kb : count_place a kb ≡ 0
    off_kb = old_kb a a_in ∙ off_b

    long1 : length h1.nodes ≡ mo + n
    long1 = cut_in.len

    e1 : Becomes (FirstOf a) kb b' mb h1 h2
    e1 = ih_b long1 cut_in.nodes_hold apart_kb off_kb (node_view f common v kb s, cut_in.here, refl)

    in_2 : slice_get h2.nodes a ≡ Some (node_view f common v b' s)
    in_2 = e1.rest a (omega (arith, a_in, long1)) off_kb ∙ change_same h1.nodes a (with_first (first_place b')) (node_view f common v kb s) cut_in.here

    pub long2 : length h2.nodes ≡ mo + n + mb
    long2 = let e = e1.count in omega (arith, e, long1)

    -- what is not below the node, nor it
    kept2 : (y : ℕ) → y < n → count_place y b ≡ 0 → y ≢ a → slice_get h2.nodes y ≡ slice_get h.nodes y
    kept2 y lt out ne = e1.rest y (omega (arith, lt, long1)) (old_kb y lt ∙ out) ∙ change_other h1.nodes a y (with_first (first_place b')) ne ∙ cut_in.kept y lt ne

    other_s : (y : ℕ) → 1 ≤ count_place y s → y ≢ a
    other_s y some e = let z : count_place y s ≡ 0 = ap (λ u. count_place u s) e ∙ off_s in omega (arith, some, z)

    pub lies_s : AreNodesOf h2.nodes s
    lies_s = nodes_still_hold h.nodes h2.nodes s (λ y some. kept2 y (below_all h.nodes s n y len nodes_hold.2 some) (let e = no_common y in omega (arith, e, some)) (other_s y some)) nodes_hold.2

    module _ (to : LeadsTo l h a) (ih_s : Premises (NextOf a) (mo + n + mb) s h2 (Becomes (NextOf a) s s' ms h2 h3)) where
      e2 : Becomes (NextOf a) s s' ms h2 h3
      e2 = ih_s long2 lies_s (λ y. let e = no_common y in omega (arith, e)) off_s (node_view f common v b' s, in_2, refl)

      in_3 : slice_get h3.nodes a ≡ Some (node_view f common v b' s')
      in_3 = e2.rest a (omega (arith, a_in, long2)) off_s ∙ change_same h2.nodes a (with_next (first_place s')) (node_view f common v b' s) in_2

      old_b : (y : ℕ) → y < n → count_place y b' ≡ count_place y b
      old_b y lt = let e = e1.places y in let none = count_among-below y (length h1.nodes) mb (omega (arith, lt, long1)) in let o = old_kb y lt in omega (arith, e, none, o)

      other_b : (y : ℕ) → 1 ≤ count_place y b' → y ≢ a
      other_b y some e =
          let z : count_place y b' ≡ count_place a b' = ap (λ u. count_place u b') e in
          let o = old_b a a_in in
          omega (arith, some, z, o, off_b)

      off_new : (y : ℕ) → 1 ≤ count_place y b' → count_place y s ≡ 0
      off_new y some = elim (cases_lt y n) [
        | inl lt ↦ (let o = old_b y lt in let e = no_common y in omega (arith, some, o, e))
        | inr ge ↦ inside h.nodes s y nodes_hold.2 (omega (arith, ge, len))
      ]

      kept_b : (y : ℕ) → 1 ≤ count_place y b' → slice_get h3.nodes y ≡ slice_get h2.nodes y
      kept_b y some =
          let lt : y < mo + n + mb = below_all h2.nodes b' (mo + n + mb) y long2 e1.nodes_hold some in
          e2.rest y (omega (arith, lt, long2)) (off_new y some) ∙ change_other h2.nodes a y (with_next (first_place s')) (other_b y some)

      pub same_case : Becomes l (chain_node a f fs m b s) (chain_node a f common v b' s') (mo + mb + ms) h h3
      same_case = record {
        nodes_hold = (in_3, nodes_still_hold h2.nodes h3.nodes b' kept_b e1.nodes_hold, e2.nodes_hold);
        count = let e = e2.count in omega (arith, e, len, long2);
        rest = λ y lt out.
            let ne : y ≢ a = (λ e. let o = agrees y a e in omega (arith, out, o)) in
            let lt' : y < n = omega (arith, lt, len) in
            e2.rest y (omega (arith, lt', long2)) (omega (arith, out)) ∙ change_other h2.nodes a y (with_next (first_place s')) ne
            ∙ kept2 y lt' (omega (arith, out)) ne ∙ sym (relink_same l h a y to);
        first = e2.first ∙ e1.first ∙ cut_in.first ∙ begins_same l h a to;
        places = λ y.
            let o = cut_in.places y in
            let one = e1.places y in
            let two = e2.places y in
            let at1 : count_among y (length h1.nodes) mb ≡ count_among y (n + mo) mb = ap (λ u. count_among y u mb) (omega (arith, long1)) in
            let at2 : count_among y (length h2.nodes) ms ≡ count_among y (n + (mo + mb)) ms = ap (λ u. count_among y u ms) (omega (arith, long2)) in
            let all : count_among y (length h.nodes) (mo + mb + ms) ≡ count_among y n (mo + mb + ms) = ap (λ u. count_among y u (mo + mb + ms)) len in
            let add1 = count_among-add y n mo mb (mo + mb) refl in
            let add2 = count_among-add y n (mo + mb) ms (mo + mb + ms) refl in
            omega (arith, o, one, two, at1, at2, all, add1, add2);
        size = let o = cut_in.size in let one = e1.size in let two = e2.size in omega (arith, o, one, two);
      }

-- a node is passed
module _ (l : Link) (n a : ℕ) (f : List ℕ) (fs : Path) (m : Marks) (b s s' : ChainForest) (ms : ℕ) (h h1 : LinkedNodes) where
  module _ (len : length h.nodes ≡ n) (nodes_hold : AreNodesOf h.nodes (chain_node a f fs m b s)) (no_common : HasDistinctPlaces (chain_node a f fs m b s)) (to : LeadsTo l h a)
      (ih : Premises (NextOf a) n s h (Becomes (NextOf a) s s' ms h h1)) where
    off_1 : count_place a s ≡ 0
    off_1 = let e = no_common a in let o = agrees a a refl in omega (arith, e, o)

    q1 : Becomes (NextOf a) s s' ms h h1
    q1 = ih len nodes_hold.2 (λ y. let e = no_common y in omega (arith, e)) off_1 (node_view f fs m b s, nodes_hold.0, refl)

    at_a : slice_get h1.nodes a ≡ Some (node_view f fs m b s')
    at_a = q1.rest a (slice_get_within h.nodes a (node_view f fs m b s) nodes_hold.0) off_1 ∙ change_same h.nodes a (with_next (first_place s')) (node_view f fs m b s) nodes_hold.0

    other_1 : (y : ℕ) → 1 ≤ count_place y b → y ≢ a
    other_1 y some e =
        let here = no_common a in
        let o = agrees a a refl in
        let z : count_place y b ≡ count_place a b = ap (λ u. count_place u b) e in
        omega (arith, some, here, o, z)

    pub pass_case : Becomes l (chain_node a f fs m b s) (chain_node a f fs m b s') ms h h1
    pass_case = record {
      nodes_hold = (at_a, nodes_still_hold h.nodes h1.nodes b (λ y some. q1.rest y (below_all h.nodes b (length h.nodes) y refl nodes_hold.1 some) (let e = no_common y in omega (arith, e, some)) ∙ change_other h.nodes a y (with_next (first_place s')) (other_1 y some)) nodes_hold.1, q1.nodes_hold);
      count = q1.count;
      rest = λ y lt out.
          let ne : y ≢ a = (λ e. let o = agrees y a e in omega (arith, out, o)) in
          q1.rest y lt (omega (arith, out)) ∙ change_other h.nodes a y (with_next (first_place s')) ne ∙ sym (relink_same l h a y to);
      first = q1.first ∙ begins_same l h a to;
      places = λ y. let e = q1.places y in omega (arith, e);
      size = let e = q1.size in omega (arith, e);
    }
